use Rattle.std.specs.Prelude.{decimal}
use Rattle.real_folder.proofs.names.lock_number.Goals as goal

pub returns-in_err-strip_prefix-clause-file : goal.returns-in_err-strip_prefix-clause-file
returns-in_err-strip_prefix-clause-file c number is = (
  (λ some. absurd (cc (c.from_residual.ensures, some))),
  (λ file. absurd (c.in_err-strip_prefix.ensures.cases (decimal number) file)),
)
