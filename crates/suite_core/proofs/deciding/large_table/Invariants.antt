use Rattle.std.proofs.Common.{◌≡◌, drop}
use Rattle.std.specs.Prelude.{find}
use Rattle.account_model.specs.Answer.{passes_limit}
use Rattle.suite_core.proofs.deciding.large_table.Given as goal

-- what is found among the tables left is what is found among all
abbrev pub invariant-loop-new : goal.invariant-loop-new
invariant-loop-new l =
    find (λ new. passes_limit new.bytes) (drop l.new-index l.new-items)
    ≡ find (λ new. passes_limit new.bytes) l.tables
