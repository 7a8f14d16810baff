-- Claims: nothing came of a source that wasn't read (`none-came`), and a batch reads one (`batch-reads`).
use Rattle.std.proofs.Common.{◌≡◌, [], refl, sym, true, true≢false, Option, Some, None}
use Rattle.acct_text.specs.Bytes.{Bytes}
use Rattle.acct_outside.specs.Streams.{WhereBytesTold}
use Rattle.account_model.specs.declared.tool.Tool.{Tool}
use Rattle.account_model.specs.declared.tool.Tool.TheVariants.{Batch}
use Rattle.account_model.specs.Words.{is_batch}
use Rattle.suite_course.specs.Supplies.{SomeCame, reads_input}

-- nothing came of a source that wasn't read
pub none-came : (left : Option Bytes) → WhereBytesTold left left SomeCame
none-came None = tt
none-came (Some bytes) = ([], refl)

-- a batch reads an input
pub batch-reads : (tool : Tool) → is_batch tool ≡ true → reads_input tool ≡ true
batch-reads Batch is = refl
batch-reads _ is = absurd (true≢false (sym is))
