use Rattle.std.proofs.Common.{◌≡◌, length}
use Rattle.std.specs.Prelude.{find}
use Rattle.acct_text.specs.Lines.{lines_of}
use Rattle.account_model.specs.Format.{records_of}
use Rattle.table.proofs.search.first_passing.Given as goal

-- what is found in the lines left is what is found in all
abbrev pub invariant-lines : goal.invariant-lines
invariant-lines g l =
    let format = g.R.TableRecord.format in
    find (g.T.RecordTest.accepts l.test) (records_of format l.left)
    ≡ find (g.T.RecordTest.accepts l.test) (records_of format (lines_of l.text))

abbrev pub decreases-lines : goal.decreases-lines
decreases-lines g l = length l.left
