use Rattle.std.proofs.Common.{◌≡◌, length}
use Rattle.std.specs.Prelude.{find}
use Rattle.table.specs.TableCells.{records_read}
use Rattle.table.proofs.named_texts.first_accepted.Given as goal

-- what is found among the texts left is what is found among all
abbrev pub invariant-texts : goal.invariant-texts
invariant-texts g l =
    let format = g.R.TableRecord.format in
    find (g.T.RecordTest.accepts l.test) (records_read format l.left)
    ≡ find (g.T.RecordTest.accepts l.test) (records_read format l.fn.left)

abbrev pub decreases-texts : goal.decreases-texts
decreases-texts g l = length l.left
