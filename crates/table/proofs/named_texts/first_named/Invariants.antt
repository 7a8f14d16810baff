use Rattle.std.proofs.Common.{◌≡◌, length}
use Rattle.account_model.specs.Format.{find_named}
use Rattle.table.specs.TableCells.{records_read}
use Rattle.table.proofs.named_texts.first_named.Given as goal

-- what is found among the texts left is what is found among all
abbrev pub invariant-texts : goal.invariant-texts
invariant-texts g l =
    let format = g.R.TableRecord.format in
    find_named format l.name (records_read format l.left)
    ≡ find_named format l.name (records_read format l.fn.left)

abbrev pub decreases-texts : goal.decreases-texts
decreases-texts g l = length l.left
