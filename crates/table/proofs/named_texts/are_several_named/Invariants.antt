use Rattle.std.proofs.Common.{◌≡◌, ◌+◌, length, if◌then◌else◌}
use Rattle.account_model.specs.Format.{count_named}
use Rattle.table.specs.TableCells.{records_read}
use Rattle.table.proofs.named_texts.are_several_named.Given as goal

-- the records of the name among the texts left, with the one that was found, are all
abbrev pub invariant-texts : goal.invariant-texts
invariant-texts g l =
    let format = g.R.TableRecord.format in
    count_named format l.name (records_read format l.fn.left)
    ≡ (if l.is_found then 1 else 0) + count_named format l.name (records_read format l.left)

abbrev pub decreases-texts : goal.decreases-texts
decreases-texts g l = length l.left
