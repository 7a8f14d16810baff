use Rattle.std.proofs.Common.{◌≡◌, length}
use Rattle.std.specs.List.{list_any}
use Rattle.table.specs.TableCells.{has_named_at}
use Rattle.table.proofs.keyed_cells.KeyedCells.has_at_one.Given as goal

-- a record in one of the places left has the name where one in all has it
abbrev pub invariant-places : goal.invariant-places
invariant-places g l =
    let named = has_named_at g.R.TableRecord.format l.name l.self in
    list_any named l.left ≡ list_any named l.fn.left

abbrev pub decreases-places : goal.decreases-places
decreases-places g l = length l.left
