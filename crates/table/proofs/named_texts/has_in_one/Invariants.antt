use Rattle.std.proofs.Common.{◌≡◌, length}
use Rattle.std.specs.List.{list_any}
use Rattle.table.specs.TableCells.{has_named_in}
use Rattle.table.proofs.named_texts.has_in_one.Given as goal

-- a record in one of the places left has the name where one in all has it
abbrev pub invariant-cells : goal.invariant-cells
invariant-cells g l =
    let named = has_named_in g.R.TableRecord.format l.name in
    list_any named l.left ≡ list_any named l.fn.left

abbrev pub decreases-cells : goal.decreases-cells
decreases-cells g l = length l.left
