use Rattle.std.proofs.Common.{length}
use Rattle.std.specs.List.{AllByRecursion}
use Rattle.line_edits.specs.Naming.{LeavesIt}
use Rattle.table.proofs.new_texts.are_left.Given as goal

-- where the texts left are left by the change all are
abbrev pub invariant-texts : goal.invariant-texts
invariant-texts g l =
    let left = LeavesIt g.R.TableRecord.format (g.R.EditedRecord.becomes l.change) in
    AllByRecursion left l.left → AllByRecursion left l.fn.left

abbrev pub decreases-texts : goal.decreases-texts
decreases-texts g l = length l.left
