use Rattle.std.proofs.Common.{◌<◌, length}
use Rattle.table.proofs.many.are_many.Given as goal

-- few texts so far
abbrev pub invariant-texts : goal.invariant-texts
invariant-texts g l = l.count < 8

abbrev pub decreases-texts : goal.decreases-texts
decreases-texts g l = length l.left
