use Rattle.std.proofs.Common.{◌≡◌, length}
use Rattle.account_model.specs.UsermodRanges.{has_range}
use Rattle.subid_ranges.specs.RangeLines.{ids_from, owner_of}
use Rattle.subid_ranges.proofs.ranges.Ranges.holds.Given as goal

-- the lines left tell what all tell
abbrev pub invariant-lines : goal.invariant-lines
invariant-lines l =
    has_range (owner_of l.owner l.uid) (ids_from l.first l.last) l.left
    ≡ has_range (owner_of l.owner l.uid) (ids_from l.first l.last) l.self

abbrev pub decreases-lines : goal.decreases-lines
decreases-lines l = length l.left
