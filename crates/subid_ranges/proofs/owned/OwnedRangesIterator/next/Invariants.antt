use Rattle.std.proofs.Common.{◌≡◌, length}
use Rattle.subid_ranges.specs.Owned.{owned_ranges}
use Rattle.subid_ranges.proofs.owned.OwnedRangesIterator.next.Given as goal

-- the ranges of the lines left are those that were left
abbrev pub invariant-lines : goal.invariant-lines
invariant-lines l =
    let self = l.self-inside in
    let initial = l.initial.self-inside in
    owned_ranges self.owner.now self.uid self.left
    ≡ owned_ranges initial.owner.now initial.uid initial.left

abbrev pub decreases-lines : goal.decreases-lines
decreases-lines l = length l.self-inside.left
