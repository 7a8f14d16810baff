use Rattle.std.proofs.Common.{take}
use Rattle.subid_ranges.specs.RangeNumbers.{LosesRanges}
use Rattle.subid_ranges.proofs.range_numbers.RangeNumbers.remove_each.Given as goal

-- the numbers of the ranges so far are gone
abbrev pub invariant-pieces : goal.invariant-pieces
invariant-pieces l = LosesRanges (take l.range-index l.ranges) l.initial.self l.self
