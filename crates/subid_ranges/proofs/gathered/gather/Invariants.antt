use Rattle.std.proofs.Common.{length}
use Rattle.acct_text.specs.Lines.{lines_of}
use Rattle.subid_ranges.specs.RangeLines.{ranges_of}
use Rattle.subid_ranges.proofs.GatheredLemmas.{IsOfFront}
use Rattle.subid_ranges.proofs.gathered.gather.Given as goal

-- what is known is that of the ranges in front of the lines left
abbrev pub invariant-lines : goal.invariant-lines
invariant-lines g l =
    IsOfFront g.G.Gathered.is_of (ranges_of (lines_of l.text)) (ranges_of l.left) l.known

abbrev pub decreases-lines : goal.decreases-lines
decreases-lines g l = length l.left
