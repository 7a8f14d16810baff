use Rattle.std.proofs.Common.{◌≡◌, ◌+◌, length}
use Rattle.std.specs.List.{position_from}
use Rattle.account_model.specs.UsermodRanges.{line_meets}
use Rattle.subid_ranges.specs.RangeLines.{ids_from, meeting_line}
use Rattle.subid_ranges.proofs.ranges.Ranges.meeting_line.Given as goal

-- the first line among those left is the first of all, and so many lines stand before it
abbrev pub invariant-lines : goal.invariant-lines
invariant-lines l = record {
  first : position_from (line_meets (ids_from l.first l.last)) (l.number + 1) l.left
      ≡ meeting_line l.first l.last l.self;
  counted : l.number + length l.left ≡ length l.self;
}

abbrev pub decreases-lines : goal.decreases-lines
decreases-lines l = length l.left
