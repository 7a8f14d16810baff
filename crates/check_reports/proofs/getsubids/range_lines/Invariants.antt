use Rattle.std.proofs.Common.{◌≡◌, ◌++◌, map}
use Rattle.account_model.specs.Getsubids.{range_lines_from}
use Rattle.check_reports.specs.Listed.{range_for}
use Rattle.check_reports.proofs.RangeLines.{lines_left}
use Rattle.check_reports.proofs.getsubids.range_lines.Given as goal

-- the lines so far and those of the ranges left are all
abbrev pub invariant-loop-number : goal.invariant-loop-number
invariant-loop-number l =
    l.lines ++ lines_left l.user l.number l.ranges
    ≡ range_lines_from 0 l.user (map (range_for l.user) l.ranges)
