use Rattle.std.proofs.Common.{◌≡◌, map, take}
use Rattle.account_model.specs.Problems.{at_line}
use Rattle.check_reports.specs.Reported.{with_problems}
use Rattle.check_reports.specs.Seen.{seen_problem}
use Rattle.check_reports.proofs.report.Report.push_line.Given as goal

-- the report has the problems so far behind those that it had
abbrev pub invariant-loop-problem : goal.invariant-loop-problem
invariant-loop-problem l =
    l.self
    ≡ with_problems l.tab (at_line l.line (map seen_problem (take l.problem-index l.problem-items)))
    l.initial.self
