use Rattle.std.proofs.Common.{◌≡◌, [], length}
use Rattle.account_model.specs.Problems.{problems_behind}
use Rattle.account_model.specs.Tables.{table_lines}
use Rattle.check_reports.specs.Reported.{with_problems}
use Rattle.check_reports.proofs.ReportWalk.{IsReported}
use Rattle.check_reports.proofs.report.Report.push_table.Given as goal

-- the report so far is with the problems of the lines left the whole, of the file that it was
abbrev pub invariant-lines : goal.invariant-lines
invariant-lines g l =
    let format = g.R.TableRecord.format in
    let problems = g.K.Checks.problems l.known in
    record {
      of_file : l.table.file ≡ l.initial.table.file;
      reported : IsReported format problems l.tab l.table l.left l.place l.self
          (with_problems l.tab (problems_behind format problems []
          (table_lines l.initial.table.file.now)) l.initial.self);
    }

abbrev pub decreases-lines : goal.decreases-lines
decreases-lines g l = length l.left
