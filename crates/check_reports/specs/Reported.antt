-- The report of a check, as it grows by the problems of lines and of tables (pwck(8), grpck(8),
-- `-r`).
use Rattle.std.specs.Prelude.{◌≡◌, ℕ, Bool, ◌&&◌, ◌++◌, ◌∷◌, [], List, Option, None, Some, option_map, if◌then◌else◌}
use Rattle.std.specs.Option.{option_copied}
use Rattle.acct_text.specs.declared.Tab.{Tab}
use Rattle.acct_text.specs.Bytes.{is_empty}
use Rattle.account_model.specs.Format.{Format}
use Rattle.account_model.specs.Problems.{DuplicateName, InvalidEntry, Located, Problem, RecordProblems, bad_entries, problem_if, problem_lines, without_notices}
use Rattle.acct_tables.specs.declared.name_index.NameIndex.{NameIndex}
use Rattle.acct_tables.specs.NameIndex.{begins_before, told}
use Rattle.check_reports.specs.declared.report.Checked.{Checked}
use Rattle.check_reports.specs.declared.report.Report.{Report}

-- what is shown of problems: where it is to be quiet, notices are left out
abbrev pub to_show : Bool → List Located → List Located
to_show is_quiet problems = if is_quiet then without_notices problems else problems

-- the report with these problems of a table behind those that it has
abbrev pub with_problems : Tab → List Located → Report → Report
with_problems tab problems report = record {
  is_quiet = report.is_quiet;
  is_clean = report.is_clean && is_empty problems;
  lines = report.lines ++ problem_lines tab (to_show report.is_quiet problems);
}

-- the status of a report: 2 where it has a problem, a notice too
abbrev pub status_in : Report → ℕ
status_in report = if report.is_clean then 0 else bad_entries

-- the problem that the index tells of a record in front of a place with the name of that one
abbrev pub repeated_name : NameIndex → ℕ → Option (List ℕ) → List Problem
repeated_name names place None = []
repeated_name names place (Some name) =
    problem_if (begins_before place (told names name)) (DuplicateName name)

-- what a line of this text is: its name, and its problems as those of a first record
pub record IsChecked {R : Type 0} (format : Format R) (problems : RecordProblems R)
    (text : List ℕ) (checked : Checked) : Type 0 where
  pub named : option_copied checked.name ≡ option_map format.name (format.read text)
  pub found : checked.problems
      ≡ elim (format.read text) [ None ↦ InvalidEntry ∷ [] | Some r ↦ problems [] r ]
