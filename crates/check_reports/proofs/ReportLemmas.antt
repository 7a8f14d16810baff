-- Claim: a report of two tables decides as their problems say (`told-both`). Way: it has those of
-- the one and then those of the other, and is clean where both are (`both-reported`).
use Rattle.std.proofs.Common.{◌≡◌, ◌∙◌, Bool, true, List, [], ◌++◌, ap, subst}
use Rattle.acct_text.specs.declared.files.Files.{Files}
use Rattle.acct_text.specs.declared.Tab.{Tab}
use Rattle.acct_text.specs.Bytes.{is_empty}
use Rattle.account_model.specs.declared.tool.Tool.{Tool}
use Rattle.account_model.specs.Action.{reports}
use Rattle.account_model.specs.Problems.{Located, problem_lines, report_status}
use Rattle.tool_answers.specs.declared.decision.Decision.{Decision}
use Rattle.check_reports.specs.declared.report.Report.{Report}
use Rattle.check_reports.specs.Decided.{DecidesBy}
use Rattle.check_reports.specs.Reported.{to_show, status_in, with_problems}
use Rattle.check_reports.proofs.ReportWalk.{clean-append}

module _ (is_quiet : Bool) (first_tab second_tab : Tab) (first second : List Located)
    (none one both : Report)
    (new : none ≡ record { is_quiet = is_quiet; is_clean = true; lines = [] })
    (first_more : one ≡ with_problems first_tab first none)
    (second_more : both ≡ with_problems second_tab second one) where
  -- the report of both tables
  both-reported :
      both ≡ record {
        is_quiet = is_quiet;
        is_clean = is_empty (first ++ second);
        lines = problem_lines first_tab (to_show is_quiet first)
            ++ problem_lines second_tab (to_show is_quiet second);
      }
  both-reported =
      second_more
      ∙ ap (with_problems second_tab second)
      (first_more ∙ ap (with_problems first_tab first) new)
      ∙ (λ i. record {
        is_quiet = is_quiet;
        is_clean = clean-append true first second i;
        lines = problem_lines first_tab (to_show is_quiet first)
            ++ problem_lines second_tab (to_show is_quiet second);
      })

  -- what is told of it
  pub told-both :
      (tool : Tool) (files : Files) (decision : Decision)
      → DecidesBy tool (reports [] (status_in both) both.lines) files decision
      → DecidesBy tool
      (reports [] (report_status (first ++ second))
      (problem_lines first_tab (to_show is_quiet first)
      ++ problem_lines second_tab (to_show is_quiet second)))
      files decision
  told-both tool files decision =
      subst (λ (report : Report). DecidesBy tool (reports [] (status_in report) report.lines) files
      decision)
      both-reported
