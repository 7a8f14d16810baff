use Rattle.std.proofs.Common.{◌∙◌, false, ap}
use Rattle.acct_text.specs.declared.Tab.TheVariants.{Group, Gshadow}
use Rattle.acct_text.specs.Files.{no_files}
use Rattle.account_model.specs.Records.{group_format, gshadow_format}
use Rattle.account_model.specs.Grpck.{group_problems, group_report, gshadow_problems, gshadow_report}
use Rattle.account_model.specs.Problems.{table_problems}
use Rattle.check_reports.specs.Reported.{with_problems}
use Rattle.check_reports.proofs.ReportLemmas.{told-both}
use Rattle.check_reports.proofs.grpck.report_groups.Goals as goal

pub returns : goal.returns
returns c =
    let tool = c.args.asked.now.tool in
    let files = c.args.files.now in
    let users = c.in_ok-users.ensures.of_file in
    let hashes = c.in_ok-hashes.ensures.of_file in
    let groups = c.unread-groups.ensures.of_file in
    let checked = ap (λ file. file.now) c.in_ok-push_table.ensures.of_file ∙ groups in
    told-both false Group Gshadow (group_report files) (gshadow_report files) _ _ _
    c.new-report.ensures
    (c.in_ok-push_table.ensures.told
    ∙ (λ i. with_problems Group (table_problems group_format (group_problems (record no_files {
      passwd = users i;
      gshadow = hashes i;
    })) (groups i)) c.new-report.result))
    (c.in_ok-push_table-2.ensures.told
    ∙ (λ i. with_problems Gshadow (table_problems gshadow_format
    (gshadow_problems (record no_files { passwd = users i; group = checked i })) (hashes i))
    c.push_table.new.self))
    tool files c.told.result (c.told.ensures tool files)
