use Rattle.std.proofs.Common.{◌∙◌, ℕ, Bool, true, List, [], ap, map, subst}
use Rattle.std.specs.Prelude.{codes}
use Rattle.acct_text.specs.declared.Tab.TheVariants.{Passwd, Shadow}
use Rattle.acct_text.specs.Files.{no_files}
use Rattle.account_model.specs.Records.{group_format, passwd_format, shadow_format}
use Rattle.account_model.specs.Problems.{table_problems}
use Rattle.account_model.specs.Pwck.{passwd_report, shadow_problems, shadow_report, user_problems}
use Rattle.account_model.specs.Request.{has_option}
use Rattle.id_choice.specs.Used.{AreThoseOf}
use Rattle.acct_tables.proofs.FileLemmas.{records-in}
use Rattle.check_reports.specs.Reported.{with_problems}
use Rattle.check_reports.proofs.ReportLemmas.{told-both}
use Rattle.check_reports.proofs.pwck.report_users.Goals as goal

pub invariant_of-known : goal.invariant_of-known
invariant_of-known c = record {
  of_hashes = c.with-hashes.ensures.whole;
  of_gids = subst (λ (ids : List ℕ). AreThoseOf c.in_ok-gids.gids ids)
      (c.in_ok-listed_ids.ensures
      ∙ ap (map (λ group. group.gid))
      (records-in group_format _ c.args.files.now.group c.text_of.ensures))
      c.in_ok-gids.ensures;
}

pub returns : goal.returns
returns c =
    let request = c.args.asked.now in
    let files = c.args.files.now in
    let today = c.args.today in
    let users = c.unread-users.ensures.of_file in
    let hashes = c.with-hashes.ensures.of_file in
    let checked = ap (λ file. file.now) c.in_ok-push_table.ensures.of_file ∙ users in
    told-both (has_option (codes "q") request) Passwd Shadow (passwd_report files)
    (shadow_report files today) _ _ _
    (c.new-report.ensures
    ∙ ap (λ (is_quiet : Bool). record { is_quiet = is_quiet; is_clean = true; lines = [] })
    c.has.ensures)
    (c.in_ok-push_table.ensures.told
    ∙ (λ i. with_problems Passwd (table_problems passwd_format (user_problems (record no_files {
      shadow = hashes i;
      group = files.group;
    })) (users i)) c.new-report.result))
    (c.in_ok-push_table-2.ensures.told
    ∙ (λ i. with_problems Shadow (table_problems shadow_format
    (shadow_problems (record no_files { passwd = checked i }) today) (hashes i))
    c.push_table.new.self))
    request.tool files c.told.result (c.told.ensures request.tool files)
