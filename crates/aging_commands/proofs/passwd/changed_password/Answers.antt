use Rattle.std.proofs.Common.{◌∙◌, ap, if◌then◌else◌}
use Rattle.account_model.specs.Hashes.{demand_shadow, each_user_hash}
use Rattle.account_model.specs.Request.{operand}
use Rattle.account_model.specs.Tables.{Script, followed_by, no_edits}
use Rattle.carried_tables.specs.Scripts.{seen_script}
use Rattle.line_edits.specs.HashChanges.{hash_by}
use Rattle.account_model.specs.Passwd.{password_after, set_password_aging, sets_password_aging}
use Rattle.aging_commands.proofs.ScriptLemmas.{three-also}
use Rattle.aging_commands.proofs.passwd.changed_password.Goals as goal

pub returns : goal.returns
returns c =
    let asked = c.args.asked.now in
    let files = c.args.tables.now in
    let user = operand asked in
    let aging : Script = if sets_password_aging asked then set_password_aging asked else no_edits in
    let demanded = seen_script c.demand_shadow.new.script in
    three-also (demand_shadow user files) (each_user_hash user (password_after asked) files) aging
    no_edits demanded (seen_script c.change_user_hash.new.script)
    (seen_script c.change_aging.new.script)
    (c.in_ok-demand_shadow.ensures {u = tt}
    ∙ ap (λ before. followed_by before (demand_shadow c.operand-user.result.now files))
    c.new-script.ensures
    ∙ ap (λ name. followed_by no_edits (demand_shadow name files)) c.operand-user.ensures)
    (c.in_ok-change_user_hash.ensures {u = tt}
    ∙ ap (λ name. followed_by demanded
    (each_user_hash name (hash_by c.hash_change.result) files)) c.operand-user.ensures
    ∙ ap (λ f. followed_by demanded (each_user_hash user f files)) c.hash_change.ensures)
    (c.in_ok-change_aging.ensures {u = tt})
