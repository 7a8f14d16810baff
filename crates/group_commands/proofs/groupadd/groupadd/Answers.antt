use Rattle.std.proofs.Common.{sym, ap, ◌∙◌}
use Rattle.account_model.specs.Groupadd.{is_content}
use Rattle.account_model.specs.NewAccount.{add_group}
use Rattle.account_model.specs.Request.{operand}
use Rattle.account_model.specs.Tables.{followed_by}
use Rattle.table_edits.proofs.ActingLemmas.{acts-handed}
use Rattle.group_commands.proofs.GroupaddLemmas.{refused-by_words, refused-by_conflict, made-group}
use Rattle.group_commands.proofs.groupadd.groupadd.Goals as goal

pub returns-in_err-settings : goal.returns-in_err-settings
returns-in_err-settings c = λ settings has.
    let asked = c.args.asked.now in
    let files = c.args.tables.now in
    let fault = c.in_err-settings.field-0.0 in
    acts-handed _ c.from_residual.result fault c.from_residual.ensures.1
    (refused-by_words (operand asked) asked files settings (is_content (operand asked) asked files)
    fault (c.in_err-settings.ensures {u = tt}).refused)

pub returns-in_err-gid : goal.returns-in_err-gid
returns-in_err-gid c = λ settings has.
    let asked = c.args.asked.now in
    let files = c.args.tables.now in
    let fault = c.in_err-gid.field-0.0 in
    let words = c.in_ok-settings.ensures {u = tt} in
    acts-handed _ c.from_residual-in_err-gid.result fault c.from_residual-in_err-gid.ensures.1
    (refused-by_conflict (operand asked) asked files settings
    (is_content (operand asked) asked files) fault
    (sym c.is_content.ensures ∙ c.if-is_content.false)
    words.refused (c.in_err-gid.ensures {u = tt} settings (words.settings settings has)).0)

pub returns : goal.returns
returns c = λ settings has.
    let asked = c.args.asked.now in
    let files = c.args.tables.now in
    let gid = c.in_ok-gid.gid in
    let words = c.in_ok-settings.ensures {u = tt} in
    let chosen = c.in_ok-gid.ensures {u = tt} settings (words.settings settings has) in
    let hash = c.value_or-hash.result.now in
    let seen =
    c.in_ok-add_group.ensures {u = tt}
    ∙ ap (λ script. followed_by script (add_group c.operand.result.now hash gid files))
    c.new-script.ensures
    ∙ ap (λ name. add_group name hash gid files) c.operand.ensures
    ∙ ap (λ hash. add_group (operand asked) hash gid files) c.value_or-hash.ensures in
    made-group (operand asked) asked files settings (is_content (operand asked) asked files) gid
    c.add_group.new.script (sym c.is_content.ensures ∙ c.if-is_content.false)
    words.refused chosen.0 chosen.1 seen
