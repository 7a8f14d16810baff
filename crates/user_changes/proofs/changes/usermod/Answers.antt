use Rattle.account_model.specs.Refusals.{missing_user}
use Rattle.account_model.specs.Request.{operand}
use Rattle.account_model.proofs.DeedLaws.{first-none}
use Rattle.user_changes.proofs.RefusalLemmas.{changed, new-name-field, new-name-good, refused-by_conflict, refused-by_value}
use Rattle.table_edits.proofs.ActingLemmas.{acts-handed}
use Rattle.user_changes.proofs.changes.usermod.Goals as goal

pub returns-in_err-check_values : goal.returns-in_err-check_values
returns-in_err-check_values c =
    let fault = c.in_err-check_values.field-0.0 in
    acts-handed _ c.from_residual.result fault c.from_residual.ensures.1
    (refused-by_value c.args.asked.now c.args.tables.now c.args.day fault
    c.in_err-check_values.ensures)

pub check_conflicts-requires : goal.check_conflicts-requires
check_conflicts-requires c = new-name-good c.args.asked.now c.in_ok-check_values.ensures

pub changed_user-requires-clause-named : goal.changed_user-requires-clause-named
changed_user-requires-clause-named c =
    let is = c.in_ok-old_uid.ensures {u = tt} in
    let asked = c.args.asked.now in
    let files = c.args.tables.now in
    new-name-field asked files (new-name-good asked c.in_ok-check_values.ensures)
    (first-none (missing_user (operand asked) files) _ is.refused).0

pub returns-in_err-old_uid : goal.returns-in_err-old_uid
returns-in_err-old_uid c =
    let fault = c.in_err-old_uid.field-0.0 in
    acts-handed _ c.from_residual-in_err-old_uid.result fault
    c.from_residual-in_err-old_uid.ensures.1
    (refused-by_conflict c.args.asked.now c.args.tables.now c.args.day fault
    c.in_ok-check_values.ensures c.in_err-old_uid.ensures.refused)

pub returns : goal.returns
returns c =
    let is = c.in_ok-old_uid.ensures {u = tt} in
    changed c.args.asked.now c.args.tables.now c.args.day c.in_ok-changed_user.field-0
    c.in_ok-check_values.ensures is.refused c.in_ok-changed_user.ensures
