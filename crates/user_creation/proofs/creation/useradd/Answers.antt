use Rattle.account_model.specs.NewAccount.{settings_for}
use Rattle.table_edits.proofs.ActingLemmas.{acts-handed}
use Rattle.user_creation.proofs.UseraddLemmas.{refused-by_words, refused-by_conflict, made-user}
use Rattle.user_creation.proofs.creation.useradd.Goals as goal

pub plan_of-requires : goal.plan_of-requires
plan_of-requires c =
    let held = c.requires.held in
    record {
      held = record {
        settings = settings_for c.args.asked.now held.settings;
        held = (c.in_ok-settings.ensures {u = tt}).settings held.settings held.held;
      };
    }

pub returns-in_err-settings : goal.returns-in_err-settings
returns-in_err-settings c = λ settings has.
    let asked = c.args.asked.now in
    let fault = c.in_err-settings.field-0.0 in
    acts-handed _ c.from_residual.result fault c.from_residual.ensures.1
    (refused-by_words asked c.args.tables.now (settings_for asked settings) c.args.day
    fault (c.in_err-settings.ensures {u = tt}).refused)

pub returns-in_err-ids : goal.returns-in_err-ids
returns-in_err-ids c = λ settings has.
    let asked = c.args.asked.now in
    let words = c.in_ok-settings.ensures {u = tt} in
    let under = words.settings settings has in
    let fault = c.in_err-ids.field-0.0 in
    acts-handed _ c.from_residual-in_err-ids.result fault c.from_residual-in_err-ids.ensures.1
    (refused-by_conflict asked c.args.tables.now (settings_for asked settings) c.args.day
    c.in_ok-plan.plan (c.in_ok-plan.ensures {u = tt} (settings_for asked settings) under)
    words.refused fault (c.in_err-ids.ensures {u = tt}).refused)

pub returns : goal.returns
returns c = λ settings has.
    let asked = c.args.asked.now in
    let words = c.in_ok-settings.ensures {u = tt} in
    let under = words.settings settings has in
    let conflicts = c.in_ok-ids.ensures {u = tt} in
    made-user asked c.args.tables.now (settings_for asked settings) c.args.day
    c.in_ok-plan.plan (c.in_ok-plan.ensures {u = tt} (settings_for asked settings) under)
    words.refused c.in_ok-ids.ids c.in_ok-shadow.shadow c.in_ok-user_script.field-0
    conflicts.refused conflicts.ids
    (c.in_ok-shadow.ensures {u = tt} (settings_for asked settings) under)
    (c.in_ok-user_script.ensures {u = tt})
