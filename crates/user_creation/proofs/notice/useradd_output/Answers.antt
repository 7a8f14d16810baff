-- The notices are those of the UID that the script adds, which is the planned one where nothing refuses.
use Rattle.std.proofs.Common.{◌≡◌, ◌∙◌, ap, refl}
use Rattle.std.proofs.lemmas.Result.{IfOk-weaker}
use Rattle.account_model.specs.Messages.{messages}
use Rattle.account_model.specs.NewAccount.{settings_for}
use Rattle.account_model.specs.Useradd.{new_shadow, new_uid, plan_of, useradd_notices}
use Rattle.tool_answers.specs.declared.decision.Output.{Output}
use Rattle.user_creation.proofs.UseraddLemmas.{adds-planned}
use Rattle.user_creation.specs.Added.{added_uid}
use Rattle.user_creation.proofs.notice.useradd_output.Goals as goal

pub returns : goal.returns
returns c = IfOk-weaker c.noticed.result _ _ (λ output printed settings day is.
    let asked = c.args.asked.now in
    let files = c.args.tables.now in
    let under = settings_for asked settings in
    let uid : c.added_uid.result ≡ new_uid asked files under =
    c.added_uid.ensures ∙ ap added_uid is.edits
    ∙ adds-planned asked files (plan_of asked files under) (new_shadow asked under day) is.unrefused in
    record {
      status = ap (λ (one : Output). one.status) printed;
      output = ap (λ (one : Output). one.out) printed;
      notices = ap (λ (one : Output). one.err) printed
          ∙ (ap (λ tool. messages tool c.in_ok-notices.notices) c.tool.ensures
          ∙ ap (messages asked.tool)
          (c.in_ok-notices.ensures {u = tt} ∙ ap (useradd_notices asked files) uid));
    }) c.noticed.ensures
