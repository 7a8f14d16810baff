use Rattle.std.proofs.Common.{◌∙◌, refl, ap, not}
use Rattle.std.specs.Prelude.{is_none}
use Rattle.std.proofs.lemmas.Result.{IfOk-weaker}
use Rattle.account_model.specs.declared.refusal.Refusal.TheVariants.{NoShadow}
use Rattle.account_model.specs.Conversion.{users, emptied, pwunconv_script, shown}
use Rattle.account_model.specs.Tables.{shadow_records}
use Rattle.check_reports.proofs.DecisionLemmas.{script-decides, users-convert}
use Rattle.check_reports.proofs.conversion.pwunconv.Goals as goal

pub returns : goal.returns
returns c =
    let files = c.args.files.now in
    IfOk-weaker c.shown.result _ _
    (λ decision decides. script-decides c.args.tool (pwunconv_script files) files
    (is_none files.shadow) NoShadow decision
    (ap not c.is_none.ensures ∙ ap (λ b. not (not b)) c.if-is_none.false)
    (decides files (pwunconv_script files)
    (users-convert (shown users (shadow_records files)) emptied _ files refl refl refl refl)))
    c.shown.ensures
