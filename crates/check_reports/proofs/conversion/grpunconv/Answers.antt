use Rattle.std.proofs.Common.{◌∙◌, refl, ap, not}
use Rattle.std.specs.Prelude.{is_none}
use Rattle.std.proofs.lemmas.Result.{IfOk-weaker}
use Rattle.account_model.specs.declared.refusal.Refusal.TheVariants.{NoGshadow}
use Rattle.account_model.specs.Conversion.{groups, emptied, grpunconv_script, shown}
use Rattle.account_model.specs.Tables.{gshadow_records}
use Rattle.check_reports.proofs.DecisionLemmas.{script-decides, groups-convert}
use Rattle.check_reports.proofs.conversion.grpunconv.Goals as goal

pub returns : goal.returns
returns c =
    let files = c.args.files.now in
    IfOk-weaker c.shown.result _ _
    (λ decision decides. script-decides c.args.tool (grpunconv_script files) files
    (is_none files.gshadow) NoGshadow decision
    (ap not c.is_none.ensures ∙ ap (λ b. not (not b)) c.if-is_none.false)
    (decides files (grpunconv_script files)
    (groups-convert (shown groups (gshadow_records files)) emptied _ files refl refl refl refl)))
    c.shown.ensures
