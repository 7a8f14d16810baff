use Rattle.std.proofs.Common.{◌∙◌, refl, ap, not}
use Rattle.std.specs.Prelude.{is_none}
use Rattle.std.proofs.lemmas.Result.{IfOk-weaker}
use Rattle.account_model.specs.declared.refusal.Refusal.TheVariants.{NoGshadow}
use Rattle.account_model.specs.Conversion.{gathered, groups, grpconv_script, hidden, take_group_password}
use Rattle.account_model.specs.Hashes.{gshadow_of}
use Rattle.account_model.specs.Tables.{group_records}
use Rattle.account_model.proofs.ConversionScripts.{grpconv-written}
use Rattle.check_reports.proofs.DecisionLemmas.{groups-convert, script-decides}
use Rattle.check_reports.proofs.pwconv.grpconv.Goals as goal

pub gathered-requires : goal.gathered-requires
gathered-requires c = λ k. ((refl, tt), (grpconv-written c.args.files.now).gshadow)

pub returns : goal.returns
returns c =
    let files = c.args.files.now in
    IfOk-weaker c.gathered.result _ _
    (λ decision decides. script-decides c.args.tool (grpconv_script files) files
    (is_none files.gshadow) NoGshadow decision
    (ap not c.is_none.ensures ∙ ap (λ b. not (not b)) c.if-is_none.false)
    (decides files (grpconv_script files)
    (groups-convert (hidden groups)
    (gathered groups take_group_password gshadow_of (group_records files)) _ files
    refl refl refl refl)))
    c.gathered.ensures
