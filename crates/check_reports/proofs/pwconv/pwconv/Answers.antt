use Rattle.std.proofs.Common.{◌∙◌, [], refl, sym, ap, not, subst, arith}
use Rattle.std.specs.Prelude.{is_none}
use Rattle.std.specs.List.{AllByRecursion}
use Rattle.std.proofs.lemmas.Result.{IfOk-weaker}
use Rattle.account_model.specs.declared.refusal.Refusal.TheVariants.{NoShadow}
use Rattle.account_model.specs.Action.{changes}
use Rattle.account_model.specs.Conversion.{hidden, pwconv_script, users}
use Rattle.account_model.specs.RecordEdits.{IsWrittenEdit}
use Rattle.account_model.specs.Records.{shadow_format}
use Rattle.account_model.specs.Tables.{no_edits, passwd_records}
use Rattle.account_model.proofs.ConversionScripts.{pwconv-written}
use Rattle.check_reports.specs.Decided.{DecidesBy}
use Rattle.check_reports.proofs.DecisionLemmas.{script-decides, users-convert}
use Rattle.check_reports.proofs.GatheredLemmas.{user-edits, user_edits}
use Rattle.check_reports.proofs.pwconv.pwconv.Goals as goal

pub gathered-requires : goal.gathered-requires
gathered-requires c = λ k.
    let files = c.args.files.now in
    let settings = c.requires.held.settings in
    let held = c.requires.held.held in (
      (refl, tt),
      subst (λ edits. AllByRecursion (IsWrittenEdit shadow_format) edits)
          (sym (user-edits settings c.args.day c.value.result c.value-2.result c.value-3.result
          (passwd_records files) (c.value.ensures settings held) (c.value-2.ensures settings held)
          (c.value-3.ensures settings held)))
          (pwconv-written files settings c.args.day (omega (arith, c.requires.in_time))).shadow,
    )

pub returns : goal.returns
returns c =
    let files = c.args.files.now in
    let edits = user_edits c.args.day c.value.result c.value-2.result c.value-3.result
    (passwd_records files) in
    IfOk-weaker c.gathered.result _ _
    (λ decision decides settings held.
    script-decides c.args.tool (pwconv_script files settings c.args.day) files
    (is_none files.shadow) NoShadow decision
    (ap not c.is_none.ensures ∙ ap (λ b. not (not b)) c.if-is_none.false)
    (subst (λ edits. DecidesBy c.args.tool
    (changes [] (record no_edits { passwd = hidden users; shadow = edits })) files decision)
    (user-edits settings c.args.day c.value.result c.value-2.result c.value-3.result
    (passwd_records files) (c.value.ensures settings held) (c.value-2.ensures settings held)
    (c.value-3.ensures settings held))
    (decides files (record no_edits { passwd = hidden users; shadow = edits })
    (users-convert (hidden users) edits _ files refl refl refl refl))))
    c.gathered.ensures
