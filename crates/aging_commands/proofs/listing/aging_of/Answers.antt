use Rattle.std.proofs.Common.{◌≡◌, ◌∙◌, [], subst, sym}
use Rattle.std.specs.Prelude.{Option, IfOk, unwrap_or}
use Rattle.account_model.specs.declared.records.ShadowRecord.{ShadowRecord}
use Rattle.account_model.specs.Chage.{aging_report}
use Rattle.account_model.specs.Records.{hash_alone}
use Rattle.aging_commands.proofs.listing.aging_of.Goals as goal

pub returns-in-Some : goal.returns-in-Some
returns-in-Some c = subst
    (λ (found : Option ShadowRecord). IfOk c.aging_report.result
    (λ text. text ≡ aging_report (unwrap_or found (hash_alone c.args.user.now []))))
    (sym c.in-Some.is ∙ c.in_ok-record.ensures) c.aging_report.ensures
