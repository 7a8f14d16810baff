use Rattle.std.proofs.Common.{ℕ, [], refl, subst}
use Rattle.account_model.specs.Action.{reports}
use Rattle.check_reports.specs.Decided.{DecidesBy}
use Rattle.check_reports.proofs.report.Report.told.Goals as goal

pub returns : goal.returns
returns c = λ tool files.
    subst (λ (status : ℕ). DecidesBy tool (reports [] status c.args.self.lines) files c.told.result)
    c.status-status.ensures
    (c.told.ensures tool [] files refl)
