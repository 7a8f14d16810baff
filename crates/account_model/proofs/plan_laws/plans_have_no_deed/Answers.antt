use Rattle.account_model.proofs.PlanLaws.{no-deed}
use Rattle.account_model.proofs.plan_laws.plans_have_no_deed.Goals as goal

pub returns : goal.returns
returns c = no-deed
