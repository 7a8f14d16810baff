use Rattle.account_model.proofs.PlanLaws.{answers-alike}
use Rattle.account_model.proofs.plan_laws.plans_answer_alike.Goals as goal

pub returns : goal.returns
returns c = answers-alike
