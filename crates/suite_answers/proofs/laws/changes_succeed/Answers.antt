use Rattle.suite_answers.proofs.ChangeLemmas.{changes-succeed}
use Rattle.suite_answers.proofs.laws.changes_succeed.Goals as goal

pub returns : goal.returns
returns c = changes-succeed
