use Rattle.suite_rules.proofs.Once.{committed-once}
use Rattle.suite_rules.proofs.committed_once.Goals as goal

pub returns : goal.returns
returns c = committed-once
