use Rattle.suite_rules.proofs.Own.{own-standing}
use Rattle.suite_rules.proofs.own_standing.Goals as goal

pub returns : goal.returns
returns c = own-standing
