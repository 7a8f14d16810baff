use Rattle.suite_rules.proofs.Settles.{lawful-settles}
use Rattle.suite_rules.proofs.lawful_settles.Goals as goal

pub returns : goal.returns
returns c = lawful-settles
