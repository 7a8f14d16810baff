use Rattle.suite_rules.proofs.Cut.{lawful-cut}
use Rattle.suite_rules.proofs.lawful_cut.Goals as goal

pub returns : goal.returns
returns c = lawful-cut
