use Rattle.suite_rules.proofs.Keepers.{one-keeper}
use Rattle.suite_rules.proofs.one_keeper.Goals as goal

pub returns : goal.returns
returns c = one-keeper
