use Rattle.suite_rules.proofs.Whole.{invariant}
use Rattle.suite_rules.proofs.invariant.Goals as goal

pub returns : goal.returns
returns c = invariant
