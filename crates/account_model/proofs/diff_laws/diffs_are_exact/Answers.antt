use Rattle.account_model.proofs.DiffLaws.{diff-exact}
use Rattle.account_model.proofs.diff_laws.diffs_are_exact.Goals as goal

pub returns : goal.returns
returns c = diff-exact
