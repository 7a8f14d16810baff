use Rattle.account_model.proofs.BatchLaws.{done-lines-stay}
use Rattle.account_model.proofs.laws.done_lines_stay.Goals as goal

pub returns : goal.returns
returns c = done-lines-stay
