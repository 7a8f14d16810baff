use Rattle.account_model.proofs.NoEdits.{files-stay}
use Rattle.account_model.proofs.line_laws.no_edits_no_change.Goals as goal

pub returns : goal.returns
returns c = files-stay
