use Rattle.command_values.proofs.RowLemmas.{asks-keeps_row}
use Rattle.command_values.proofs.row_law.requests_keep_their_row.Goals as goal

pub returns : goal.returns
returns c = asks-keeps_row
