use Rattle.acct_outside.proofs.PieceLemmas.{pieces-join}
use Rattle.acct_outside.proofs.pieces.pieces_join.Goals as goal

pub returns : goal.returns
returns c = pieces-join
