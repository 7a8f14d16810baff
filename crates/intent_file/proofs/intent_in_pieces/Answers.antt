use Rattle.intent_file.proofs.PieceLemmas.{intent-in-pieces}
use Rattle.intent_file.proofs.intent_in_pieces.Goals as goal

pub returns : goal.returns
returns c = intent-in-pieces
