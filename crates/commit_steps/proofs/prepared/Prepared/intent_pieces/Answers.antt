use Rattle.std.proofs.Common.{ap, ◌∙◌, length}
use Rattle.intent_file.specs.Intent.{Intended}
use Rattle.intent_file.specs.Pieces.{intent_pieces}
use Rattle.commit_steps.specs.States.{intended}
use Rattle.commit_steps.proofs.prepared.Prepared.intent_pieces.Goals as goal

pub returns : goal.returns
returns c =
    c.piece_count.ensures ∙ ap (λ (one : Intended). length (intent_pieces one))
    (c.self.invariant.1 ∙ ap intended c.self.view_is)
