use Rattle.std.proofs.Common.{ap, ◌∙◌}
use Rattle.commit_steps.specs.States.{Change, Walker, intent_piece}
use Rattle.commit_steps.proofs.NextLemmas.{next-intent}
use Rattle.commit_steps.proofs.backing.Backing.intent_call.Goals as goal

pub returns : goal.returns
returns c =
    let change = c.prepared.ensures ∙ ap (λ (walker : Walker). walker.change) c.self.view_is in
    next-intent c.args.self.now c.requires c.in_ok-piece.piece
    (c.in_ok-piece.ensures ∙ (c.intent_piece.ensures.value
    ∙ ap (λ (one : Change). intent_piece 0 one) change))
