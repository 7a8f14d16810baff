use Rattle.std.proofs.Common.{ap, ◌∙◌, ℕ, ◌-◌}
use Rattle.commit_steps.specs.States.{Stager, intent_left}
use Rattle.commit_steps.proofs.committing.IntentStaged.pieces.Goals as goal

pub returns : goal.returns
returns c =
    c.saturating_sub.ensures
    ∙ (ap (λ (count : ℕ). count - c.self.inside.staged) c.intent_pieces.ensures
    ∙ ap (λ (one : Stager). intent_left one) c.self.view_is)
