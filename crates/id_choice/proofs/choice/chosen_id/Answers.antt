use Rattle.std.proofs.Common.{ℕ, sym, subst}
use Rattle.std.specs.Prelude.{Option, None}
use Rattle.account_model.specs.Ids.{IsChosenId}
use Rattle.id_choice.proofs.ChoiceLemmas.{empty-choice}
use Rattle.id_choice.proofs.choice.chosen_id.Goals as goal

pub returns-then-high-low : goal.returns-then-high-low
returns-then-high-low c =
    subst (λ (range : Option (ℕ × ℕ)). IsChosenId c.args.kind range c.args.used.now None)
    (sym c.in_ok-low.was)
    (empty-choice c.args.kind c.in_ok-low.low c.in_ok-low.high c.args.used.now c.if-high-low.true)
