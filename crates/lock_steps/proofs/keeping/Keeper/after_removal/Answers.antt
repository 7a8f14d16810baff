use Rattle.std.proofs.Common.{subst, ℕ, ◌<◌, ◌≤◌, List, All}
use Rattle.lock_steps.proofs.NumberLemmas.{rest-all}
use Rattle.lock_steps.proofs.keeping.Keeper.after_removal.Goals as goal

pub invariant_of-self : goal.invariant_of-self
invariant_of-self g c = (
  c.self.invariant.0,
  rest-all (λ other. (1 ≤ other) × (other < c.self.inside.number)) c.pop_front.result
      c.pop_front.new.self.items
      (subst (λ (items : List ℕ). All (λ other. (1 ≤ other) × (other < c.self.inside.number)) items)
      c.pop_front.ensures.items c.self.invariant.1),
)
