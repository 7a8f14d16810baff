use Rattle.std.proofs.Common.{ap, subst, sym, ◌∙◌, ◌≤◌, ◌<◌, length, get_or}
use Rattle.acct_outside.specs.Contract.{IsLockNumber}
use Rattle.lock_steps.specs.States.{Kept}
use Rattle.lock_steps.proofs.NumberLemmas.{first-of}
use Rattle.lock_steps.proofs.NextLemmas.{next-removal, next-unlocking, some-left}
use Rattle.lock_steps.proofs.keeping.Keeper.unlocking_call.Goals as goal

pub returns-in_ok-copy : goal.returns-in_ok-copy
returns-in_ok-copy g c =
    rw (c.in_ok-copy.ensures ∙ c.self.inside.holder.is_free)
    (next-unlocking c.args.self.now g.K.Knowing.knows
    (sym c.lower.ensures ∙ c.if-lower-eq0.true))

pub returns-else-lower-eq0 : goal.returns-else-lower-eq0
returns-else-lower-eq0 g c =
    let keeper = c.args.self.now in
    let lower_is = ap (λ (one : Kept). one.lower) c.self.view_is in
    let some = some-left _ _ c.lower.ensures c.if-lower-eq0.false in
    let first_is = first-of keeper.lower _ some (rw lower_is at c.index.ensures) in
    let bounds = subst (λ (one : Kept). IsLockNumber one.number) c.self.view_is c.self.invariant.0
    in
    let below = subst (λ (one : Kept). 0 < length one.lower →
    (1 ≤ get_or one.lower 0 0) × (get_or one.lower 0 0 < one.number))
    c.self.view_is (λ some. c.self.invariant.1 0 0 some) some in
    rw first_is (next-removal keeper g.K.Knowing.knows some bounds below.0 below.1)
