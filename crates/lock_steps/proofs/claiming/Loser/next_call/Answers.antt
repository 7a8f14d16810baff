use Rattle.std.proofs.Common.{ap, subst, ◌<◌}
use Rattle.acct_outside.specs.Contract.{IsLockNumber}
use Rattle.lock_steps.specs.States.{Overtaken}
use Rattle.lock_steps.proofs.NextLemmas.{next-withdrawal}
use Rattle.lock_steps.proofs.claiming.Loser.next_call.Goals as goal

pub returns : goal.returns
returns c =
    let bounds = subst (λ (loser : Overtaken).
    IsLockNumber loser.number × (loser.number < loser.greatest)) c.self.view_is c.self.invariant in
    rw (ap (λ (loser : Overtaken). loser.number) c.self.view_is)
    (next-withdrawal c.args.self.now bounds.0 bounds.1)
