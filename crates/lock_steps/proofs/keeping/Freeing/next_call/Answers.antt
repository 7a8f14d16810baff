use Rattle.std.proofs.Common.{ap, subst}
use Rattle.acct_outside.specs.Contract.{IsLockNumber}
use Rattle.lock_steps.specs.States.{Maker}
use Rattle.lock_steps.proofs.NextLemmas.{next-freeing}
use Rattle.lock_steps.proofs.keeping.Freeing.next_call.Goals as goal

pub returns : goal.returns
returns c =
    rw (ap (λ (freeing : Maker). freeing.number) c.self.view_is)
    (next-freeing c.args.self.now (subst (λ (freeing : Maker). IsLockNumber freeing.number)
    c.self.view_is c.self.invariant))
