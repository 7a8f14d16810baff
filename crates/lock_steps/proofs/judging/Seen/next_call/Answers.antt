use Rattle.std.proofs.Common.{ap}
use Rattle.lock_steps.specs.States.{Lister}
use Rattle.lock_steps.proofs.NextLemmas.{next-read}
use Rattle.lock_steps.proofs.judging.Seen.next_call.Goals as goal

pub returns : goal.returns
returns c =
    let greatest_is = ap (λ (seen : Lister). seen.greatest) c.self.view_is in
    rw greatest_is (next-read c.args.self.now (rw greatest_is at c.self.invariant))
