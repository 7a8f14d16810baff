use Rattle.std.proofs.Common.{ap, ◌∙◌}
use Rattle.lock_steps.specs.States.{Asker}
use Rattle.lock_steps.proofs.NextLemmas.{next-question}
use Rattle.lock_steps.proofs.judging.Asking.next_call.Goals as goal

pub returns : goal.returns
returns c =
    rw (c.in_ok-copy.ensures ∙ ap (λ (asking : Asker). asking.asked) c.self.view_is)
    (next-question c.args.self.now)
