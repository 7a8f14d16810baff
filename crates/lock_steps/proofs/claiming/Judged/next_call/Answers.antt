use Rattle.std.proofs.Common.{◌∙◌, ap}
use Rattle.lock_steps.specs.declared.claiming.Judged.TheInside.{Inside}
use Rattle.lock_steps.specs.States.{Lister}
use Rattle.lock_steps.proofs.NextLemmas.{next-create}
use Rattle.lock_steps.proofs.claiming.Judged.next_call.Goals as goal

pub returns : goal.returns
returns c =
    let greatest_is = ap (λ (inside : Inside). inside.seen.greatest) c.self-inside.view_is
    ∙ ap (λ (judged : Lister). judged.greatest) c.self.view_is in
    rw greatest_is (next-create c.args.self.now (rw greatest_is at c.self-inside.invariant))
