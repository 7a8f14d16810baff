use Rattle.std.proofs.Common.{ap}
use Rattle.acct_outside.specs.declared.Name.TheVariants.{FreeStage, Lock}
use Rattle.acct_outside.specs.declared.FolderFault.TheVariants.{Failed}
use Rattle.acct_outside.specs.Calls.{renames}
use Rattle.suite_rules.specs.Outcomes.{LeadsTo}
use Rattle.suite_rules.specs.Steps.{work}
use Rattle.lock_steps.specs.States.{Maker}
use Rattle.lock_steps.specs.Stands.{HasFreed, HasStagedFree}
use Rattle.lock_steps.proofs.StandsLemmas.{move-leaves}
use Rattle.lock_steps.specs.Outcomes.{as_it_came, the_end}
use Rattle.lock_steps.proofs.OutcomesLemmas.{move-leads, takes-call}
use Rattle.lock_steps.proofs.PermitsLemmas.{may-move-free}
use Rattle.lock_steps.proofs.keeping.Freeing.move_free.Goals as goal

pub returns : goal.returns
returns g c =
    let freeing = c.args.self in
    let passes = rw (
      ap (λ (maker : Maker). maker.token) c.self.view_is,
      ap (λ (maker : Maker). maker.number) c.self.view_is,
    )
    at c.rename-moved.ensures in
    takes-call freeing.token (renames FreeStage (Lock freeing.number)) tt tt
    (HasStagedFree freeing) (λ deeds stood held. may-move-free deeds stood freeing held) work
    (λ result stood held. move-leaves freeing stood held result)
    (LeadsTo the_end as_it_came) (λ ended. HasFreed freeing.number) Failed c.rename-moved.result _ _
    c.requires passes c.after_move.ensures.shown
    (λ before now narrows. move-leads before now narrows freeing.token freeing _ _)
    c.after_move.ensures.failed
