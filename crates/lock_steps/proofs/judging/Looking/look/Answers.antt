use Rattle.std.proofs.Common.{refl}
use Rattle.acct_outside.specs.Calls.{lists}
use Rattle.acct_outside.specs.Contract.{locks_result}
use Rattle.suite_rules.specs.Rules.{free_listing}
use Rattle.suite_rules.specs.Steps.{own_command}
use Rattle.lock_steps.specs.Stands.{HasLooked, HasNoLock}
use Rattle.lock_steps.specs.Outcomes.{Looks, folder_failed}
use Rattle.lock_steps.proofs.OutcomesLemmas.{look-leads, takes-call}
use Rattle.lock_steps.proofs.judging.Looking.look.Goals as goal

pub returns : goal.returns
returns g c =
    let looking = c.args.self in
    let passes = rw c.self.view_is at c.locks-listed.ensures.call in
    takes-call looking lists tt tt HasNoLock (λ deeds stood held. free_listing) own_command
    (λ result stood held. refl) (Looks looking) HasLooked folder_failed
    (locks_result c.locks-listed.result) _ _ c.requires passes c.after_listing.ensures.shown
    (λ before now narrows. look-leads before now narrows looking _ _)
    c.after_listing.ensures.failed
