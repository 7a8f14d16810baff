use Rattle.std.proofs.Common.{refl, ap}
use Rattle.acct_outside.specs.Calls.{lists}
use Rattle.acct_outside.specs.Contract.{locks_result}
use Rattle.suite_rules.specs.Rules.{free_listing}
use Rattle.suite_rules.specs.Steps.{own_command}
use Rattle.lock_steps.specs.States.{Maker}
use Rattle.lock_steps.specs.Stands.{HasMade, HoldsConfirmed}
use Rattle.lock_steps.specs.Outcomes.{Confirms, folder_failed}
use Rattle.lock_steps.proofs.OutcomesLemmas.{confirm-leads, takes-call}
use Rattle.lock_steps.proofs.claiming.Claimed.confirm.Goals as goal

pub returns : goal.returns
returns g c =
    let claimed = c.args.self in
    let passes = rw (ap (λ (maker : Maker). maker.token) c.self.view_is)
    at c.locks-listed.ensures.call in
    takes-call claimed.token lists tt tt (HasMade claimed) (λ deeds stood held. free_listing)
    own_command (λ result stood held. refl) (Confirms claimed) HoldsConfirmed folder_failed
    (locks_result c.locks-listed.result) _ _ c.requires passes c.after_listing.ensures.shown
    (λ before now narrows. confirm-leads before now narrows claimed.token claimed _ _)
    c.after_listing.ensures.failed
