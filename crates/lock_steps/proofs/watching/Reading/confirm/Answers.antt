use Rattle.std.proofs.Common.{refl, ap}
use Rattle.acct_outside.specs.Calls.{lists}
use Rattle.acct_outside.specs.Contract.{locks_result}
use Rattle.suite_rules.specs.Rules.{free_listing}
use Rattle.suite_rules.specs.Steps.{own_command}
use Rattle.lock_steps.specs.Outcomes.{folder_failed}
use Rattle.lock_steps.specs.Watching.{Gatherer, ConfirmsFound, HasGathered, HasReported}
use Rattle.lock_steps.proofs.OutcomesLemmas.{takes-call}
use Rattle.lock_steps.proofs.WatchingLemmas.{confirm-leads}
use Rattle.lock_steps.proofs.watching.Reading.confirm.Goals as goal

pub returns : goal.returns
returns g c =
    let reading = c.args.self in
    let passes = rw (ap (λ (one : Gatherer). one.token) c.self.view_is)
    at c.locks-listed.ensures.call in
    takes-call reading.token lists tt tt (HasGathered reading) (λ deeds stood held. free_listing)
    own_command (λ result stood held. refl) (ConfirmsFound reading) HasReported folder_failed
    (locks_result c.locks-listed.result) _ _ c.requires.stands passes c.after_listing.ensures.shown
    (λ before now narrows.
    confirm-leads before now narrows reading.token reading _ _ c.requires.none_left)
    c.after_listing.ensures.failed
