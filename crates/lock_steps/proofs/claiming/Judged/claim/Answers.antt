use Rattle.std.proofs.Common.{refl, ap, ◌∙◌, ◌+◌}
use Rattle.acct_outside.specs.Calls.{creates}
use Rattle.suite_rules.specs.Steps.{own_command}
use Rattle.lock_steps.specs.declared.claiming.Judged.TheInside.{Inside}
use Rattle.lock_steps.specs.States.{Lister}
use Rattle.lock_steps.specs.Stands.{HasJudged, HasMade}
use Rattle.lock_steps.specs.Outcomes.{Claims, folder_failed}
use Rattle.lock_steps.proofs.OutcomesLemmas.{claim-leads, takes-call}
use Rattle.lock_steps.proofs.PermitsLemmas.{may-create}
use Rattle.lock_steps.proofs.claiming.Judged.claim.Goals as goal

pub returns : goal.returns
returns g c =
    let judged = c.args.self in
    let is = ap (λ (inside : Inside). inside.seen) c.self-inside.view_is ∙ c.self.view_is in
    let greatest_is = ap (λ (lister : Lister). lister.greatest) is in
    let passes = rw (ap (λ (lister : Lister). lister.token) is, greatest_is)
    at c.create-created.ensures in
    let below = rw greatest_is at c.self-inside.invariant in
    takes-call judged.token (creates (judged.greatest + 1)) tt tt (HasJudged judged)
    (λ deeds stood held. may-create deeds stood judged below held) own_command
    (λ result stood held. refl) (Claims judged) HasMade folder_failed c.create-created.result _ _
    c.requires passes c.after_create.ensures.shown
    (λ before now narrows. claim-leads before now narrows judged.token judged _ _)
    c.after_create.ensures.failed
