use Rattle.std.proofs.Common.{◌≡◌, ◌∙◌, ◌<◌, refl, sym, ap, subst, slice_get, Some}
use Rattle.suite_rules.specs.Steps.{own_command}
use Rattle.suite_rules.specs.Outcomes.{LeadsTo, before_commit, installs}
use Rattle.suite_rules.proofs.StepLemmas.{Called, called-of}
use Rattle.lock_steps.proofs.OutcomesLemmas.{counts}
use Rattle.recovery.specs.States.{Mover, Recoverer, moved_once}
use Rattle.recovery.specs.Stands.{Recovers, HasStagedNext}
use Rattle.recovery.specs.Outcomes.{failed_before}
use Rattle.recovery.proofs.CarryLemmas.{may-move}
use Rattle.recovery.proofs.LeadsLemmas.{takes-next, takes-step}
use Rattle.recovery.proofs.NextLemmas.{pieces-are}
use Rattle.recovery.proofs.RecoversLemmas.{recovers-after-move}
use Rattle.recovery.proofs.recovering.Moving.move_next.Goals as goal

pub returns : goal.returns
returns g c =
    let before = g.F.Folder.moment c.args.folder.now in
    let now = g.F.Folder.moment c.move_table-moved.new.folder in
    let moving = c.args.self in
    let token = moving.keeper.token in
    let next = c.next.result.now in
    let moved = c.move_table-moved.result in
    let called = c.move_table-moved.ensures in
    let is_next = subst (λ (one : Mover). slice_get one.left 0 ≡ Some next)
    c.self.view_is c.next.ensures in
    let begun = subst (λ (one : Mover). 0 < one.staged) c.self.view_is c.self.invariant.1 in
    let whole = sym (pieces-are moving next is_next) ∙ c.requires.whole in
    let shown = subst (λ (one : Recoverer). LeadsTo one before_commit moved c.leads.result)
    (c.moved_once.ensures ∙ ap moved_once c.self.view_is)
    c.leads.ensures.shown in
    takes-next before now token (slice_get moving.left 0) next is_next installs
    (λ next answer. LeadsTo (moved_once moving) before_commit answer c.leads.result) Recovers
    own_command failed_before c.leads.result
    (takes-step (installs next) tt (HasStagedNext moving) Recovers (moved_once moving)
    (recovers-after-move moving next is_next) tt (λ result stood held. refl)
    (λ deeds stood held. may-move held.recovers.intent moving.keeper moving.left stood
    held.recovers.carries next is_next deeds moving.staged begun whole held.staged)
    before_commit before now called.narrows token moved c.leads.result shown c.requires.stands
    (called-of before now _ token (installs next) moved
    (c.token-token.ensures ∙ ap (λ (one : Mover). one.keeper.token) c.self.view_is)
    (record { told = called.told; noted = called.noted }))
    (counts failed_before _ _ moved c.leads.result c.leads.ensures.failed called.faults))
