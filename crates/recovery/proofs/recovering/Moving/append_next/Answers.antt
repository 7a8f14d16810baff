use Rattle.std.proofs.Common.{◌≡◌, ◌∙◌, ◌<◌, arith, refl, ap, subst, slice_get, Some}
use Rattle.suite_rules.specs.Steps.{own_command}
use Rattle.suite_rules.specs.Outcomes.{LeadsTo, before_commit, stages_more}
use Rattle.suite_rules.proofs.StepLemmas.{Called, called-of}
use Rattle.lock_steps.proofs.OutcomesLemmas.{counts}
use Rattle.acct_outside.specs.Contract.{Tells}
use Rattle.acct_outside.specs.Pieces.{piece_count}
use Rattle.recovery.specs.States.{Mover, appended_once}
use Rattle.recovery.specs.Stands.{HasStagedNext}
use Rattle.recovery.specs.Outcomes.{failed_before}
use Rattle.recovery.proofs.CarryLemmas.{left-of, may-append}
use Rattle.recovery.proofs.LeadsLemmas.{takes-next, takes-step}
use Rattle.recovery.proofs.NextLemmas.{pieces-are}
use Rattle.recovery.proofs.RecoversLemmas.{staged-after-append}
use Rattle.recovery.proofs.recovering.Moving.append_next.Goals as goal

-- as a piece is left to append, fewer are staged than there are
pub appended_once-requires : goal.appended_once-requires
appended_once-requires g c =
    let moving = c.args.self in
    let next = c.next-next.result.now in
    let is_next = subst (λ (one : Mover). slice_get one.left 0 ≡ Some next) c.self.view_is
    c.next-next.ensures in
    let begun = subst (λ (one : Mover). 0 < one.staged) c.self.view_is c.self.invariant.1 in
    let left = pieces-are moving next is_next ∙ left-of moving.staged next.bytes begun in
    let some = c.requires.left in
    let count = c.piece_count-count.ensures.value ∙ ap piece_count c.as_slice.ensures in
    omega (arith, left, some, count)

pub returns : goal.returns
returns g c =
    let before = g.F.Folder.moment c.args.folder.now in
    let now = g.F.Folder.moment c.append_table-appended.new.folder in
    let moving = c.args.self in
    let token = moving.keeper.token in
    let next = c.next-next.result.now in
    let appended = c.append_table-appended.result in
    let called = c.append_table-appended.ensures in
    let is_next = subst (λ (one : Mover). slice_get one.left 0 ≡ Some next)
    c.self.view_is c.next-next.ensures in
    let shown = subst (λ (one : Mover). LeadsTo one before_commit appended c.leads.result)
    c.appended_once.ensures c.leads.ensures.shown in
    takes-next before now token (slice_get moving.left 0) next is_next (stages_more moving.staged)
    (λ next answer. LeadsTo (appended_once moving) before_commit answer c.leads.result)
    HasStagedNext own_command failed_before c.leads.result
    (takes-step (stages_more moving.staged next) tt (HasStagedNext moving) HasStagedNext
    (appended_once moving) (staged-after-append moving next is_next) tt
    (λ result stood held. refl)
    (λ deeds stood held. may-append held.recovers.intent moving.keeper moving.left stood
    held.recovers.carries next is_next moving.staged held.staged deeds)
    before_commit before now called.narrows token appended c.leads.result shown c.requires.stands
    (called-of before now _ token (stages_more moving.staged next) appended
    (c.token.ensures ∙ ap (λ (one : Mover). one.keeper.token) c.self.view_is)
    (subst (λ (one : Mover).
    Called before now c.token.result.now (stages_more one.staged next) appended)
    c.self.view_is (record { told = called.told; noted = called.noted })))
    (counts failed_before _ _ appended c.leads.result c.leads.ensures.failed called.faults))
