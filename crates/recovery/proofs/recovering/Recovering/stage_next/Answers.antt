use Rattle.std.proofs.Common.{refl, subst, slice_get}
use Rattle.suite_rules.specs.Steps.{own_command}
use Rattle.suite_rules.specs.Outcomes.{LeadsTo, before_commit, stages}
use Rattle.suite_rules.proofs.StepLemmas.{Called, called-of}
use Rattle.lock_steps.proofs.OutcomesLemmas.{counts}
use Rattle.recovery.specs.States.{Mover, mover_of}
use Rattle.recovery.specs.Stands.{Recovers, HasStagedNext}
use Rattle.recovery.specs.Outcomes.{failed_before}
use Rattle.recovery.proofs.CarryLemmas.{may-stage}
use Rattle.recovery.proofs.LeadsLemmas.{takes-next, takes-step}
use Rattle.recovery.proofs.RecoversLemmas.{staged-after-write}
use Rattle.recovery.proofs.recovering.Recovering.stage_next.Goals as goal

pub returns : goal.returns
returns g c =
    let before = g.F.Folder.moment c.args.folder.now in
    let now = g.F.Folder.moment c.stage_table-staged.new.folder in
    let recovering = c.args.self in
    let token = recovering.keeper.token in
    let next = c.next.result.now in
    let staged = c.stage_table-staged.result in
    let called = c.stage_table-staged.ensures in
    let shown = subst (λ (one : Mover). LeadsTo one before_commit staged c.leads.result)
    c.begun.ensures c.leads.ensures.shown in
    takes-next before now token (slice_get recovering.left 0) next c.next.ensures stages
    (λ next answer. LeadsTo (mover_of 1 recovering) before_commit answer c.leads.result)
    HasStagedNext own_command failed_before c.leads.result
    (takes-step (stages next) tt (Recovers recovering) HasStagedNext
    (mover_of 1 recovering) (staged-after-write recovering next c.next.ensures) tt
    (λ result stood held. refl)
    (λ deeds stood held. may-stage held.intent recovering.keeper recovering.left stood held.carries
    next c.next.ensures deeds)
    before_commit before now called.narrows token staged c.leads.result shown c.requires.stands
    (called-of before now _ token (stages next) staged c.token.ensures
    (record { told = called.told; noted = called.noted }))
    (counts failed_before _ _ staged c.leads.result c.leads.ensures.failed called.faults))
