use Rattle.std.proofs.Common.{refl}
use Rattle.acct_outside.specs.declared.Name.TheVariants.{Intent}
use Rattle.acct_outside.specs.Calls.{removes}
use Rattle.suite_rules.specs.Outcomes.{before_commit}
use Rattle.suite_rules.proofs.StepLemmas.{Called, called-of, told-of}
use Rattle.lock_steps.specs.Stands.{Keeps, KnowsNoneYet}
use Rattle.lock_steps.proofs.OutcomesLemmas.{counts}
use Rattle.recovery.specs.Stands.{Recovers}
use Rattle.recovery.specs.Outcomes.{failed_before}
use Rattle.recovery.proofs.CarryLemmas.{may-remove}
use Rattle.recovery.proofs.LeadsLemmas.{takes-step}
use Rattle.recovery.proofs.RecoversLemmas.{clean-after-removal}
use Rattle.recovery.proofs.OutcomesLemmas.{removal-clean}
use Rattle.recovery.proofs.recovering.Recovering.remove_intent.Goals as goal

pub after_removal-requires : goal.after_removal-requires
after_removal-requires g c =
    let before = g.F.Folder.moment c.args.folder.now in
    let now = g.F.Folder.moment c.remove_intent-removed.new.folder in
    let token = c.args.self.keeper.token in
    let removed = c.remove_intent-removed.result in
    removal-clean before now c.remove_intent-removed.ensures.narrows token c.args.self removed
    c.requires.stands
    (told-of before now _ token (removes Intent) removed c.token.ensures
    c.remove_intent-removed.ensures.told)

pub returns : goal.returns
returns g c =
    let before = g.F.Folder.moment c.args.folder.now in
    let now = g.F.Folder.moment c.remove_intent-removed.new.folder in
    let recovering = c.args.self in
    let token = recovering.keeper.token in
    let removed = c.remove_intent-removed.result in
    let called = c.remove_intent-removed.ensures in
    takes-step (removes Intent) tt (Recovers recovering) (λ keeper. Keeps keeper KnowsNoneYet)
    recovering.keeper (clean-after-removal recovering) tt (λ result stood held. refl)
    (λ deeds stood held. may-remove held.intent recovering.keeper recovering.left stood held.carries
    deeds c.requires.left)
    before_commit before now called.narrows token removed c.after_removal.result
    c.after_removal.ensures.shown c.requires.stands
    (called-of before now _ token (removes Intent) removed c.token.ensures
    (record { told = called.told; noted = called.noted }))
    (counts failed_before _ _ removed c.after_removal.result c.after_removal.ensures.failed
    called.faults)
