use Rattle.std.proofs.Common.{refl, sym, ap, subst, ◌∙◌, ◌<◌, length, Err}
use Rattle.acct_outside.specs.declared.Name.TheVariants.{Intent}
use Rattle.acct_outside.specs.Calls.{removes}
use Rattle.suite_rules.specs.Outcomes.{stages, before_commit}
use Rattle.lock_steps.specs.NextCall.{next_or}
use Rattle.recovery.specs.States.{Mover, mover_of}
use Rattle.recovery.specs.Stands.{Recovers, HasStagedNext}
use Rattle.suite_session.specs.declared.state.State.TheVariants.{Recovering, Moving}
use Rattle.suite_session.proofs.LooksLemmas.{few-less}
use Rattle.suite_session.proofs.StagingLemmas.{table-staged}
use Rattle.suite_session.proofs.TurnLemmas.{may-step, goes-on, leads-turns, leads-faults}
use Rattle.suite_session.proofs.RecoveringTurns.{some-next}
use Rattle.suite_session.proofs.LeadsLemmas.{leads-on}
use Rattle.acct_outside.specs.declared.CommitStage.TheVariants.{Before}
use Rattle.suite_session.proofs.CallsLemmas.{answers-fewer, recovering-some, staged-calls, some-left}
use Rattle.suite_session.proofs.DueTextLemmas.{recovers-due}
use Rattle.suite_session.proofs.recovering.recover.Goals as goal

pub stage_next-requires-clause-stands : goal.stage_next-requires-clause-stands
stage_next-requires-clause-stands g c =
    let before = g.F.Folder.moment c.args.folder.now in
    may-step before c.args.runner.now Before (Recovers c.args.recovering)
    (c.args.recovering.keeper.token) (c.requires.0) (c.requires.1)

pub returns-in-Ok : goal.returns-in-Ok
returns-in-Ok g c = record {
  turns =
      let before = g.F.Folder.moment c.args.folder.now in
      let now = g.F.Folder.moment c.stage_next.new.folder in
      let shown = some-next c.args.recovering.left
      (some-left _ _ c.left.ensures c.if-left-eq0.false) c.in-Ok.ensures.call in
      let due = recovers-due c.args.runner.now c.args.recovering shown.0 shown.2 in
      let is = leads-on (mover_of 1 c.args.recovering) before_commit _
      c.in-Ok.moving shown.1.shown in
      leads-turns before now c.args.runner.now Before (Recovers c.args.recovering)
      c.requires.1
      c.args.recovering.keeper.token c.requires.0 (stages shown.0) due _ (λ result stood. refl)
      shown.1
      (mover_of 1 c.args.recovering) before_commit c.in-Ok.moving shown.1.shown
      (λ given one met shows. shows)
      c.stage_next.ensures.lawful c.stage_next.ensures.faults.never_falls
      (Recovering c.args.recovering)
      (Moving c.in-Ok.moving) (ap (next_or (removes Intent) stages) shown.2)
      (λ met none. absurd none) (
        ap (λ (one : Mover). one.keeper.token) is ∙ c.requires.0,
        subst (λ (one : Mover). 0 < length one.left) (sym is)
            (some-left _ _ c.left.ensures c.if-left-eq0.false),
        goes-on before now c.args.runner.now Before (Recovers c.args.recovering)
            c.requires.1
            c.args.recovering.keeper.token c.requires.0 (stages shown.0) due _
            (λ result stood. refl)
            shown.1
            (HasStagedNext c.in-Ok.moving) c.in-Ok.ensures.next,
      )
      (λ fault. fault)
      (table-staged c.in-Ok.moving c.args.recovering.left shown.0
      (ap (λ (one : Mover). one.left) is) shown.2)
      (few-less (Recovering c.args.recovering) (Moving c.in-Ok.moving) tt refl);
  counts =
      let shown = some-next c.args.recovering.left
      (some-left _ _ c.left.ensures c.if-left-eq0.false) c.in-Ok.ensures.call in
      staged-calls c.args.recovering c.in-Ok.moving
      (leads-on (mover_of 1 c.args.recovering) before_commit _ c.in-Ok.moving shown.1.shown);
}

pub returns-in-Err : goal.returns-in-Err
returns-in-Err g c = record {
  turns =
      let before = g.F.Folder.moment c.args.folder.now in
      let now = g.F.Folder.moment c.stage_next.new.folder in
      let shown = some-next c.args.recovering.left
      (some-left _ _ c.left.ensures c.if-left-eq0.false) c.in-Err.ensures.call in
      let due = recovers-due c.args.runner.now c.args.recovering shown.0 shown.2 in
      leads-faults before now c.args.runner.now Before (Recovers c.args.recovering)
      c.requires.1
      c.args.recovering.keeper.token c.requires.0 (stages shown.0) due _ (λ result stood. refl)
      shown.1
      (mover_of 1 c.args.recovering) c.in-Err.fault shown.1.shown
      c.stage_next.ensures.lawful c.stage_next.ensures.faults.never_falls
      (Recovering c.args.recovering) c.stopped.result
      (ap (next_or (removes Intent) stages) shown.2)
      (λ met none. absurd none)
      c.stopped.ensures (λ is. c.stage_next.ensures.faults.failed (c.in-Err.is ∙ ap Err is));
  counts =
      answers-fewer _ _ c.stopped.result c.stopped.ensures _ (recovering-some c.args.recovering)
      refl;
}
