use Rattle.std.proofs.Common.{◌<◌, refl, sym, ap, subst, ◌∙◌, length, Err}
use Rattle.acct_outside.specs.declared.CommitStage.TheVariants.{Before}
use Rattle.suite_rules.specs.Outcomes.{before_commit, stages_more}
use Rattle.recovery.specs.States.{Mover, appended_once}
use Rattle.recovery.specs.Stands.{HasStagedNext}
use Rattle.recovery.proofs.NextLemmas.{moves-on}
use Rattle.suite_session.specs.declared.state.State.TheVariants.{Moving}
use Rattle.suite_session.proofs.LooksLemmas.{few-less}
use Rattle.suite_session.proofs.StagingLemmas.{table-staged}
use Rattle.suite_session.proofs.TurnLemmas.{may-step, goes-on, leads-turns, leads-faults}
use Rattle.suite_session.proofs.RecoveringTurns.{some-next}
use Rattle.suite_session.proofs.LeadsLemmas.{leads-on}
use Rattle.suite_session.proofs.CallsLemmas.{added-calls, answers-append, moving-appends, moving-some, some-left}
use Rattle.suite_session.proofs.DueTextLemmas.{recovers-more-due}
use Rattle.suite_session.proofs.recovering.move_table.Goals as goal

pub move_whole-requires : goal.move_whole-requires
move_whole-requires g c =
    record { whole = sym c.pieces.ensures ∙ c.if-pieces-eq0.true; stands = c.requires }

pub append_next-requires : goal.append_next-requires
append_next-requires g c =
    let before = g.F.Folder.moment c.args.folder.now in
    record {
      left = some-left _ _ c.pieces.ensures c.if-pieces-eq0.false;
      stands = may-step before c.args.runner.now Before (HasStagedNext c.args.moving)
          (c.args.moving.keeper.token) (c.requires.0) (c.requires.2);
    }

pub returns-in-Ok : goal.returns-in-Ok
returns-in-Ok g c = record {
  turns =
      let before = g.F.Folder.moment c.args.folder.now in
      let now = g.F.Folder.moment c.append_next.new.folder in
      let moving = c.args.moving in
      let some = some-left _ _ c.pieces.ensures c.if-pieces-eq0.false in
      let shown = some-next moving.left c.requires.1 c.in-Ok.ensures.call in
      let due = recovers-more-due c.args.runner.now moving shown.0 shown.2 in
      let call = stages_more moving.staged shown.0 in
      let is = leads-on (appended_once moving) before_commit _ c.in-Ok.moving shown.1.shown in
      leads-turns before now c.args.runner.now Before (HasStagedNext moving) c.requires.2
      moving.keeper.token c.requires.0 call due _ (λ result stood. refl) shown.1
      (appended_once moving) before_commit c.in-Ok.moving shown.1.shown
      (λ given one met shows. shows)
      c.append_next.ensures.lawful c.append_next.ensures.faults.never_falls (Moving moving)
      (Moving c.in-Ok.moving) (moves-on moving shown.0 shown.2 some)
      (λ met none. absurd none) (
        ap (λ (one : Mover). one.keeper.token) is ∙ c.requires.0,
        subst (λ (one : Mover). 0 < length one.left) (sym is) c.requires.1,
        goes-on before now c.args.runner.now Before (HasStagedNext moving) c.requires.2
            moving.keeper.token c.requires.0 call due _ (λ result stood. refl) shown.1
            (HasStagedNext c.in-Ok.moving) c.in-Ok.ensures.next,
      )
      (λ fault. fault)
      (table-staged c.in-Ok.moving moving.left shown.0 (ap (λ (one : Mover). one.left) is) shown.2)
      (few-less (Moving moving) (Moving c.in-Ok.moving) tt refl);
  counts =
      let moving = c.args.moving in
      let some = some-left _ _ c.pieces.ensures c.if-pieces-eq0.false in
      let shown = some-next moving.left c.requires.1 c.in-Ok.ensures.call in
      added-calls moving c.in-Ok.moving
      (leads-on (appended_once moving) before_commit _ c.in-Ok.moving shown.1.shown) some;
}

pub returns-in-Err : goal.returns-in-Err
returns-in-Err g c = record {
  turns =
      let before = g.F.Folder.moment c.args.folder.now in
      let now = g.F.Folder.moment c.append_next.new.folder in
      let moving = c.args.moving in
      let some = some-left _ _ c.pieces.ensures c.if-pieces-eq0.false in
      let shown = some-next moving.left c.requires.1 c.in-Err.ensures.call in
      let due = recovers-more-due c.args.runner.now moving shown.0 shown.2 in
      let call = stages_more moving.staged shown.0 in
      leads-faults before now c.args.runner.now Before (HasStagedNext moving) c.requires.2
      moving.keeper.token c.requires.0 call due _ (λ result stood. refl) shown.1
      (appended_once moving) c.in-Err.fault shown.1.shown
      c.append_next.ensures.lawful c.append_next.ensures.faults.never_falls (Moving moving)
      c.stopped.result (moves-on moving shown.0 shown.2 some)
      (λ met none. absurd none)
      c.stopped.ensures (λ is. c.append_next.ensures.faults.failed (c.in-Err.is ∙ ap Err is));
  counts =
      let moving = c.args.moving in
      let some = some-left _ _ c.pieces.ensures c.if-pieces-eq0.false in
      answers-append _ _ c.stopped.result c.stopped.ensures (Moving moving)
      (moving-some moving) some
      (moving-appends moving some);
}
