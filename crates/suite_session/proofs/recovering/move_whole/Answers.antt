use Rattle.std.proofs.Common.{refl, ap, ◌∙◌, Err}
use Rattle.suite_rules.specs.Outcomes.{installs, before_commit}
use Rattle.recovery.specs.States.{Recoverer, moved_once}
use Rattle.recovery.proofs.NextLemmas.{moves-whole}
use Rattle.recovery.specs.Stands.{Recovers, HasStagedNext}
use Rattle.suite_session.specs.declared.state.State.TheVariants.{Moving, Recovering}
use Rattle.suite_session.proofs.LooksLemmas.{few-less}
use Rattle.suite_session.proofs.TurnLemmas.{may-step, goes-on, leads-turns, leads-faults}
use Rattle.suite_session.proofs.RecoveringTurns.{some-next}
use Rattle.suite_session.proofs.LeadsLemmas.{leads-on}
use Rattle.acct_outside.specs.declared.CommitStage.TheVariants.{Before}
use Rattle.suite_session.proofs.CallsLemmas.{answers-fewer, moved-calls, moving-some}
use Rattle.suite_session.proofs.recovering.move_whole.Goals as goal

pub move_next-requires-clause-stands : goal.move_next-requires-clause-stands
move_next-requires-clause-stands g c =
    let before = g.F.Folder.moment c.args.folder.now in
    may-step before c.args.runner.now Before (HasStagedNext c.args.moving)
    (c.args.moving.keeper.token) (c.requires.stands.0) (c.requires.stands.2)

pub returns-in-Ok : goal.returns-in-Ok
returns-in-Ok g c = record {
  turns =
      let before = g.F.Folder.moment c.args.folder.now in
      let now = g.F.Folder.moment c.move_next.new.folder in
      let shown = some-next c.args.moving.left c.requires.stands.1 c.in-Ok.ensures.call in
      let is = leads-on (moved_once c.args.moving) before_commit _ c.in-Ok.recovering shown.1.shown
      in
      leads-turns before now c.args.runner.now Before (HasStagedNext c.args.moving)
      c.requires.stands.2
      c.args.moving.keeper.token c.requires.stands.0 (installs shown.0) tt _
      (λ result stood. refl) shown.1
      (moved_once c.args.moving) before_commit c.in-Ok.recovering shown.1.shown
      (λ given one met shows. shows)
      c.move_next.ensures.lawful c.move_next.ensures.faults.never_falls (Moving c.args.moving)
      (Recovering c.in-Ok.recovering) (moves-whole c.args.moving shown.0 shown.2 c.requires.whole)
      (λ met none. absurd none) (
        ap (λ (one : Recoverer). one.keeper.token) is ∙ c.requires.stands.0,
        goes-on before now c.args.runner.now Before (HasStagedNext c.args.moving)
            c.requires.stands.2
            c.args.moving.keeper.token c.requires.stands.0 (installs shown.0) tt _
            (λ result stood. refl)
            shown.1
            (Recovers c.in-Ok.recovering) c.in-Ok.ensures.next,
      )
      (λ fault. fault) tt
      (few-less (Moving c.args.moving) (Recovering c.in-Ok.recovering) tt refl);
  counts =
      let shown = some-next c.args.moving.left c.requires.stands.1 c.in-Ok.ensures.call in
      moved-calls c.args.moving c.in-Ok.recovering
      (leads-on (moved_once c.args.moving) before_commit _ c.in-Ok.recovering shown.1.shown)
      c.requires.stands.1 c.requires.whole;
}

pub returns-in-Err : goal.returns-in-Err
returns-in-Err g c = record {
  turns =
      let before = g.F.Folder.moment c.args.folder.now in
      let now = g.F.Folder.moment c.move_next.new.folder in
      let shown = some-next c.args.moving.left c.requires.stands.1 c.in-Err.ensures.call in
      leads-faults before now c.args.runner.now Before (HasStagedNext c.args.moving)
      c.requires.stands.2
      c.args.moving.keeper.token c.requires.stands.0 (installs shown.0) tt _
      (λ result stood. refl) shown.1
      (moved_once c.args.moving) c.in-Err.fault shown.1.shown
      c.move_next.ensures.lawful c.move_next.ensures.faults.never_falls (Moving c.args.moving)
      c.stopped.result (moves-whole c.args.moving shown.0 shown.2 c.requires.whole)
      (λ met none. absurd none)
      c.stopped.ensures (λ is. c.move_next.ensures.faults.failed (c.in-Err.is ∙ ap Err is));
  counts =
      answers-fewer _ _ c.stopped.result c.stopped.ensures _ (moving-some c.args.moving)
      c.requires.whole;
}
