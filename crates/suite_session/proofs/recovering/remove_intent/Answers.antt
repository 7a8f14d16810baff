use Rattle.std.proofs.Common.{refl, ap, ◌∙◌, Err}
use Rattle.acct_outside.specs.declared.Name.TheVariants.{Intent}
use Rattle.acct_outside.specs.Calls.{removes}
use Rattle.recovery.specs.Stands.{Recovers}
use Rattle.recovery.proofs.NextLemmas.{recovers-none}
use Rattle.lock_steps.specs.States.{Kept}
use Rattle.lock_steps.specs.Stands.{Keeps, KnowsNoneYet}
use Rattle.suite_session.specs.declared.state.State.TheVariants.{Recovering, Loading}
use Rattle.commit_steps.specs.States.{start_of}
use Rattle.suite_session.proofs.LooksLemmas.{few-less}
use Rattle.suite_session.proofs.TurnLemmas.{may-step, goes-on, leads-turns, leads-faults}
use Rattle.suite_session.proofs.RecoveringTurns.{starts-loading}
use Rattle.suite_session.proofs.LeadsLemmas.{leads-on}
use Rattle.suite_rules.specs.Outcomes.{before_commit}
use Rattle.acct_outside.specs.declared.CommitStage.TheVariants.{Before}
use Rattle.suite_session.proofs.CallsLemmas.{answers-fewer, recovering-some, removed-calls}
use Rattle.suite_session.proofs.recovering.remove_intent.Goals as goal

pub remove_intent-requires-clause-stands : goal.remove_intent-requires-clause-stands
remove_intent-requires-clause-stands g c =
    let before = g.F.Folder.moment c.args.folder.now in
    may-step before c.args.runner.now Before (Recovers c.args.recovering)
    (c.args.recovering.keeper.token) (c.requires.stands.0) (c.requires.stands.1)

pub returns-in-Ok : goal.returns-in-Ok
returns-in-Ok g c = record {
  turns =
      let before = g.F.Folder.moment c.args.folder.now in
      let now = g.F.Folder.moment c.remove_intent.new.folder in
      let is = leads-on c.args.recovering.keeper before_commit _ c.in-Ok.keeper
      c.in-Ok.ensures.call.shown in
      rw c.start.ensures
      (leads-turns before now c.args.runner.now Before (Recovers c.args.recovering)
      c.requires.stands.1
      c.args.recovering.keeper.token c.requires.stands.0 (removes Intent) tt _
      (λ result stood. refl)
      c.in-Ok.ensures.call
      c.args.recovering.keeper before_commit c.in-Ok.keeper c.in-Ok.ensures.call.shown
      (λ given one met shows. shows)
      c.remove_intent.ensures.lawful c.remove_intent.ensures.faults.never_falls
      (Recovering c.args.recovering) (Loading (start_of c.in-Ok.keeper))
      (recovers-none c.args.recovering c.requires.none)
      (λ met none. absurd none) (
        ap (λ (one : Kept). one.token) is ∙ c.requires.stands.0,
        starts-loading now c.args.runner.now c.in-Ok.keeper
            (goes-on before now c.args.runner.now Before (Recovers c.args.recovering)
            c.requires.stands.1
            c.args.recovering.keeper.token c.requires.stands.0 (removes Intent) tt _
            (λ result stood. refl)
            c.in-Ok.ensures.call
            (Keeps c.in-Ok.keeper KnowsNoneYet) c.in-Ok.ensures.next),
      )
      (λ fault. fault) tt
      (few-less (Recovering c.args.recovering) (Loading (start_of c.in-Ok.keeper)) tt refl));
  counts =
      rw c.start.ensures (removed-calls c.args.recovering c.in-Ok.keeper
      (leads-on c.args.recovering.keeper before_commit _ c.in-Ok.keeper
      c.in-Ok.ensures.call.shown) c.requires.none);
}

pub returns-in-Err : goal.returns-in-Err
returns-in-Err g c = record {
  turns =
      let before = g.F.Folder.moment c.args.folder.now in
      let now = g.F.Folder.moment c.remove_intent.new.folder in
      leads-faults before now c.args.runner.now Before (Recovers c.args.recovering)
      c.requires.stands.1
      c.args.recovering.keeper.token c.requires.stands.0 (removes Intent) tt _
      (λ result stood. refl)
      c.in-Err.ensures.call
      c.args.recovering.keeper c.in-Err.fault c.in-Err.ensures.call.shown
      c.remove_intent.ensures.lawful c.remove_intent.ensures.faults.never_falls
      (Recovering c.args.recovering) c.stopped.result
      (recovers-none c.args.recovering c.requires.none)
      (λ met none. absurd none)
      c.stopped.ensures (λ is. c.remove_intent.ensures.faults.failed (c.in-Err.is ∙ ap Err is));
  counts =
      answers-fewer _ _ c.stopped.result c.stopped.ensures _ (recovering-some c.args.recovering)
      refl;
}
