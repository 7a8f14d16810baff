use Rattle.std.proofs.Common.{refl, ap, ◌∙◌, Err, arith}
use Rattle.acct_outside.specs.declared.Name.TheVariants.{Intent}
use Rattle.acct_outside.specs.declared.CommitStage.TheVariants.{Before}
use Rattle.acct_outside.specs.Calls.{reads}
use Rattle.account_model.specs.SeenFiles.{read_tables}
use Rattle.lock_steps.specs.Stands.{HasJudged}
use Rattle.lock_steps.specs.Watching.{HasGathered}
use Rattle.suite_session.specs.declared.state.State.TheVariants.{Watching, Gathering}
use Rattle.suite_session.specs.Runner.{Runner}
use Rattle.suite_session.proofs.CallsLemmas.{answers-fewer}
use Rattle.suite_session.proofs.ReportReads.{read-faults, watch-calls, watch-came, watch-keeps, watch-on, watch-quiet}
use Rattle.suite_session.proofs.LooksLemmas.{watches-less}
use Rattle.suite_session.proofs.TurnLemmas.{goes-on, may-step, turns}
use Rattle.suite_session.proofs.reporting.watch.Goals as goal

pub read_intent-requires : goal.read_intent-requires
read_intent-requires g c =
    let before = g.F.Folder.moment c.args.folder.now in
    may-step before c.args.runner.now Before (HasJudged c.args.watcher) c.args.watcher.token
    c.requires.0 c.requires.1

pub returns-in-Ok : goal.returns-in-Ok
returns-in-Ok g c = record {
  turns =
      let before = g.F.Folder.moment c.args.folder.now in
      let now = g.F.Folder.moment c.read_intent.new.folder in
      let kept = watch-keeps _ _ _ _ c.in-Ok.ensures.call.shown in
      turns before now c.args.runner.now Before (HasJudged c.args.watcher) c.requires.1
      c.args.watcher.token c.requires.0 (reads Intent) tt _ (λ result stood. refl)
      c.in-Ok.ensures.call
      c.read_intent.ensures.lawful c.read_intent.ensures.faults.never_falls
      (Watching c.args.watcher) (Gathering c.in-Ok.reading) refl
      (watch-on c.args.watcher _ c.in-Ok.ensures.call.answer c.in-Ok.reading
      c.in-Ok.ensures.call.shown (Gathering c.in-Ok.reading))
      (λ met none. absurd none) (
        kept.0 ∙ c.requires.0,
        goes-on before now c.args.runner.now Before (HasJudged c.args.watcher) c.requires.1
            c.args.watcher.token c.requires.0 (reads Intent) tt _ (λ result stood. refl)
            c.in-Ok.ensures.call (HasGathered c.in-Ok.reading) c.in-Ok.ensures.next,
        c.requires.2,
        kept.1 ∙ (c.read_tables.ensures
            ∙ ap (λ (runner : Runner). read_tables runner.asked.request) c.runner.view_is),
      )
      (λ fault. fault) tt
      (watches-less c.args.watcher _ c.in-Ok.ensures.call.answer c.in-Ok.reading
      c.in-Ok.ensures.call.shown);
  counts = watch-calls c.args.watcher _ c.in-Ok.ensures.call.answer c.in-Ok.reading
      c.in-Ok.ensures.call.shown;
}

pub returns-in-Err : goal.returns-in-Err
returns-in-Err g c = record {
  turns =
      let before = g.F.Folder.moment c.args.folder.now in
      let now = g.F.Folder.moment c.read_intent.new.folder in
      read-faults before now c.args.runner.now (HasJudged c.args.watcher) c.requires.1
      c.args.watcher.token c.requires.0 (reads Intent) tt _ (λ result stood. refl)
      c.in-Err.ensures.call (watch-quiet c.args.watcher)
      c.read_intent.ensures.lawful c.read_intent.ensures.faults.never_falls
      (Watching c.args.watcher) c.failed.result refl (λ met none. none) c.in-Err.fault
      (watch-came c.args.watcher _ c.in-Err.ensures.call.answer c.in-Err.fault
      c.in-Err.ensures.call.shown) c.failed.ensures
      (λ is. c.read_intent.ensures.faults.failed (c.in-Err.is ∙ ap Err is)) tt;
  counts =
      answers-fewer _ _ c.failed.result c.failed.ensures (Watching c.args.watcher) (omega arith)
      refl;
}
