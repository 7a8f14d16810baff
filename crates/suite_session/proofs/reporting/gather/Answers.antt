use Rattle.std.proofs.Common.{refl, sym, ap, ◌∙◌, Err, arith}
use Rattle.acct_outside.specs.declared.CommitStage.TheVariants.{Before}
use Rattle.acct_outside.specs.Calls.{reads}
use Rattle.lock_steps.specs.Watching.{HasGathered, next_left}
use Rattle.suite_session.specs.declared.state.State.TheVariants.{Gathering}
use Rattle.suite_session.proofs.CallsLemmas.{answers-fewer, some-left}
use Rattle.suite_session.proofs.ReportReads.{gather-calls, gather-came, gather-on, gather-keeps, gather-quiet, gathers-next, read-faults, unread-input}
use Rattle.suite_session.proofs.LooksLemmas.{gathers-less}
use Rattle.suite_session.proofs.TurnLemmas.{goes-on, may-step, turns}
use Rattle.suite_session.proofs.reporting.gather.Goals as goal

pub show-requires : goal.show-requires
show-requires g c =
    record { read = sym c.left.ensures ∙ c.if-left-eq0.true; stands = c.requires }

pub read_next-requires : goal.read_next-requires
read_next-requires g c =
    let before = g.F.Folder.moment c.args.folder.now in
    record {
      left = some-left _ _ c.left.ensures c.if-left-eq0.false;
      stands = may-step before c.args.runner.now Before (HasGathered c.args.reading)
          c.args.reading.token c.requires.0 c.requires.1;
    }

pub returns-in-Ok : goal.returns-in-Ok
returns-in-Ok g c = record {
  turns =
      let before = g.F.Folder.moment c.args.folder.now in
      let now = g.F.Folder.moment c.read_next.new.folder in
      let reading = c.args.reading in
      let some = some-left _ _ c.left.ensures c.if-left-eq0.false in
      let kept = gather-keeps reading _ _ c.in-Ok.ensures.call.shown in
      turns before now c.args.runner.now Before (HasGathered reading) c.requires.1
      reading.token c.requires.0 (reads (next_left reading)) tt _ (λ result stood. refl)
      c.in-Ok.ensures.call
      c.read_next.ensures.lawful c.read_next.ensures.faults.never_falls
      (Gathering reading) (Gathering c.in-Ok.reading) (gathers-next reading some)
      (gather-on reading c.in-Ok.ensures.call.answer c.in-Ok.reading c.in-Ok.ensures.call.shown
      (unread-input _ _ c.is_sound.ensures) (Gathering c.in-Ok.reading))
      (λ met none. absurd none) (
        kept.0 ∙ c.requires.0,
        goes-on before now c.args.runner.now Before (HasGathered reading) c.requires.1
            reading.token c.requires.0 (reads (next_left reading)) tt _ (λ result stood. refl)
            c.in-Ok.ensures.call (HasGathered c.in-Ok.reading) c.in-Ok.ensures.next,
        c.requires.2,
        kept.1 ∙ c.requires.3,
      )
      (λ fault. fault) tt
      (gathers-less reading c.in-Ok.ensures.call.answer c.in-Ok.reading c.in-Ok.ensures.call.shown
      some);
  counts =
      gather-calls c.args.reading c.in-Ok.ensures.call.answer c.in-Ok.reading
      c.in-Ok.ensures.call.shown (some-left _ _ c.left.ensures c.if-left-eq0.false);
}

pub returns-in-Err : goal.returns-in-Err
returns-in-Err g c = record {
  turns =
      let before = g.F.Folder.moment c.args.folder.now in
      let now = g.F.Folder.moment c.read_next.new.folder in
      let reading = c.args.reading in
      let some = some-left _ _ c.left.ensures c.if-left-eq0.false in
      read-faults before now c.args.runner.now (HasGathered reading) c.requires.1
      reading.token c.requires.0 (reads (next_left reading)) tt _ (λ result stood. refl)
      c.in-Err.ensures.call (gather-quiet reading (unread-input _ _ c.is_sound.ensures))
      c.read_next.ensures.lawful c.read_next.ensures.faults.never_falls
      (Gathering reading) c.failed.result (gathers-next reading some) (λ met none. none)
      c.in-Err.fault
      (gather-came reading c.in-Err.ensures.call.answer c.in-Err.fault
      c.in-Err.ensures.call.shown) c.failed.ensures
      (λ is. c.read_next.ensures.faults.failed (c.in-Err.is ∙ ap Err is)) tt;
  counts =
      answers-fewer _ _ c.failed.result c.failed.ensures (Gathering c.args.reading) (omega arith)
      refl;
}
