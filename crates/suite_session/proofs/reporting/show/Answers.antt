use Rattle.std.proofs.Common.{refl, sym, ap, ◌∙◌, Err, arith}
use Rattle.acct_outside.specs.declared.CommitStage.TheVariants.{Before}
use Rattle.acct_outside.specs.Calls.{lists}
use Rattle.lock_steps.specs.Watching.{HasGathered}
use Rattle.suite_session.specs.declared.state.State.TheVariants.{Gathering}
use Rattle.suite_session.specs.Locking.{cause_of_end}
use Rattle.suite_session.proofs.CallsLemmas.{answers-fewer}
use Rattle.suite_session.proofs.LeavingLemmas.{outrun-unkept}
use Rattle.suite_session.proofs.LockingLemmas.{end-failed, end-plain, end-stage}
use Rattle.suite_session.proofs.ReportMeeting.{outrun-ends, outrun-met, reported-tells}
use Rattle.suite_session.proofs.ReportReads.{gathers-last}
use Rattle.suite_session.proofs.ReportingTurns.{reported-calls, reported-quiet, reported-stands}
use Rattle.suite_session.proofs.LooksLemmas.{reported-less}
use Rattle.suite_session.proofs.TurnLemmas.{ends, may-step, turns}
use Rattle.suite_session.proofs.reporting.show.Goals as goal

pub confirm-requires : goal.confirm-requires
confirm-requires g c =
    let before = g.F.Folder.moment c.args.folder.now in
    record {
      none_left = c.requires.read;
      stands = may-step before c.args.runner.now Before (HasGathered c.args.reading)
          c.args.reading.token c.requires.stands.0 c.requires.stands.1;
    }

pub reported-requires : goal.reported-requires
reported-requires g c = c.requires.stands.2

pub returns-in-Ok : goal.returns-in-Ok
returns-in-Ok g c = record {
  turns =
      let before = g.F.Folder.moment c.args.folder.now in
      let now = g.F.Folder.moment c.confirm.new.folder in
      let reading = c.args.reading in
      turns before now c.args.runner.now Before (HasGathered reading) c.requires.stands.1
      reading.token c.requires.stands.0 lists tt _ (λ result stood. refl) c.in-Ok.ensures.call
      c.confirm.ensures.lawful c.confirm.ensures.faults.never_falls
      (Gathering reading) c.reported.result (gathers-last reading c.requires.read)
      (reported-tells c.args.runner.now c.reported.result reading c.in-Ok.shown
      c.reported.ensures c.in-Ok.ensures.call.answer c.in-Ok.ensures.call.shown)
      (λ met none. absurd none)
      (reported-stands before now c.args.runner.now reading c.requires.stands.1
      c.requires.stands.0 c.requires.stands.2 c.requires.stands.3 c.in-Ok.shown c.is_small.ensures
      c.in-Ok.ensures.call c.in-Ok.ensures.next c.reported.result c.reported.ensures)
      (reported-quiet c.args.runner.now c.in-Ok.shown c.reported.result c.reported.ensures) tt
      (reported-less c.args.runner.now c.in-Ok.shown (Gathering reading) c.reported.result
      c.reported.ensures);
  counts =
      reported-calls c.args.runner.now c.args.reading c.in-Ok.shown c.reported.result
      c.reported.ensures;
}

pub returns-in-Err : goal.returns-in-Err
returns-in-Err g c = record {
  turns =
      let before = g.F.Folder.moment c.args.folder.now in
      let now = g.F.Folder.moment c.confirm.new.folder in
      let reading = c.args.reading in
      ends before now c.args.runner.now Before (HasGathered reading) c.requires.stands.1
      reading.token c.requires.stands.0 lists tt _ (λ result stood. refl) c.in-Err.ensures.call
      c.confirm.ensures.lawful c.confirm.ensures.faults.never_falls
      (Gathering reading) c.stopped.result (gathers-last reading c.requires.read)
      (outrun-ends c.args.runner.now c.stopped.result reading _ c.in-Err.end
      c.in-Err.ensures.call.shown c.stopped.ensures)
      (λ met none. absurd none)
      (cause_of_end c.in-Err.end) c.stopped.ensures (end-plain c.in-Err.end)
      (outrun-met c.args.runner.now now.told reading _ c.in-Err.end c.requires.stands.2
      c.in-Err.ensures.call.shown)
      (outrun-unkept reading _ c.in-Err.end c.in-Err.ensures.call.shown)
      (sym (end-stage c.in-Err.end))
      (λ fault. c.confirm.ensures.faults.failed
      (c.in-Err.is ∙ ap Err (end-failed c.in-Err.end fault))) tt;
  counts =
      answers-fewer _ _ c.stopped.result c.stopped.ensures (Gathering c.args.reading)
      (omega arith) refl;
}
