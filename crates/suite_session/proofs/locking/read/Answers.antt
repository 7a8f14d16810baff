use Rattle.std.proofs.Common.{refl, arith}
use Rattle.acct_outside.specs.declared.Name.TheVariants.{Lock}
use Rattle.acct_outside.specs.Calls.{reads}
use Rattle.lock_steps.specs.Stands.{HasLooked}
use Rattle.suite_session.proofs.MetLemmas.{read-met}
use Rattle.suite_session.proofs.LooksLemmas.{read-less}
use Rattle.suite_session.proofs.TurnLemmas.{turns}
use Rattle.suite_session.proofs.LeavingLemmas.{read-unkept}
use Rattle.suite_session.proofs.LockingTurns.{lock-ends, read-stands, read-quiet}
use Rattle.suite_session.proofs.MeetingLemmas.{read-on, read-ends}
use Rattle.acct_outside.specs.declared.CommitStage.TheVariants.{Before}
use Rattle.suite_session.specs.declared.state.State.TheVariants.{Reading}
use Rattle.suite_session.proofs.CallsLemmas.{answers-near}
use Rattle.suite_session.proofs.LockCalls.{read-calls}
use Rattle.suite_session.proofs.locking.read.Goals as goal

pub returns-in-Ok : goal.returns-in-Ok
returns-in-Ok g c = record {
  turns =
      let before = g.F.Folder.moment c.args.folder.now in
      let now = g.F.Folder.moment c.read.new.folder in
      rw c.after_read.ensures
      (turns before now c.args.runner.now Before (HasLooked c.args.seen) c.requires.2
      c.args.seen.token c.requires.0 (reads (Lock c.args.seen.greatest)) tt _ (λ result stood. refl)
      c.in-Ok.ensures.call
      c.read.ensures.lawful c.read.ensures.faults.never_falls
      (Reading c.args.seen) _ refl
      (read-on c.args.runner.now.asked.request.tool _ c.args.seen c.in-Ok.ensures.call.answer
      c.in-Ok.told
      c.in-Ok.ensures.call.shown)
      (λ met none. absurd none)
      (read-stands before now c.args.runner.now c.args.seen c.requires.2 c.requires.0 c.requires.3
      c.in-Ok.told
      c.in-Ok.ensures.call c.in-Ok.ensures.next)
      (read-quiet c.args.runner.now.asked.request c.in-Ok.told) tt
      (read-less c.args.runner.now.asked.request c.args.seen c.in-Ok.told));
  counts =
      rw c.after_read.ensures (read-calls c.args.runner.now.asked.request c.args.seen c.in-Ok.told);
}

pub returns-in-Err : goal.returns-in-Err
returns-in-Err g c = record {
  turns =
      let before = g.F.Folder.moment c.args.folder.now in
      let now = g.F.Folder.moment c.read.new.folder in
      lock-ends before now c.args.runner.now (HasLooked c.args.seen) c.requires.2
      c.args.seen.token c.requires.0 (Reading c.args.seen) tt (λ result stood. refl) _ _
      c.in-Err.end c.in-Err.ensures c.stopped.result c.stopped.ensures
      (read-ends c.args.runner.now.asked.request.tool c.stopped.result c.args.seen _ c.in-Err.end
      c.in-Err.ensures.call.shown c.stopped.ensures)
      (λ met none. absurd none)
      (read-met c.args.runner.now now.told c.args.seen _ c.in-Err.end c.requires.1 c.requires.3
      c.in-Err.ensures.call.shown)
      (read-unkept c.args.seen _ c.in-Err.end c.in-Err.ensures.call.shown) tt;
  counts =
      answers-near _ _ (Reading c.args.seen) c.stopped.result c.stopped.ensures (omega arith);
}
