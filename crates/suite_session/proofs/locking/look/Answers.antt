use Rattle.std.proofs.Common.{refl, arith}
use Rattle.acct_outside.specs.Calls.{lists}
use Rattle.suite_session.specs.Causes.{HasListedNone}
use Rattle.suite_session.proofs.MetLemmas.{look-met}
use Rattle.suite_session.proofs.LooksLemmas.{look-less}
use Rattle.suite_session.proofs.TurnLemmas.{turns}
use Rattle.suite_session.proofs.LeavingLemmas.{look-unkept}
use Rattle.suite_session.proofs.LockingTurns.{lock-ends, look-stands, look-quiet}
use Rattle.suite_session.proofs.MeetingLemmas.{look-on, look-ends}
use Rattle.acct_outside.specs.declared.CommitStage.TheVariants.{Before}
use Rattle.suite_session.specs.declared.state.State.TheVariants.{Looking}
use Rattle.suite_session.proofs.CallsLemmas.{answers-near}
use Rattle.suite_session.proofs.LockCalls.{look-calls}
use Rattle.suite_session.proofs.locking.look.Goals as goal

pub returns-in-Ok : goal.returns-in-Ok
returns-in-Ok g c = record {
  turns =
      let before = g.F.Folder.moment c.args.folder.now in
      let now = g.F.Folder.moment c.look.new.folder in
      rw c.after_look.ensures
      (turns before now c.args.runner.now Before (HasListedNone) c.requires.1
      c.args.looking c.requires.0 (lists) tt _ (λ result stood. refl)
      c.in-Ok.ensures.call
      c.look.ensures.lawful c.look.ensures.faults.never_falls
      (Looking c.args.looking) _ refl
      (look-on c.args.runner.now.asked.request.tool _ c.args.looking c.in-Ok.ensures.call.answer
      c.in-Ok.seen
      c.in-Ok.ensures.call.shown)
      (λ met none. absurd none)
      (look-stands before now c.args.runner.now c.args.looking c.requires.1 c.requires.0
      c.in-Ok.seen c.in-Ok.ensures.call c.in-Ok.ensures.next)
      (look-quiet c.args.runner.now.asked.request c.in-Ok.seen) tt
      (look-less c.args.runner.now.asked.request c.args.looking c.in-Ok.seen));
  counts =
      rw c.after_look.ensures (look-calls c.args.runner.now.asked.request
      c.args.looking c.in-Ok.seen);
}

pub returns-in-Err : goal.returns-in-Err
returns-in-Err g c = record {
  turns =
      let before = g.F.Folder.moment c.args.folder.now in
      let now = g.F.Folder.moment c.look.new.folder in
      lock-ends before now c.args.runner.now HasListedNone c.requires.1
      c.args.looking c.requires.0 (Looking c.args.looking) tt (λ result stood. refl) _ _
      c.in-Err.end c.in-Err.ensures c.stopped.result c.stopped.ensures
      (look-ends c.args.runner.now.asked.request.tool c.stopped.result c.args.looking _ c.in-Err.end
      c.in-Err.ensures.call.shown c.stopped.ensures)
      (λ met none. absurd none)
      (look-met c.args.runner.now now.told c.args.looking _ c.in-Err.end
      c.in-Err.ensures.call.shown)
      (look-unkept c.args.looking _ c.in-Err.end c.in-Err.ensures.call.shown) tt;
  counts =
      answers-near _ _ (Looking c.args.looking) c.stopped.result c.stopped.ensures (omega arith);
}
