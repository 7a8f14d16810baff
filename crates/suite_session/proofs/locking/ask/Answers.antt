use Rattle.std.proofs.Common.{refl, ◌∙◌, arith}
use Rattle.suite_session.specs.declared.state.State.TheVariants.{Asking}
use Rattle.acct_outside.specs.Calls.{asks}
use Rattle.lock_steps.specs.Stands.{HasReadHeld, HasJudged}
use Rattle.suite_session.proofs.MetLemmas.{ask-met}
use Rattle.suite_session.proofs.LooksLemmas.{ask-less}
use Rattle.suite_session.proofs.TurnLemmas.{goes-on, turns}
use Rattle.suite_session.proofs.LeavingLemmas.{ask-unkept}
use Rattle.suite_session.proofs.LockingLemmas.{asks-token}
use Rattle.suite_session.proofs.LockingTurns.{lock-ends, judged-stands, judged-quiet}
use Rattle.suite_session.proofs.MeetingLemmas.{ask-on, ask-ends}
use Rattle.acct_outside.specs.declared.CommitStage.TheVariants.{Before}
use Rattle.suite_session.proofs.CallsLemmas.{answers-near}
use Rattle.suite_session.proofs.LockCalls.{ask-calls}
use Rattle.suite_session.proofs.locking.ask.Goals as goal

pub returns-in-Ok : goal.returns-in-Ok
returns-in-Ok g c = record {
  turns =
      let before = g.F.Folder.moment c.args.folder.now in
      let now = g.F.Folder.moment c.ask.new.folder in
      rw c.after_judging.ensures
      (turns before now c.args.runner.now Before (HasReadHeld c.args.asking) c.requires.1
      c.args.asking.token c.requires.0 (asks c.args.asking.asked) tt _ (λ result stood. refl)
      c.in-Ok.ensures.call
      c.ask.ensures.lawful c.ask.ensures.faults.never_falls
      (Asking c.args.asking) _ refl
      (ask-on c.args.runner.now.asked.request.tool _ c.args.asking
      c.in-Ok.ensures.call.answer c.in-Ok.judged
      c.in-Ok.ensures.call.shown)
      (λ met none. absurd none)
      (judged-stands before now c.args.runner.now c.in-Ok.judged
      (asks-token _ _ _ c.in-Ok.ensures.call.shown ∙ c.requires.0)
      (goes-on before now c.args.runner.now Before (HasReadHeld c.args.asking) c.requires.1
      c.args.asking.token c.requires.0 (asks c.args.asking.asked) tt _ (λ result stood. refl)
      c.in-Ok.ensures.call (HasJudged c.in-Ok.judged) c.in-Ok.ensures.next))
      (judged-quiet c.args.runner.now.asked.request c.in-Ok.judged) tt
      (ask-less c.args.runner.now.asked.request c.args.asking c.in-Ok.judged));
  counts =
      rw c.after_judging.ensures
      (ask-calls c.args.runner.now.asked.request c.args.asking c.in-Ok.judged);
}

pub returns-in-Err : goal.returns-in-Err
returns-in-Err g c = record {
  turns =
      let before = g.F.Folder.moment c.args.folder.now in
      let now = g.F.Folder.moment c.ask.new.folder in
      lock-ends before now c.args.runner.now (HasReadHeld c.args.asking) c.requires.1
      c.args.asking.token c.requires.0 (Asking c.args.asking) tt (λ result stood. refl) _ _
      c.in-Err.end c.in-Err.ensures c.stopped.result c.stopped.ensures
      (ask-ends c.args.runner.now.asked.request.tool c.stopped.result c.args.asking _ c.in-Err.end
      c.in-Err.ensures.call.shown c.stopped.ensures)
      (λ met none. absurd none)
      (ask-met c.args.runner.now now.told c.args.asking _ c.in-Err.end c.requires.2
      c.in-Err.ensures.call.shown)
      (ask-unkept c.args.asking _ c.in-Err.end c.in-Err.ensures.call.shown) tt;
  counts =
      answers-near _ _ (Asking c.args.asking) c.stopped.result c.stopped.ensures (omega arith);
}
