use Rattle.std.proofs.Common.{refl}
use Rattle.acct_outside.specs.Calls.{lists}
use Rattle.lock_steps.specs.Stands.{HasMade}
use Rattle.suite_session.proofs.MetLemmas.{confirm-met}
use Rattle.suite_session.proofs.LooksLemmas.{confirm-less}
use Rattle.suite_session.proofs.TurnLemmas.{got, turns}
use Rattle.suite_session.proofs.LeavingLemmas.{confirm-unkept}
use Rattle.suite_session.proofs.LockingTurns.{lock-ends, confirm-stands, confirm-quiet}
use Rattle.suite_session.proofs.MeetingLemmas.{confirm-on, confirm-ends}
use Rattle.acct_outside.specs.declared.CommitStage.TheVariants.{Before}
use Rattle.suite_session.specs.declared.state.State.TheVariants.{Confirming}
use Rattle.suite_session.proofs.CallsLemmas.{answers-listed}
use Rattle.suite_session.proofs.LockCalls.{listing-calls}
use Rattle.suite_session.proofs.locking.confirm.Goals as goal

pub returns-in-Ok : goal.returns-in-Ok
returns-in-Ok g c = record {
  turns =
      let before = g.F.Folder.moment c.args.folder.now in
      let now = g.F.Folder.moment c.confirm.new.folder in
      rw c.after_listing.ensures.next
      (turns before now c.args.runner.now Before (HasMade c.args.claimed) c.requires.1
      c.args.claimed.token c.requires.0 (lists) tt _ (λ result stood. refl)
      c.in-Ok.ensures.call
      c.confirm.ensures.lawful c.confirm.ensures.faults.never_falls
      (Confirming c.args.claimed) _ refl
      (confirm-on c.args.claimed c.in-Ok.ensures.call.answer c.in-Ok.confirmed
      c.in-Ok.ensures.call.shown)
      (λ met none. absurd none)
      (confirm-stands before now c.args.runner.now c.args.claimed c.requires.1 c.requires.0
      c.in-Ok.confirmed c.in-Ok.ensures.call c.in-Ok.ensures.next)
      (confirm-quiet c.in-Ok.confirmed) tt (confirm-less c.args.claimed c.in-Ok.confirmed));
  counts =
      let before = g.F.Folder.moment c.args.folder.now in
      let now = g.F.Folder.moment c.confirm.new.folder in
      rw c.after_listing.ensures.next
      (listing-calls now.told now.journal c.args.runner.now c.args.claimed
      c.in-Ok.ensures.call.answer
      c.in-Ok.confirmed c.in-Ok.ensures.call.shown
      (got before now c.args.runner.now Before (HasMade c.args.claimed) c.requires.1
      c.args.claimed.token c.requires.0 (lists) tt _ (λ result stood. refl)
      c.in-Ok.ensures.call) (before.journal) c.in-Ok.ensures.call.noted
      c.after_listing.ensures.few);
}

pub returns-in-Err : goal.returns-in-Err
returns-in-Err g c = record {
  turns =
      let before = g.F.Folder.moment c.args.folder.now in
      let now = g.F.Folder.moment c.confirm.new.folder in
      lock-ends before now c.args.runner.now (HasMade c.args.claimed) c.requires.1
      c.args.claimed.token c.requires.0 (Confirming c.args.claimed) tt (λ result stood. refl) _ _
      c.in-Err.end c.in-Err.ensures c.stopped.result c.stopped.ensures
      (confirm-ends c.args.runner.now.asked.request.tool c.stopped.result c.args.claimed _
      c.in-Err.end c.in-Err.ensures.call.shown c.stopped.ensures)
      (λ met none. absurd none)
      (confirm-met c.args.runner.now now.told c.args.claimed _ c.in-Err.end
      c.in-Err.ensures.call.shown)
      (confirm-unkept c.args.claimed _ c.in-Err.end c.in-Err.ensures.call.shown) tt;
  counts =
      answers-listed (g.F.Folder.moment c.confirm.new.folder).told
      (g.F.Folder.moment c.confirm.new.folder).journal c.args.runner.now c.args.claimed
      _ _
      c.stopped.result c.stopped.ensures;
}
