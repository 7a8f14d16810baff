use Rattle.std.proofs.Common.{refl, arith, rules}
use Rattle.lock_steps.specs.Stands.{WasOvertaken}
use Rattle.suite_session.proofs.MetLemmas.{withdraw-met}
use Rattle.suite_session.proofs.LeavingLemmas.{withdraw-unkept}
use Rattle.suite_session.proofs.MeetingLemmas.{withdraw-ends, withdraw-told}
use Rattle.suite_session.specs.declared.state.State.TheVariants.{Withdrawing}
use Rattle.suite_session.proofs.CallsLemmas.{answers-fewer}
use Rattle.suite_session.proofs.LockingTurns.{lock-ends}
use Rattle.suite_session.proofs.locking.withdraw.Goals as goal

pub returns : goal.returns
returns g c = record {
  turns =
      let before = g.F.Folder.moment c.args.folder.now in
      let now = g.F.Folder.moment c.withdraw.new.folder in
      lock-ends before now c.args.runner.now (WasOvertaken c.args.loser) c.requires.2
      c.args.loser.token c.requires.0 (Withdrawing c.args.loser) tt (λ result stood. refl) _ _
      c.withdraw.result c.withdraw.ensures c.stopped.result c.stopped.ensures
      (withdraw-ends c.args.runner.now.asked.request.tool c.stopped.result c.args.loser _
      c.withdraw.result c.withdraw.ensures.call.shown c.stopped.ensures)
      (withdraw-told c.args.runner.now.asked.request.tool c.stopped.result c.args.loser _
      c.withdraw.result c.withdraw.ensures.call.shown c.stopped.ensures)
      (withdraw-met c.args.runner.now now.told c.args.loser _ c.withdraw.result c.requires.1
      c.withdraw.ensures.call.shown)
      (withdraw-unkept c.args.loser _ c.withdraw.result c.withdraw.ensures.call.shown) tt;
  counts =
      answers-fewer _ _ c.stopped.result c.stopped.ensures _ (search (arith, rules)) refl;
}
