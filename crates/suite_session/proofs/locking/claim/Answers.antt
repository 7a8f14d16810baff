use Rattle.std.proofs.Common.{refl, ◌∙◌, ◌+◌, arith}
use Rattle.suite_session.specs.declared.state.State.TheVariants.{Claiming, Confirming}
use Rattle.acct_outside.specs.Calls.{creates}
use Rattle.lock_steps.specs.Stands.{HasMade, HasJudged}
use Rattle.suite_session.proofs.MetLemmas.{claim-met}
use Rattle.suite_session.proofs.LooksLemmas.{few-less}
use Rattle.suite_session.proofs.TurnLemmas.{goes-on, turns}
use Rattle.suite_session.proofs.LeavingLemmas.{claim-unkept}
use Rattle.suite_session.proofs.LockingLemmas.{claims-token}
use Rattle.suite_session.proofs.MeetingLemmas.{claim-on, claim-ends}
use Rattle.acct_outside.specs.declared.CommitStage.TheVariants.{Before}
use Rattle.suite_session.proofs.CallsLemmas.{answers-near}
use Rattle.suite_session.proofs.LockCalls.{claim-calls}
use Rattle.suite_session.proofs.LockingTurns.{lock-ends}
use Rattle.suite_session.proofs.locking.claim.Goals as goal

pub returns-in-Ok : goal.returns-in-Ok
returns-in-Ok g c = record {
  turns =
      let before = g.F.Folder.moment c.args.folder.now in
      let now = g.F.Folder.moment c.claim.new.folder in
      turns before now c.args.runner.now Before (HasJudged c.args.judged) c.requires.1
      c.args.judged.token c.requires.0 (creates (c.args.judged.greatest + 1)) tt _
      (λ result stood. refl)
      c.in-Ok.ensures.call
      c.claim.ensures.lawful c.claim.ensures.faults.never_falls
      (Claiming c.args.judged) (Confirming c.in-Ok.claimed) refl
      (claim-on c.args.runner.now.asked.request.tool (Confirming c.in-Ok.claimed) c.args.judged
      c.in-Ok.ensures.call.answer c.in-Ok.claimed
      c.in-Ok.ensures.call.shown)
      (λ met none. absurd none) (
        claims-token _ _ _ c.in-Ok.ensures.call.shown ∙ c.requires.0,
        goes-on before now c.args.runner.now Before (HasJudged c.args.judged) c.requires.1
            c.args.judged.token c.requires.0 (creates (c.args.judged.greatest + 1)) tt _
            (λ result stood. refl)
            c.in-Ok.ensures.call
            (HasMade c.in-Ok.claimed) c.in-Ok.ensures.next,
      )
      (λ fault. fault) tt
      (few-less (Claiming c.args.judged) (Confirming c.in-Ok.claimed) tt refl);
  counts = claim-calls c.args.judged c.in-Ok.claimed;
}

pub returns-in-Err : goal.returns-in-Err
returns-in-Err g c = record {
  turns =
      let before = g.F.Folder.moment c.args.folder.now in
      let now = g.F.Folder.moment c.claim.new.folder in
      lock-ends before now c.args.runner.now (HasJudged c.args.judged) c.requires.1
      c.args.judged.token c.requires.0 (Claiming c.args.judged) tt (λ result stood. refl) _ _
      c.in-Err.end c.in-Err.ensures c.stopped.result c.stopped.ensures
      (claim-ends c.args.runner.now.asked.request.tool c.stopped.result c.args.judged _ c.in-Err.end
      c.in-Err.ensures.call.shown c.stopped.ensures)
      (λ met none. absurd none)
      (claim-met c.args.runner.now now.told c.args.judged _ c.in-Err.end
      c.in-Err.ensures.call.shown)
      (claim-unkept c.args.judged _ c.in-Err.end c.in-Err.ensures.call.shown) tt;
  counts =
      answers-near _ _ (Claiming c.args.judged) c.stopped.result c.stopped.ensures (omega arith);
}
