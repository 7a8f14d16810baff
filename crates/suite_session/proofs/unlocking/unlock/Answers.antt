use Rattle.std.proofs.Common.{refl, ap, ◌∙◌, Err, slice_index}
use Rattle.acct_outside.specs.declared.Name.TheVariants.{Lock}
use Rattle.acct_outside.specs.Calls.{removes}
use Rattle.lock_steps.specs.Outcomes.{cleaned_once}
use Rattle.lock_steps.specs.Stands.{Keeps, KnowsAnything}
use Rattle.lock_steps.proofs.NextLemmas.{unlocks-some}
use Rattle.suite_session.proofs.TurnLemmas.{may-step, faults}
use Rattle.suite_session.proofs.UnlockingTurns.{lowers, out-follows}
use Rattle.suite_session.proofs.LeadsLemmas.{leads-on}
use Rattle.suite_session.proofs.MeetingLemmas.{locks-ended}
use Rattle.suite_answers.specs.Reasons.{stage_of}
use Rattle.suite_session.specs.declared.state.State.TheVariants.{Unlocking}
use Rattle.suite_session.proofs.CallsLemmas.{answers-fewer, cleaned-calls, unlocking-some, some-left}
use Rattle.suite_session.proofs.unlocking.unlock.Goals as goal

pub clean_next-requires-clause-stands : goal.clean_next-requires-clause-stands
clean_next-requires-clause-stands g c =
    let before = g.F.Folder.moment c.args.folder.now in
    may-step before c.args.runner.now _ (Keeps c.args.keeper KnowsAnything) c.args.keeper.token
    c.requires.same c.requires.stands

pub returns-in-Ok : goal.returns-in-Ok
returns-in-Ok g c = record {
  turns =
      let before = g.F.Folder.moment c.args.folder.now in
      let now = g.F.Folder.moment c.clean_next.new.folder in
      lowers before now c.args.runner.now c.args.answer c.args.keeper c.requires
      _ c.in-Ok.keeper
      (unlocks-some c.args.keeper (some-left _ _ c.lower.ensures c.if-lower-eq0.false))
      c.in-Ok.ensures;
  counts =
      cleaned-calls c.args.keeper c.in-Ok.keeper c.args.answer
      (leads-on (cleaned_once c.args.keeper) _ c.in-Ok.ensures.call.answer c.in-Ok.keeper
      c.in-Ok.ensures.call.shown) (some-left _ _ c.lower.ensures c.if-lower-eq0.false);
}

pub returns-in-Err : goal.returns-in-Err
returns-in-Err g c = record {
  turns =
      let before = g.F.Folder.moment c.args.folder.now in
      let now = g.F.Folder.moment c.clean_next.new.folder in
      faults before now c.args.runner.now _ (Keeps c.args.keeper KnowsAnything) c.requires.stands
      c.args.keeper.token c.requires.same (removes (Lock (slice_index c.args.keeper.lower 0))) tt _
      (λ result stood. refl)
      c.in-Err.ensures.call
      c.clean_next.ensures.lawful c.clean_next.ensures.faults.never_falls
      (Unlocking c.args.keeper c.args.answer) c.replaced.result
      (unlocks-some c.args.keeper (some-left _ _ c.lower.ensures c.if-lower-eq0.false))
      (λ met is_told. out-follows c.args.answer.outcome.cause met is_told c.requires.quiet
      (removes (Lock (slice_index c.args.keeper.lower 0))) tt)
      (stage_of c.args.answer.outcome.cause) c.in-Err.fault
      (locks-ended _ _ _ c.in-Err.ensures.call.shown) c.replaced.ensures refl
      (λ failed. c.clean_next.ensures.faults.failed (c.in-Err.is ∙ ap Err failed));
  counts =
      answers-fewer _ _ c.replaced.result c.replaced.ensures _
      (unlocking-some c.args.keeper c.args.answer) refl;
}
