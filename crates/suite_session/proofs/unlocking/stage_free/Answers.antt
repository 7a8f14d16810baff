use Rattle.std.proofs.Common.{arith, refl, ap, ◌∙◌, Err}
use Rattle.acct_outside.specs.declared.Name.TheVariants.{FreeStage}
use Rattle.acct_outside.specs.Tokens.{free_text}
use Rattle.acct_outside.specs.Calls.{writes}
use Rattle.lock_steps.specs.Stands.{Keeps, KnowsAnything}
use Rattle.lock_steps.proofs.NextLemmas.{unlocks-none}
use Rattle.suite_session.proofs.TurnLemmas.{may-step, faults}
use Rattle.suite_session.proofs.UnlockingTurns.{stages, out-follows}
use Rattle.suite_session.proofs.MeetingLemmas.{locks-ended}
use Rattle.suite_answers.specs.Reasons.{stage_of}
use Rattle.suite_session.specs.declared.state.State.TheVariants.{Unlocking}
use Rattle.suite_session.proofs.TextsLemmas.{freed-text}
use Rattle.suite_session.proofs.CallsLemmas.{answers-fewer, unlocking-more, unlocking-some, other-fewer}
use Rattle.suite_session.proofs.DueTextLemmas.{free-due}
use Rattle.suite_session.proofs.unlocking.stage_free.Goals as goal

pub stage_free-requires-clause-stands : goal.stage_free-requires-clause-stands
stage_free-requires-clause-stands g c =
    let before = g.F.Folder.moment c.args.folder.now in
    may-step before c.args.runner.now _ (Keeps c.args.keeper KnowsAnything) c.args.keeper.token
    c.requires.stands.same c.requires.stands.stands

pub returns-in-Ok : goal.returns-in-Ok
returns-in-Ok g c = record {
  turns =
      let before = g.F.Folder.moment c.args.folder.now in
      let now = g.F.Folder.moment c.stage_free.new.folder in
      stages before now c.args.runner.now c.args.answer c.args.keeper c.requires.stands
      c.in-Ok.freeing (unlocks-none c.args.keeper c.requires.left) c.in-Ok.ensures;
  counts =
      other-fewer _ _ refl (unlocking-more c.args.keeper c.args.answer) (omega arith)
      (freed-text c.args.keeper.lower c.requires.left);
}

pub returns-in-Err : goal.returns-in-Err
returns-in-Err g c = record {
  turns =
      let before = g.F.Folder.moment c.args.folder.now in
      let now = g.F.Folder.moment c.stage_free.new.folder in
      faults before now c.args.runner.now _ (Keeps c.args.keeper KnowsAnything)
      c.requires.stands.stands c.args.keeper.token c.requires.stands.same
      (writes FreeStage free_text) (free-due c.args.runner.now _ c.args.keeper) _
      (λ result stood. refl)
      c.in-Err.ensures.call
      c.stage_free.ensures.lawful c.stage_free.ensures.faults.never_falls
      (Unlocking c.args.keeper c.args.answer) c.replaced.result
      (unlocks-none c.args.keeper c.requires.left)
      (λ met is_told. out-follows c.args.answer.outcome.cause met is_told c.requires.stands.quiet
      (writes FreeStage free_text) tt)
      (stage_of c.args.answer.outcome.cause) c.in-Err.fault
      (locks-ended _ _ _ c.in-Err.ensures.call.shown) c.replaced.ensures refl
      (λ failed. c.stage_free.ensures.faults.failed (c.in-Err.is ∙ ap Err failed));
  counts =
      answers-fewer _ _ c.replaced.result c.replaced.ensures _
      (unlocking-some c.args.keeper c.args.answer) refl;
}
