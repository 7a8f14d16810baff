use Rattle.std.proofs.Common.{refl, ap, ◌∙◌, Err, arith, rules}
use Rattle.acct_outside.specs.declared.Name.TheVariants.{FreeStage, Lock}
use Rattle.acct_outside.specs.Calls.{renames}
use Rattle.lock_steps.specs.Stands.{HasStagedFree}
use Rattle.suite_session.proofs.TurnLemmas.{may-step, faults}
use Rattle.suite_session.proofs.UnlockingTurns.{frees, out-follows}
use Rattle.suite_session.proofs.MeetingLemmas.{locks-ended}
use Rattle.suite_answers.specs.Reasons.{stage_of}
use Rattle.suite_session.specs.declared.state.State.TheVariants.{Freeing}
use Rattle.suite_session.proofs.CallsLemmas.{answers-fewer, other-fewer}
use Rattle.suite_session.proofs.unlocking.free.Goals as goal

pub move_free-requires : goal.move_free-requires
move_free-requires g c =
    let before = g.F.Folder.moment c.args.folder.now in
    may-step before c.args.runner.now _ (HasStagedFree c.args.freeing) c.args.freeing.token
    c.requires.same c.requires.stands

pub returns-in-Ok : goal.returns-in-Ok
returns-in-Ok g c = record {
  turns =
      let before = g.F.Folder.moment c.args.folder.now in
      let now = g.F.Folder.moment c.move_free.new.folder in
      frees before now c.args.runner.now c.args.answer c.args.freeing c.requires
      _ c.in-Ok.ensures;
  counts = other-fewer _ _ refl (omega arith) (omega arith) tt;
}

pub returns-in-Err : goal.returns-in-Err
returns-in-Err g c = record {
  turns =
      let before = g.F.Folder.moment c.args.folder.now in
      let now = g.F.Folder.moment c.move_free.new.folder in
      faults before now c.args.runner.now _ (HasStagedFree c.args.freeing) c.requires.stands
      c.args.freeing.token c.requires.same (renames FreeStage (Lock c.args.freeing.number)) tt _
      (λ result stood. refl)
      c.in-Err.ensures.call
      c.move_free.ensures.lawful c.move_free.ensures.faults.never_falls
      (Freeing c.args.freeing c.args.answer) c.replaced.result refl
      (λ met is_told. out-follows c.args.answer.outcome.cause met is_told c.requires.quiet
      (renames FreeStage (Lock c.args.freeing.number)) tt)
      (stage_of c.args.answer.outcome.cause) c.in-Err.fault
      (locks-ended _ _ _ c.in-Err.ensures.call.shown) c.replaced.ensures refl
      (λ failed. c.move_free.ensures.faults.failed (c.in-Err.is ∙ ap Err failed));
  counts =
      answers-fewer _ _ c.replaced.result c.replaced.ensures _ (search (arith, rules)) refl;
}
