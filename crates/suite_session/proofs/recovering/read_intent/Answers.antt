use Rattle.std.proofs.Common.{refl, ap, ◌∙◌, Err}
use Rattle.acct_outside.specs.declared.Name.TheVariants.{Intent}
use Rattle.acct_outside.specs.Calls.{reads}
use Rattle.acct_outside.specs.declared.CommitStage.TheVariants.{Before}
use Rattle.lock_steps.specs.Stands.{Keeps, KnowsAnything}
use Rattle.suite_session.proofs.LooksLemmas.{intent-less, refused-less}
use Rattle.suite_session.proofs.TurnLemmas.{may-step, turn-made, turns}
use Rattle.suite_session.proofs.RecoveringTurns.{seen-stands, seen-quiet, refused-stands, refused-failed}
use Rattle.suite_session.proofs.IntentMeeting.{intent-on, intent-ends}
use Rattle.suite_session.specs.declared.state.State.TheVariants.{ReadingIntent}
use Rattle.suite_session.proofs.CallsLemmas.{intent-calls, refused-calls}
use Rattle.suite_session.proofs.recovering.read_intent.Goals as goal

pub read_intent-requires : goal.read_intent-requires
read_intent-requires g c =
    let before = g.F.Folder.moment c.args.folder.now in
    may-step before c.args.runner.now Before (Keeps c.args.keeper KnowsAnything)
    c.args.keeper.token c.requires.0
    c.requires.1

pub returns-in-Ok : goal.returns-in-Ok
returns-in-Ok g c = record {
  turns =
      let before = g.F.Folder.moment c.args.folder.now in
      let now = g.F.Folder.moment c.read_intent.new.folder in
      rw c.after_intent.ensures
      (turns before now c.args.runner.now Before (Keeps c.args.keeper KnowsAnything)
      c.requires.1
      c.args.keeper.token c.requires.0 (reads Intent) tt _ (λ result stood. refl)
      c.in-Ok.ensures.step.call
      c.read_intent.ensures.step.lawful c.read_intent.ensures.step.faults.never_falls
      (ReadingIntent c.args.keeper) _ refl
      (intent-on c.args.runner.now.asked.request.tool _ c.args.keeper
      c.in-Ok.ensures.step.call.answer
      c.in-Ok.seen c.in-Ok.ensures.step.call.shown)
      (λ met none. absurd none)
      (seen-stands before now c.args.runner.now c.args.keeper c.requires.1 c.requires.0 c.in-Ok.seen
      c.in-Ok.ensures.step.call c.in-Ok.ensures.step.next) (seen-quiet c.in-Ok.seen) tt
      (intent-less c.args.keeper c.in-Ok.seen));
  counts =
      rw c.after_intent.ensures (intent-calls c.args.keeper c.in-Ok.ensures.step.call.answer
      c.in-Ok.seen
      c.in-Ok.ensures.step.call.shown);
}

pub returns-in-Err : goal.returns-in-Err
returns-in-Err g c = record {
  turns =
      let before = g.F.Folder.moment c.args.folder.now in
      let now = g.F.Folder.moment c.read_intent.new.folder in
      let end = c.in-Err.end in
      turn-made before now c.args.runner.now Before (Keeps c.args.keeper KnowsAnything)
      c.requires.1 c.args.keeper.token c.requires.0 (reads Intent) tt _ (λ result stood. refl)
      c.in-Err.ensures.step.call
      c.read_intent.ensures.step.lawful c.read_intent.ensures.step.faults.never_falls
      (ReadingIntent c.args.keeper) c.refused.result refl
      (intent-ends c.args.runner.now.asked.request.tool c.refused.result c.args.keeper
      c.in-Err.ensures.step.call.answer end c.in-Err.ensures.step.call.shown c.refused.ensures)
      (λ met none. absurd none)
      (refused-stands before now c.args.runner.now c.args.keeper c.requires.1 c.requires.0 end
      c.refused.result c.refused.ensures c.in-Err.ensures.step.call c.in-Err.ensures.refused)
      (λ told. c.read_intent.ensures.step.faults.failed (c.in-Err.is ∙ ap Err
      (refused-failed _ end c.refused.result c.refused.ensures c.args.keeper _
      c.in-Err.ensures.step.call.shown told))) tt
      (refused-less c.args.runner.now.asked.request.tool end (ReadingIntent c.args.keeper)
      c.refused.result c.refused.ensures);
  counts =
      refused-calls _ c.args.keeper c.in-Err.ensures.step.call.answer c.in-Err.end c.refused.result
      c.refused.ensures c.in-Err.ensures.step.call.shown;
}
