use Rattle.std.proofs.Common.{◌≡◌, ◌≤◌, refl, ap, ◌∙◌, Ok, Err}
use Rattle.acct_outside.specs.Calls.{reads}
use Rattle.acct_outside.specs.Moment.{Moment}
use Rattle.acct_outside.specs.declared.CommitStage.TheVariants.{Before}
use Rattle.suite_rules.specs.Steps.{AlwaysStaysLawful, MakesCall}
use Rattle.commit_steps.specs.declared.Loading.{Loading as Loaded}
use Rattle.commit_steps.specs.Outcomes.{Loads}
use Rattle.commit_steps.specs.States.{AreSound, Reader, next_name}
use Rattle.commit_steps.specs.Stands.{HasRead, StandsLoading}
use Rattle.suite_session.specs.Loading.{LoadsTo}
use Rattle.suite_session.specs.Moment.{At}
use Rattle.suite_session.specs.Runner.{Runner}
use Rattle.suite_session.specs.Turning.{TakesTurn}
use Rattle.suite_session.specs.declared.state.State.{State}
use Rattle.suite_session.specs.declared.state.State.TheVariants.{Loading}
use Rattle.suite_session.proofs.LooksLemmas.{ends-less, loads-less}
use Rattle.suite_session.proofs.TurnLemmas.{turn-made, turns}
use Rattle.suite_session.proofs.LoadingTurns.{load-on, load-ends, loads-stands, loads-quiet, ended-stands, ended-failed}
use Rattle.suite_session.proofs.CommitCalls.{ended-calls, loads-calls}
use Rattle.suite_session.proofs.loading.load.Goals as goal

-- a read leads on to the state that comes of it
module _ (before now : Moment) (runner : Runner) (loader : Reader)
    (same : loader.keeper.token ≡ runner.token) (stands : At before runner Before (HasRead loader))
    (sound : AreSound loader.next loader.files) (loading : Loaded) (state : State)
    (leads : LoadsTo runner loading state) where
  loaded : MakesCall before now loader.keeper.token (reads (next_name loader.next))
      (λ answer. Loads loader answer (Ok loading)) →
      StandsLoading now loader.keeper.token loading → AlwaysStaysLawful before now →
      before.faults ≤ now.faults → TakesTurn before now runner (Loading loader) state
  loaded made next lawful never_falls = record {
    turns = turns before now runner Before (HasRead loader) stands
        loader.keeper.token same (reads (next_name loader.next)) tt _
        (λ result stood. refl) made lawful never_falls (Loading loader) state refl
        (load-on loader made.answer loading made.shown state)
        (λ met none. absurd none)
        (loads-stands before now runner loader stands same loading state leads made next)
        (loads-quiet runner loading state leads) tt
        (loads-less runner loader loading state leads);
    counts = loads-calls runner loader loading state made.answer sound leads made.shown;
  }

pub returns-in-Ok-More : goal.returns-in-Ok-More
returns-in-Ok-More g c = loaded
    (g.F.Folder.moment c.args.folder.now) (g.F.Folder.moment c.load_next.new.folder)
    c.args.runner.now c.args.loader c.requires.0 c.requires.1 c.is_sound.ensures
    c.in-Ok-More.field-0 (Loading c.in-Ok-More.loader) (rw c.in-Ok-More.field-0-is refl)
    c.in-Ok-More.ensures.step.call c.in-Ok-More.ensures.step.next
    c.load_next.ensures.step.lawful c.load_next.ensures.step.faults.never_falls

pub returns-in-Ok-Done : goal.returns-in-Ok-Done
returns-in-Ok-Done g c = loaded
    (g.F.Folder.moment c.args.folder.now) (g.F.Folder.moment c.load_next.new.folder)
    c.args.runner.now c.args.loader c.requires.0 c.requires.1 c.is_sound.ensures
    c.in-Ok-Done.field-0 c.decided.result (rw c.in-Ok-Done.field-0-is c.decided.ensures)
    c.in-Ok-Done.ensures.step.call c.in-Ok-Done.ensures.step.next
    c.load_next.ensures.step.lawful c.load_next.ensures.step.faults.never_falls

pub returns-in-Err : goal.returns-in-Err
returns-in-Err g c = record {
  turns =
      let before = g.F.Folder.moment c.args.folder.now in
      let now = g.F.Folder.moment c.load_next.new.folder in
      let end = c.in-Err.end in
      let tool = c.args.runner.now.asked.request.tool in
      turn-made before now c.args.runner.now Before (HasRead c.args.loader)
      c.requires.1 c.args.loader.keeper.token c.requires.0 (reads (next_name c.args.loader.next)) tt
      _
      (λ result stood. refl) c.in-Err.ensures.step.call
      c.load_next.ensures.step.lawful c.load_next.ensures.step.faults.never_falls
      (Loading c.args.loader)
      c.ended.result refl
      (load-ends tool c.args.loader c.in-Err.ensures.step.call.answer end c.ended.result
      c.in-Err.ensures.step.call.shown c.ended.ensures)
      (λ met none. absurd none)
      (ended-stands before now c.args.runner.now c.args.loader c.requires.1 c.requires.0 end
      c.ended.result c.is_sound.ensures c.ended.ensures c.in-Err.ensures.step.call
      c.in-Err.ensures.refused)
      (λ told. c.load_next.ensures.step.faults.failed (c.in-Err.is ∙ ap Err
      (ended-failed _ end c.ended.result c.ended.ensures c.args.loader
      c.in-Err.ensures.step.call.answer c.in-Err.ensures.step.call.shown told))) tt
      (ends-less tool end (Loading c.args.loader) c.ended.result c.ended.ensures);
  counts =
      ended-calls _ c.args.loader c.in-Err.ensures.step.call.answer c.in-Err.end c.ended.result
      c.ended.ensures c.in-Err.ensures.step.call.shown;
}
