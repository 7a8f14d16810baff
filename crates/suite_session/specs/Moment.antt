-- How a session stands at one moment of the folder, by its own events.
use Rattle.std.specs.Prelude.{◌≡◌, Some}
use Rattle.acct_outside.specs.declared.CommitStage.{CommitStage}
use Rattle.acct_outside.specs.Moment.{Moment}
use Rattle.suite_rules.specs.Standing.{Standing}
use Rattle.suite_rules.specs.Steps.{StandsIn}
use Rattle.suite_session.specs.Runner.{Runner}

-- this holds of the session's standing, which was asked the runner's command, and is so far with its
-- own commit
pub record Runs (runner : Runner) (commit : CommitStage) (Holds : Standing → Type 0)
    (standing : Standing) : Type 0 where
  pub holds : Holds standing
  pub asked : standing.command ≡ Some runner.asked.command
  pub commits : standing.commit ≡ commit

-- the runner stands so at the moment, where the folder tells its history
abbrev pub At : Moment → Runner → CommitStage → (Standing → Type 0) → Type 0
At now runner commit Holds =
    StandsIn now runner.token (Runs runner commit Holds)
