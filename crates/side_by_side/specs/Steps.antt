-- What the steps of a schedule do, one after another.
use Rattle.std.specs.Prelude.{◌≡◌, List, [], ◌∷◌, ◌++◌, Option, None, Some, MatchBool, slice_get, slice_set}
use Rattle.memory_folder.specs.declared.Effect.{Effect}
use Rattle.memory_folder.specs.declared.memory.MemoryFolder.{MemoryFolder}
use Rattle.suite_session.specs.declared.session.Phase.{Phase}
use Rattle.suite_session.specs.Belongs.{Belongs}
use Rattle.suite_session.specs.Dying.{SessionDies}
use Rattle.suite_session.specs.Stands.{StaysOurs}
use Rattle.suite_session.specs.Turning.{KeepsOthers, SessionTurns}
use Rattle.side_by_side.specs.declared.step.Step.{Step}
use Rattle.side_by_side.specs.declared.step.Step.TheVariants.{Turn, Die}
use Rattle.side_by_side.specs.Places.{place_of}
use Rattle.side_by_side.specs.Scenes.{Scene, Telling, has_ended, moment_in, scene}

-- nothing is done: the folder tells what it told, and the session is as it was
pub record StaysAside (before now : Telling) (old new : Phase) : Type 0 where
  pub told : now ≡ before
  pub session : new ≡ old

-- the session makes its one call, and belongs to the folder still, as does each other that did
pub record MakesTurn (before now : Telling) (old new : Phase) : Type 0 where
  pub turns : SessionTurns (moment_in before) (moment_in now) old new
  pub belongs : Belongs (moment_in now) new
  pub others : KeepsOthers (moment_in before) (moment_in now) old new

-- the session dies within its next call, by a lawful event; each other that belonged to the folder
-- does so still
pub record Dies (before now : Telling) (effect : Effect) (old new : Phase) : Type 0 where
  pub dies : SessionDies before.past now.past effect old new
  pub lawful : StaysOurs (moment_in before) (moment_in now)
  pub others : KeepsOthers (moment_in before) (moment_in now) old new
  pub faults : now.faults ≡ before.faults
  pub journal : now.journal ≡ before.journal

-- a session that goes takes the step
abbrev pub Goes : Step → Telling → Telling → Phase → Phase → Type 0
Goes (Turn place) before now old new = MakesTurn before now old new
Goes (Die place effect) before now old new = Dies before now effect old new

-- a session that has ended stays aside
abbrev pub Acts : Step → Telling → Telling → Phase → Phase → Type 0
Acts step before now old new = MatchBool (has_ended before old)
    (StaysAside before now old new) (Goes step before now old new)

-- the session at the step's place acts, and the others stay as they are
pub record ActsAmong (step : Step) (before now : Scene) (old : Phase) : Type 0 where
  pub new : Phase
  pub acts : Acts step before.told now.told old new
  pub sessions : now.sessions ≡ slice_set before.sessions (place_of step) new

-- what the step does with the session that is found at its place; where none is, nothing is done
abbrev pub TakesAt : Step → Scene → Scene → Option Phase → Type 0
TakesAt step before now None = now ≡ before
TakesAt step before now (Some old) = ActsAmong step before now old

-- the step is taken
abbrev pub MovesBy : Step → Scene → Scene → Type 0
MovesBy step before now = TakesAt step before now (slice_get before.sessions (place_of step))

-- the steps are taken, one after another; in between are scenes of a folder in memory
abbrev pub TakesSteps : List Step → Scene → Scene → Type 0
TakesSteps [] before now = now ≡ before
TakesSteps (step ∷ steps) before now =
    (folder : MemoryFolder) × (sessions : List Phase)
    × MovesBy step before (scene folder sessions)
    × TakesSteps steps (scene folder sessions) now

-- a front of the steps is taken
pub record TakesFront (steps : List Step) (before now : Scene) : Type 0 where
  pub done : List Step
  pub left : List Step
  pub split : steps ≡ done ++ left
  pub taken : TakesSteps done before now
