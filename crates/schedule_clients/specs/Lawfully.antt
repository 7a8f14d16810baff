-- What holds of sessions side by side in a folder whose history is lawful.
use Rattle.std.specs.Prelude.{◌≡◌, ◌⊎◌, ℕ, ◌<◌, ◌++◌, All, length, get_or}
use Rattle.acct_text.specs.declared.Tab.{Tab}
use Rattle.memory_folder.specs.declared.Effect.{Effect as CallEffect}
use Rattle.acct_outside.specs.History.{History, after}
use Rattle.acct_outside.specs.Moment.{Past}
use Rattle.suite_rules.specs.Deeds.{SuiteDeeds}
use Rattle.suite_rules.specs.Lawful.{Lawful}
use Rattle.suite_rules.specs.Settled.{settled}
use Rattle.suite_rules.specs.Committed.{committed, folded}
use Rattle.suite_session.specs.declared.session.Phase.{Phase}
use Rattle.suite_session.specs.declared.session.Phase.TheVariants.{Begun}
use Rattle.suite_session.specs.declared.state.State.{State}
use Rattle.suite_session.specs.Belongs.{Belongs}
use Rattle.suite_session.specs.Deeds.{AreOfTools}
use Rattle.suite_session.specs.Dying.{DiedIn}
use Rattle.suite_session.specs.NextCall.{state_call}
use Rattle.suite_session.specs.Runner.{Runner}
use Rattle.suite_course.specs.Turned.{KeepsPromises}
use Rattle.side_by_side.specs.Scenes.{Scene, Telling, moment_in}

-- the history keeps the rules, for these deeds
abbrev pub IsLawfulFor : SuiteDeeds → Past → Type 0
IsLawfulFor deeds past = Lawful deeds past.first past.history

-- The history is lawful, the settled files are the first ones as the committed commands changed them in
-- the order of their locks, and each session that belongs to the folder has what the top call promises.
pub record IsScheduleKept (deeds : SuiteDeeds) (here : Scene) : Type 0 where
  pub lawful : IsLawfulFor deeds here.told.past
  pub settles : (table : Tab) → settled (after here.told.past.first here.told.past.history) table
      ≡ folded deeds here.told.past.first (committed here.told.past.history) table
  pub promised : All (λ session. Belongs (moment_in here.told) session →
      KeepsPromises deeds here.told.past session) here.sessions

-- so it is, for the deeds of the tools, where the history was lawful before
abbrev pub HoldsLawfully : Scene → Scene → Type 0
HoldsLawfully before now = (deeds : SuiteDeeds) → AreOfTools deeds →
    IsLawfulFor deeds before.told.past → IsScheduleKept deeds now

-- The session had begun, and died within its next call after an earlier moment of the folder. The history
-- of that moment is lawful, and the session had there what the top call promises: where its answer was to
-- give, all that it promises of one that gave it.
pub record DiedPromising (deeds : SuiteDeeds) (told : Telling) (session : Phase) : Type 0 where
  pub runner : Runner
  pub state : State
  pub is : session ≡ Begun runner state
  pub past : Past
  pub lawful : IsLawfulFor deeds past
  pub promised : KeepsPromises deeds past session
  pub effect : CallEffect
  pub dead : Past
  pub died : DiedIn past dead runner.token (state_call state) effect
  pub first : told.past.first ≡ dead.first
  pub later : History
  pub since : told.past.history ≡ later ++ dead.history

-- the session belongs to the folder, or died so
abbrev pub BelongsOrDied : SuiteDeeds → Telling → Phase → Type 0
BelongsOrDied deeds told session =
    Belongs (moment_in told) session ⊎ DiedPromising deeds told session

-- there are as many sessions, and each that belonged to the folder or had died so does or has still
pub record EachBelongsOrDied (deeds : SuiteDeeds) (before now : Scene) : Type 0 where
  pub as_many : length now.sessions ≡ length before.sessions
  pub each : (place : ℕ) (d : Phase) → place < length before.sessions →
      BelongsOrDied deeds before.told (get_or before.sessions place d) →
      BelongsOrDied deeds now.told (get_or now.sessions place d)

-- so it is, for the deeds of the tools, where the history was lawful before
abbrev pub DiesPromising : Scene → Scene → Type 0
DiesPromising before now = (deeds : SuiteDeeds) → AreOfTools deeds →
    IsLawfulFor deeds before.told.past → EachBelongsOrDied deeds before now
