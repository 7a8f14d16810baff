-- Sessions that share a folder in memory, of which some may have died, at one moment.
use Rattle.std.specs.Prelude.{◌≡◌, ◌≢◌, ◌⊎◌, ℕ, Bool, true, false, not, List, [], All, AllPairs, None, Some}
use Rattle.memory_folder.specs.declared.memory.MemoryFolder.{MemoryFolder}
use Rattle.acct_outside.specs.Tokens.{Token}
use Rattle.acct_outside.specs.Contract.{has_begun}
use Rattle.acct_outside.specs.Life.{ended, is_running, life}
use Rattle.memory_folder.specs.Memory.{faults_of, journal_of, no_others, past_of}
use Rattle.acct_outside.specs.Journal.{Entry}
use Rattle.acct_outside.specs.Moment.{Moment, Past}
use Rattle.suite_session.specs.declared.session.Phase.{Phase}
use Rattle.suite_session.specs.declared.session.Phase.TheVariants.{Begun}
use Rattle.suite_session.specs.Belongs.{AreTwo, Belongs}
use Rattle.suite_session.specs.Session.{token_of}

-- what a folder in memory tells: its history, how often it failed, and what it was asked
pub record Telling : Type 0 where
  pub past : Past
  pub faults : ℕ
  pub journal : List Entry

-- what this folder tells
abbrev pub telling : MemoryFolder → Telling
telling folder =
    record { past = past_of folder; faults = faults_of folder; journal = journal_of folder }

-- the folder's moment: it admits no events of others
abbrev pub moment_in : Telling → Moment
moment_in told = record {
  admits = no_others;
  told = Some told.past;
  faults = told.faults;
  journal = told.journal;
}

-- what the folder tells, and the sessions in their places
pub record Scene : Type 0 where
  pub told : Telling
  pub sessions : List Phase

-- the scene of a folder and sessions
abbrev pub scene : MemoryFolder → List Phase → Scene
scene folder sessions = record { told = telling folder; sessions = sessions }

-- the session has ended: it died, or has answered
abbrev pub has_ended : Telling → Phase → Bool
has_ended told session = elim (token_of session) [
  | None ↦ false
  | Some token ↦ not (is_running token told.past.history)
]

-- the session of the token has begun
pub record HasBegun (past : Past) (token : Token) : Type 0 where
  pub named : token ≢ []
  pub begun : has_begun token past.history ≡ true

-- the session of the token has begun, and its life has ended
pub record IsOver (past : Past) (token : Token) : Type 0 where
  pub named : token ≢ []
  pub ended : life token past.history ≡ ended

-- the session died: it began and hasn't answered, and its life has ended
abbrev pub HasDied : Telling → Phase → Type 0
HasDied told (Begun runner state) = IsOver told.past runner.token
HasDied told session = ⊥

-- the session takes part: it belongs to the folder, or died there
abbrev pub TakesPart : Telling → Phase → Type 0
TakesPart told session = Belongs (moment_in told) session ⊎ HasDied told session

-- each session takes part, and no two have one token
pub record TakePart (here : Scene) : Type 0 where
  pub each : All (TakesPart here.told) here.sessions
  pub apart : AllPairs AreTwo here.sessions
