-- What others see of sessions that take steps: which events come, and of whom none does.
use Rattle.std.specs.Prelude.{◌≡◌, ◌≢◌, ◌≤◌, ◌∷◌, All, Some}
use Rattle.acct_outside.specs.Tokens.{Token}
use Rattle.acct_outside.specs.Folder.{Folder}
use Rattle.acct_outside.specs.History.{Event, History}
use Rattle.acct_outside.specs.Others.{Admission, ByOthers}
use Rattle.suite_rules.specs.Deeds.{SuiteDeeds}
use Rattle.suite_rules.specs.Lawful.{Lawful}
use Rattle.suite_session.specs.Deeds.{AreOfTools}
use Rattle.suite_session.specs.Session.{token_of}
use Rattle.side_by_side.specs.Scenes.{HasBegun, Scene}

-- after a lawful history the event is lawful, for the deeds of the tools
abbrev pub KeepsLawful : Folder → History → Event → Type 0
KeepsLawful first history event = (deeds : SuiteDeeds) → AreOfTools deeds →
    Lawful deeds first history → Lawful deeds first (event ∷ history)

-- the session has begun, and is none of those in the scene
pub record IsOutsider (here : Scene) (token : Token) : Type 0 where
  pub begun : HasBegun here.told.past token
  pub stranger : All (λ session. token_of session ≢ Some token) here.sessions

-- the lawful events of sessions other than outsiders
abbrev pub by_sessions : Scene → Admission
by_sessions here history event = KeepsLawful here.told.past.first history event
    × (IsOutsider here event.token → ⊥)

-- The history is longer by such events. An outsider stays one, and the count of faults doesn't fall.
pub record Advances (before now : Scene) : Type 0 where
  pub first : now.told.past.first ≡ before.told.past.first
  pub came : ByOthers (by_sessions before) before.told.past.history now.told.past.history
  pub outsiders : (token : Token) → IsOutsider before token → IsOutsider now token
  pub never_falls : before.told.faults ≤ now.told.faults
