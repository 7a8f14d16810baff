-- One step of a session: what it knows of its own standing, and what its one call of the folder
-- does to the history (docs/ARCHITECTURE.md, "Typed steps"). It knows nothing of what stands in the
-- folder, so its next call may come after any lawful events of others.
use Rattle.std.specs.Prelude.{◌≡◌, ◌∷◌, Option, Some, IfSome, Result, IfOk}
use Rattle.acct_outside.specs.declared.FolderFault.{FolderFault}
use Rattle.acct_outside.specs.Tokens.{Token}
use Rattle.acct_outside.specs.Folder.{Folder}
use Rattle.acct_outside.specs.Calls.{Command, Call, Answer}
use Rattle.acct_outside.specs.History.{Event, History}
use Rattle.acct_outside.specs.Life.{life, running}
use Rattle.acct_outside.specs.Others.{Admission}
use Rattle.acct_outside.specs.Faults.{CountsFailure}
use Rattle.acct_outside.specs.Moment.{Past, Moment, Narrows}
use Rattle.acct_outside.specs.Contract.{NeverAdmits, MayAnswer, NotesCall, WhereTold, Tells}
use Rattle.acct_outside.specs.declared.CommitStage.{CommitStage}
use Rattle.suite_rules.specs.Deeds.{SuiteDeeds}
use Rattle.suite_rules.specs.Knowledge.{Knowledge}
use Rattle.suite_rules.specs.Standing.{Standing, no_standing, standing}
use Rattle.suite_rules.specs.Lawful.{Lawful}

-- the session runs and none of its calls failed, the folder admits no event of it, and this holds
-- of its standing
pub record Stands (admits : Admission) (token : Token) (Holds : Standing → Type 0) (past : Past)
    : Type 0 where
  pub runs : life token past.history ≡ running
  pub own : NeverAdmits admits token
  pub holds : Holds (standing token past.history)

-- the same where the folder tells its history: the condition of a typed step
abbrev pub StandsIn : Moment → Token → (Standing → Type 0) → Type 0
StandsIn now token Holds = IfSome now.told (Stands now.admits token Holds)

-- the standing of a session whose begin is its only event
abbrev pub begun_with : Command → Standing
begun_with command = record no_standing { command = Some command }

-- every event that the folder admits after a lawful history keeps it lawful
abbrev pub LawfulOthers : SuiteDeeds → Admission → Folder → Type 0
LawfulOthers deeds admits first = (history : History) (event : Event) → Lawful deeds first history →
    admits history event → Lawful deeds first (event ∷ history)

-- a lawful history stays lawful, where every event that the folder admits is lawful
abbrev pub StaysLawful : SuiteDeeds → Moment → Moment → Type 0
StaysLawful deeds before now = WhereTold before.told now.told (λ first old new.
    LawfulOthers deeds before.admits first → Lawful deeds first old → Lawful deeds first new)

-- the same for whatever deeds
abbrev pub AlwaysStaysLawful : Moment → Moment → Type 0
AlwaysStaysLawful before now = (deeds : SuiteDeeds) → StaysLawful deeds before now

-- what a session was asked, what it knows of the intent, and how far it is with its commit
pub record Work : Type 0 where
  pub command : Option Command
  pub knows : Knowledge
  pub commit : CommitStage

-- the parts of a standing that a step on the locks leaves to a keeper
abbrev pub work : Standing → Work
work standing =
    record { command = standing.command; knows = standing.knows; commit = standing.commit }

-- what the session was asked
abbrev pub asked : Standing → Option Command
asked standing = standing.command

-- what the session itself was asked, and how far it is with its commit of that
pub record OwnCommand : Type 0 where
  pub command : Option Command
  pub commit : CommitStage

-- the part of a standing that a keeper's steps before its own commit leave
abbrev pub own_command : Standing → OwnCommand
own_command standing = record { command = standing.command; commit = standing.commit }

-- a part of the session's standing is as it was
abbrev pub Leaves : {A : Type 0} → (Standing → A) → Token → Moment → Moment → Type 0
Leaves part token before now = WhereTold before.told now.told (λ first old new.
    part (standing token new) ≡ part (standing token old))

-- The session makes this one call: events come that the folder admits, and then the call's own,
-- with an answer that shows in what the step gives. The call is noted, whatever it came to. The folder
-- admits no more than before, and the session may answer now, whatever the call answered.
pub record MakesCall (before now : Moment) (token : Token) (call : Call)
    (Shows : Result (Answer call) FolderFault → Type 0) : Type 0 where
  pub answer : Result (Answer call) FolderFault
  pub told : Tells before now token call answer
  pub noted : NotesCall before now call answer
  pub shown : Shows answer
  pub narrows : Narrows before.admits now.admits
  pub may_answer : MayAnswer now token

-- One step of a session: it made its call so, stands so where the step leads on, and left a part of
-- its standing as it was; a lawful history stays lawful, and a failure of the folder is told only
-- where its count rose.
pub record StepsOn {State Fault Part : Type 0} (before now : Moment) (token : Token) (Made : Type 0)
    (Holds : State → Standing → Type 0) (part : Standing → Part) (failure : Fault)
    (result : Result State Fault) : Type 0 where
  pub call : Made
  pub next : IfOk result (λ state. StandsIn now token (Holds state))
  pub left : Leaves part token before now
  pub lawful : AlwaysStaysLawful before now
  pub faults : CountsFailure failure before.faults now.faults result

-- a step with this call, whose answer shows in the result
abbrev pub TakesStep : {State Fault Part : Type 0} → Moment → Moment → Token → (call : Call)
    → (Result (Answer call) FolderFault → Type 0) → (State → Standing → Type 0)
    → (Standing → Part) → Fault → Result State Fault → Type 0
TakesStep before now token call Shows Holds part failure result =
    StepsOn before now token (MakesCall before now token call Shows) Holds part failure result

-- a step with the call for what is next, where anything is
abbrev pub TakesNext : {A State Fault Part : Type 0} → Moment → Moment → Token → Option A
    → (call_for : A → Call) → ((one : A) → Result (Answer (call_for one)) FolderFault → Type 0)
    → (State → Standing → Type 0) → (Standing → Part) → Fault → Result State Fault → Type 0
TakesNext before now token next call_for Shows Holds part failure result =
    StepsOn before now token
    (IfSome next (λ one. MakesCall before now token (call_for one) (Shows one)))
    Holds part failure result
