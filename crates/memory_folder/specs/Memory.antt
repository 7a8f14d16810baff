-- What a folder in memory tells, counts and was given.
use Rattle.std.specs.Prelude.{◌≡◌, ◌≤◌, ⊤, ℕ, true, List, Option, None, Some, IsSomeAnd, Result, Ok, Err}
use Rattle.acct_outside.specs.declared.FolderFault.{FolderFault}
use Rattle.acct_outside.specs.declared.FolderFault.TheVariants.{Failed, Memory}
use Rattle.memory_folder.specs.declared.Effect.{Effect as CallEffect}
use Rattle.memory_folder.specs.declared.mishap.Mishap.{Mishap}
use Rattle.memory_folder.specs.declared.memory.MemoryFolder.{MemoryFolder}
use Rattle.acct_outside.specs.Tokens.{Token}
use Rattle.acct_outside.specs.Calls.{Call, Answer}
use Rattle.acct_outside.specs.Life.{is_running}
use Rattle.acct_outside.specs.Others.{Admission}
use Rattle.acct_outside.specs.Faults.{next_count, HasRisen, CountsEach}
use Rattle.acct_outside.specs.Journal.{Entry}
use Rattle.acct_outside.specs.Moment.{Past, Moment, Notes}
use Rattle.acct_outside.specs.Contract.{Tells}
use Rattle.memory_folder.specs.Logged.{past_in, with_event, folder_after}
use Rattle.acct_outside.specs.declared.Call.{Call as FolderCall}
use Rattle.memory_folder.specs.declared.event.Outcome.TheVariants.{Done}
use Rattle.memory_folder.specs.declared.event.Answer.TheVariants.{Empty}
use Rattle.acct_outside.specs.NamedCalls.{call_of}
use Rattle.memory_folder.specs.Events.{call_event, failed_event, actual_effect, effect_in}
use Rattle.memory_folder.specs.Plan.{planned_effect, effect_due}

-- a folder in memory admits no event of another session
abbrev pub no_others : Admission
no_others history e = ⊥

-- its history, with its first contents as the first moment
abbrev pub past_of : MemoryFolder → Past
past_of folder = past_in folder.log

-- how many calls it had, of those that a plan counts
abbrev pub call_count : MemoryFolder → ℕ
call_count folder = folder.mishaps.calls

-- how often it has failed
abbrev pub faults_of : MemoryFolder → ℕ
faults_of folder = folder.mishaps.faults

-- what it was asked
abbrev pub journal_of : MemoryFolder → List Entry
journal_of folder = folder.journal.entries

-- what it tells of itself: its history, its count and its journal, and no events of others
abbrev pub moment_of : MemoryFolder → Moment
moment_of folder = record {
  admits = no_others;
  told = Some (past_of folder);
  faults = faults_of folder;
  journal = journal_of folder;
}

-- its journal has this entry more
abbrev pub NotesIn : MemoryFolder → MemoryFolder → Entry → Type 0
NotesIn old new entry = Notes (moment_of old) (moment_of new) entry

-- which of its calls are to fail
abbrev pub fault_plan : MemoryFolder → List Mishap
fault_plan folder = folder.mishaps.plan.items

-- the tokens of outsiders that it tells alive
abbrev pub alive_of : MemoryFolder → List Token
alive_of folder = folder.alive.items

-- what the session's call tells, in the trait's words
abbrev pub TellsIn : MemoryFolder → MemoryFolder → Token → (call : Call)
    → Result (Answer call) FolderFault → Type 0
TellsIn old new token call result =
    Tells (moment_of old) (moment_of new) token call result

-- the same of a call that gave no answer
abbrev pub TellsFailure : MemoryFolder → MemoryFolder → Token → Call → FolderFault → Type 0
TellsFailure old new token call fault = TellsIn old new token call (Err fault)

-- the same of a changing call, which answers nothing but that it was done
abbrev pub TellsAct : MemoryFolder → MemoryFolder → Token → FolderCall
    → Result (Unit {0}) FolderFault → Type 0
TellsAct old new token call (Ok unit) =
    past_of new ≡ with_event (call_event token call (Done Empty)) (past_of old)
TellsAct old new token call (Err fault) = TellsFailure old new token (call_of call) fault

-- the plan and the tokens told alive stay, and so does the count of calls
pub record IsUncounted (old new : MemoryFolder) : Type 0 where
  pub calls : call_count new ≡ call_count old
  pub plan : fault_plan new ≡ fault_plan old
  pub alive : alive_of new ≡ alive_of old

-- the count of faults after a call that gave no answer: it rose by one where the call failed, and is
-- as it was where there was no memory
pub record CountsFault (old new : MemoryFolder) (fault : FolderFault) : Type 0 where
  pub never_falls : faults_of old ≤ faults_of new
  pub rises : fault ≡ Failed → HasRisen (faults_of old) (faults_of new)
  pub by_one : fault ≡ Failed → faults_of new ≡ next_count (faults_of old)
  pub stays : fault ≡ Memory → faults_of new ≡ faults_of old

-- the call was counted, and its fault where it failed; the plan and the tokens told alive stay
pub record CountsCall {T : Type 0} (old new : MemoryFolder) (result : Result T FolderFault)
    : Type 0 where
  pub calls : call_count new ≡ next_count (call_count old)
  pub faults : CountsEach Failed (faults_of old) (faults_of new) result
  pub plan : fault_plan new ≡ fault_plan old
  pub alive : alive_of new ≡ alive_of old

-- what the call that was counted last is to do as it fails, None where it isn't to fail
abbrev pub due_of : MemoryFolder → MemoryFolder → Call → Option CallEffect
due_of old new call =
    effect_due (folder_after (past_of old)) call (planned_effect (call_count new) (fault_plan new))

-- the call failed with this effect, as far as it can have had it
abbrev pub FailsWith : MemoryFolder → MemoryFolder → Token → Call → CallEffect → Type 0
FailsWith old new token call effect =
    past_of new
    ≡ with_event
    (failed_event token call
    (actual_effect (folder_after (past_of old)) call (effect_in effect)))
    (past_of old)

-- The call that was counted last failed exactly where it was to, and with the planned effect. Of
-- one that found no memory nothing is said.
abbrev pub FailsAsPlanned : {T : Type 0} → MemoryFolder → MemoryFolder → Token → Call
    → Result T FolderFault → Type 0
FailsAsPlanned old new token call (Ok answer) = due_of old new call ≡ None
FailsAsPlanned old new token call (Err Failed) =
    IsSomeAnd (due_of old new call) (FailsWith old new token call)
FailsAsPlanned old new token call (Err Memory) = ⊤

-- the session runs in the folder's history
pub record HasRunning (folder : MemoryFolder) (token : Token) : Type 0 where
  pub runs : is_running token (past_of folder).history ≡ true
