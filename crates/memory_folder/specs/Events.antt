-- The events of a folder in memory as a history.
use Rattle.std.specs.Prelude.{ℕ, Bool, true, false, ◌||◌, List, [], ◌∷◌, map, reverse, Option, None, Some, bytes_eq, if◌then◌else◌, is_some, is_none}
use Rattle.acct_outside.specs.declared.Name.TheVariants.{Lock}
use Rattle.acct_outside.specs.declared.Verdict.{Verdict}
use Rattle.acct_outside.specs.declared.Verdict.TheVariants.{Alive}
use Rattle.acct_outside.specs.declared.Created.{Created}
use Rattle.memory_folder.specs.declared.Effect.{Effect as CallEffect}
use Rattle.memory_folder.specs.declared.Effect.TheVariants.{Happened, Nothing, Left}
use Rattle.acct_outside.specs.declared.Call.{Call as FolderCall}
use Rattle.acct_outside.specs.declared.Call.TheVariants.{Answered}
use Rattle.memory_folder.specs.declared.event.Command.{Command as KeptCommand}
use Rattle.memory_folder.specs.declared.event.Answer.{Answer as KeptAnswer}
use Rattle.memory_folder.specs.declared.event.Answer.TheVariants.{Locks as Numbers, Found as Reading, Verdict as Judged, Created as Made}
use Rattle.memory_folder.specs.declared.event.Outcome.{Outcome}
use Rattle.memory_folder.specs.declared.event.Outcome.TheVariants.{Done, Failed, Died}
use Rattle.memory_folder.specs.declared.event.Event.{Event as KeptEvent}
use Rattle.memory_folder.specs.declared.event.Event.TheVariants.{Begun, Called}
use Rattle.acct_outside.specs.declared.Created.TheVariants.{Done as Fresh, Exists}
use Rattle.acct_outside.specs.Tokens.{Token}
use Rattle.acct_outside.specs.Folder.{Folder}
use Rattle.acct_outside.specs.Calls.{Call, Command, Answer, CallResult, Effect, Found, found_absent, happened, nothing, left, begins, lists, reads, asks, creates, writes, appends, renames, removes, answers, done, failed, died}
use Rattle.acct_outside.specs.History.{Event, History}
use Rattle.acct_outside.specs.Contract.{found_of}
use Rattle.acct_outside.specs.NamedCalls.{IsLaterCall, call_of}

-- what was asked at a begin
abbrev pub command_of : KeptCommand → Command
command_of command =
    record { words = command.words.items; input = command.input; day = command.day }

-- what a call of the program did, as the effect of an event
abbrev pub effect_in : CallEffect → Effect
effect_in Happened = happened
effect_in Nothing = nothing
effect_in (Left content) = left content

-- the numbers of a listing's answer
abbrev pub numbers_in : KeptAnswer → List ℕ
numbers_in (Numbers numbers) = numbers.items
numbers_in _ = []

-- what a read's answer has found
abbrev pub found_in : KeptAnswer → Found
found_in (Reading found) = found_of found
found_in _ = found_absent

-- the verdict of an ask's answer
abbrev pub verdict_in : KeptAnswer → Verdict
verdict_in (Judged verdict) = verdict
verdict_in _ = Alive

-- whether a create's answer says that it made the lock
abbrev pub created_in : KeptAnswer → Created
created_in (Made created) = created
created_in _ = Fresh

-- the answer of the call; one of another kind says nothing
abbrev pub answer_in : (call : Call) → KeptAnswer → Answer call
answer_in lists answer = numbers_in answer
answer_in (reads name) answer = found_in answer
answer_in (asks token) answer = verdict_in answer
answer_in (creates number) answer = created_in answer
answer_in _ answer = tt

-- the result of the call
abbrev pub result_in : (call : Call) → Outcome → CallResult (Answer call)
result_in call (Done answer) = done (answer_in call answer)
result_in call (Failed effect) = failed (effect_in effect)
result_in call (Died effect) = died (effect_in effect)

-- the answer says that a create found its lock standing
abbrev pub says_exists : Created → Bool
says_exists Exists = true
says_exists Fresh = false

-- a create answered that its lock stands
abbrev pub answers_exists : Call → KeptAnswer → Bool
answers_exists (creates number) answer = says_exists (created_in answer)
answers_exists call answer = false

-- the call is the session's last: it answered, or died within the call
abbrev pub ends : FolderCall → Outcome → Bool
ends (Answered status) outcome = true
ends call (Died effect) = true
ends call outcome = false

-- the event of a begin that gave this token, or failed where it gave none
abbrev pub begin_event : Option Token → Command → Event
begin_event None command = record { token = []; call = begins command; result = failed nothing }
begin_event (Some token) command =
    record { token = token; call = begins command; result = done tt }

-- the event of a session's call that was done with this answer
abbrev pub done_event : Token → (call : Call) → Answer call → Event
done_event token call answer = record { token = token; call = call; result = done answer }

-- the event of a session's call that failed with this effect
abbrev pub failed_event : Token → Call → Effect → Event
failed_event token call effect = record { token = token; call = call; result = failed effect }

-- the event of a session's call with its outcome
abbrev pub call_event : Token → FolderCall → Outcome → Event
call_event token call outcome =
    record { token = token; call = call_of call; result = result_in (call_of call) outcome }

-- an event of the folder in memory, in the words of a history
abbrev pub event_of : KeptEvent → Event
event_of (Begun token command) = begin_event token (command_of command)
event_of (Called token call outcome) = call_event token call outcome

-- the events in their order as a history, which has the newest first
abbrev pub history_of : List KeptEvent → History
history_of events = reverse (map event_of events)

-- one of the tokens is this one
abbrev pub has_token : Token → List Token → Bool
has_token token [] = false
has_token token (other ∷ tokens) = bytes_eq other token || has_token token tokens

-- a later call that may fail: each but the answer
abbrev pub MayFail : FolderCall → Type 0
MayFail (Answered status) = ⊥
MayFail call = IsLaterCall call

-- the call can have happened in this folder though it failed: a create where its lock doesn't stand,
-- an append where its name stands, a rename where its source does, no begin, and every other call
abbrev pub may_happen : Folder → Call → Bool
may_happen folder (begins command) = false
may_happen folder (creates number) = is_none (folder.file (Lock number))
may_happen folder (appends name piece) = is_some (folder.file name)
may_happen folder (renames from to) = is_some (folder.file from)
may_happen folder call = true

-- only a write or an append leaves other bytes than its own
abbrev pub may_leave : Call → Bool
may_leave (writes name bytes) = true
may_leave (appends name piece) = true
may_leave call = false

-- the effect of a call that failed or in which its session died: nothing, where the planned effect
-- can't have been
abbrev pub actual_effect : Folder → Call → Effect → Effect
actual_effect folder call happened = if may_happen folder call then happened else nothing
actual_effect folder call nothing = nothing
actual_effect folder call (left content) = if may_leave call then left content else nothing
