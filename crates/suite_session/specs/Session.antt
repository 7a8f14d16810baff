-- A session, by itself: its start, its token, its answer, and what a stream that failed makes of it.
use Rattle.std.specs.Prelude.{◌≡◌, ◌≢◌, ◌⊎◌, ⊤, [], true, ℕ, ◌+◌, List, Option, Some, None, Result, Ok, Err}
use Rattle.acct_text.specs.Bytes.{Bytes}
use Rattle.acct_outside.specs.declared.streams.SinkFault.{SinkFault}
use Rattle.acct_outside.specs.Calls.{Command}
use Rattle.acct_outside.specs.Tokens.{Token}
use Rattle.account_model.specs.declared.word_fault.WordFault.TheVariants.{Memory as NoWordMemory}
use Rattle.account_model.specs.BatchLines.{FaultyLine, first_faulty}
use Rattle.account_model.specs.Options.{Word}
use Rattle.account_model.specs.Request.{Request}
use Rattle.account_model.specs.Words.{Asks, fault, is_batch}
use Rattle.suite_answers.specs.declared.cause.Outcome.{Outcome}
use Rattle.suite_answers.specs.declared.answer.Answer.{Answer}
use Rattle.suite_session.specs.declared.start_fault.StartFault.{StartFault}
use Rattle.suite_session.specs.declared.start_fault.StartFault.TheVariants.{Words as OfWords, Line as OfLine}
use Rattle.suite_session.specs.declared.state.State.{State}
use Rattle.suite_session.specs.declared.state.State.TheVariants.{Answering}
use Rattle.suite_session.specs.declared.session.Phase.{Phase}
use Rattle.suite_session.specs.declared.session.Phase.TheVariants.{Waiting, Begun, Over, Unbegun}
use Rattle.suite_session.specs.Answers.{after_fault}
use Rattle.suite_session.specs.Left.{appends_left, calls_left, most_appends, most_calls, most_lower}
use Rattle.suite_session.specs.Stands.{IsMemory}

-- the session hasn't begun, and was asked this by words that ask for something
abbrev pub IsStarted : Command → Phase → Type 0
IsStarted command (Waiting asked) = (asked.command ≡ command) × Asks command.words asked.request
IsStarted command phase = ⊥

-- the words ask for a batch, and this line of its input is the first that asks for nothing
pub record HasFaultyLine (words : List Word) (input : Bytes) (faulty : FaultyLine) : Type 0 where
  pub request : Request
  pub asks : Asks words request
  pub batch : is_batch request.tool ≡ true
  pub first : first_faulty input ≡ Some faulty

-- why no session starts: the first fault of the words, or that there was no memory; or the number of
-- the first line of a batch that asks for nothing, with its fault
abbrev pub CantStart : List Word → Bytes → StartFault → Type 0
CantStart words input (OfWords found) = (fault words ≡ Some found) ⊎ (found ≡ NoWordMemory)
CantStart words input (OfLine number found) = (faulty : FaultyLine)
    × HasFaultyLine words input faulty × (faulty.number ≡ number) × (faulty.fault ≡ found)

-- the session hasn't begun
abbrev pub IsWaiting : Phase → Type 0
IsWaiting (Waiting asked) = ⊤
IsWaiting phase = ⊥

-- the token of a session; none before its begin, and where that gave none
abbrev pub token_of : Phase → Option Token
token_of (Waiting asked) = None
token_of (Begun runner state) = Some runner.token
token_of (Over runner answer) = Some runner.token
token_of (Unbegun tool answer) = None

-- ---- Its answer

-- the answer that a state gives
abbrev pub given_in : State → Option Answer
given_in (Answering answer) = Some answer
given_in state = None

-- the session's answer, once no call but that of the answer is left
abbrev pub answer_of : Phase → Option Answer
answer_of (Waiting asked) = None
answer_of (Begun runner state) = given_in state
answer_of (Over runner answer) = Some answer
answer_of (Unbegun tool answer) = Some answer

-- the outcome of a session that has no call left
abbrev pub outcome_of : Phase → Option Outcome
outcome_of (Waiting asked) = None
outcome_of (Begun runner state) = None
outcome_of (Over runner answer) = Some answer.outcome
outcome_of (Unbegun tool answer) = Some answer.outcome

-- the calls that a session has left at most
abbrev pub phase_left : Phase → ℕ
phase_left (Waiting asked) = most_calls + most_lower + most_appends
phase_left (Begun runner state) = calls_left state + appends_left state
phase_left (Over runner answer) = 0
phase_left (Unbegun tool answer) = 0

-- ---- A fault of a stream

-- the answer has a message: its own, or that there is no memory, which is put without it
abbrev pub HasMessage : Answer → Type 0
HasMessage answer = (answer.err ≢ []) ⊎ IsMemory answer.outcome.cause

-- the answer has something for the streams to take
abbrev pub HasText : Answer → Type 0
HasText answer = (answer.out ≢ []) ⊎ HasMessage answer

-- the state has an answer with a text
abbrev pub HasTextIn : State → Type 0
HasTextIn (Answering answer) = HasText answer
HasTextIn state = ⊥

-- the session has an answer with a text, and hasn't answered
abbrev pub IsToPut : Phase → Type 0
IsToPut (Begun runner state) = HasTextIn state
IsToPut (Unbegun tool answer) = HasText answer
IsToPut phase = ⊥

-- the state after a fault of a stream, which changes an answer alone
abbrev pub state_failed : SinkFault → State → State
state_failed fault (Answering answer) = Answering (after_fault fault answer)
state_failed fault state = state

-- the state as the streams left it
abbrev pub state_after : Result (Unit {0}) SinkFault → State → State
state_after (Ok unit) state = state
state_after (Err fault) state = state_failed fault state

-- the session after a fault of a stream; one that has answered stays
abbrev pub output_failed : SinkFault → Phase → Phase
output_failed fault (Waiting asked) = Waiting asked
output_failed fault (Begun runner state) = Begun runner (state_failed fault state)
output_failed fault (Over runner answer) = Over runner answer
output_failed fault (Unbegun tool answer) = Unbegun tool (after_fault fault answer)
