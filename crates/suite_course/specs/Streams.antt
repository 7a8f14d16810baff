-- What the streams hold after an answer, and what tells that one of them failed.
use Rattle.std.specs.Prelude.{◌≡◌, ◌≢◌, ◌⊎◌, [], ℕ, ◌≤◌, Option, Some, None, Result, Ok, Err}
use Rattle.acct_text.specs.Bytes.{Bytes}
use Rattle.acct_outside.specs.declared.CommitStage.{CommitStage}
use Rattle.acct_outside.specs.declared.streams.SinkFault.{SinkFault}
use Rattle.acct_outside.specs.declared.streams.SinkFault.TheVariants.{Failed}
use Rattle.acct_outside.specs.Faults.{HasRisen}
use Rattle.acct_outside.specs.Streams.{SinkMoment, WhereBytesTold}
use Rattle.account_model.specs.declared.tool.Tool.{Tool}
use Rattle.suite_answers.specs.declared.cause.Cause.{Cause}
use Rattle.suite_answers.specs.declared.cause.Cause.TheVariants.{Memory}
use Rattle.suite_answers.specs.declared.answer.Answer.{Answer}
use Rattle.suite_answers.specs.Reasons.{memory_message}
use Rattle.suite_answers.specs.Fronts.{PutsFront}

-- what both streams hold where they tell it, and how often they have failed
pub record Streams : Type 0 where
  pub out : Option Bytes
  pub out_faults : ℕ
  pub err : Option Bytes
  pub err_faults : ℕ

-- the two streams, by what each tells of itself
abbrev pub streams : SinkMoment → SinkMoment → Streams
streams out err = record {
  out = out.holds;
  out_faults = out.faults;
  err = err.holds;
  err_faults = err.faults;
}

-- the stage of a cause that there is no memory, none of any other
abbrev pub memory_stage : Cause → Option CommitStage
memory_stage (Memory stage) = Some stage
memory_stage cause = None

-- the message of an answer: that there is no memory tells itself
abbrev pub text_of : Option Tool → Answer → Bytes
text_of tool answer = elim (memory_stage answer.outcome.cause) [
  | Some stage ↦ memory_message tool stage
  | None ↦ answer.err
]

-- a stream failed that was to take this text: its count of faults rose, and there was something to put
pub record FailsAt (text : Bytes) (before now : ℕ) : Type 0 where
  pub rose : HasRisen before now
  pub some : text ≢ []

-- A stream that holds what it tells, and has failed so often, was to take a text. That came whole; or a
-- front of it where the stream failed or found no memory, which it does only with something to take.
pub record PutsText (text : Bytes) (held holds : Option Bytes) (before now : ℕ)
    (put : Result (Unit {0}) SinkFault) : Type 0 where
  pub front : WhereBytesTold held holds (PutsFront text put)
  pub failed : put ≡ Err Failed → FailsAt text before now
  pub texted : (fault : SinkFault) → put ≡ Err fault → text ≢ []
  pub counts : before ≤ now

-- the output didn't come whole, and nothing of the message was put
pub record StopsAtOutput (answer : Answer) (before now : Streams)
    (put : Result (Unit {0}) SinkFault) : Type 0 where
  pub output : PutsText answer.out before.out now.out before.out_faults now.out_faults put
  pub fault : SinkFault
  pub is_fault : put ≡ Err fault
  pub message : now.err ≡ before.err
  pub message_faults : now.err_faults ≡ before.err_faults

-- the output came whole, and then the message, or a front of it
pub record GoesOnToMessage (tool : Option Tool) (answer : Answer) (before now : Streams)
    (put : Result (Unit {0}) SinkFault) : Type 0 where
  pub output : PutsText answer.out before.out now.out before.out_faults now.out_faults (Ok tt)
  pub message : PutsText (text_of tool answer) before.err now.err before.err_faults now.err_faults put

-- The streams took an answer in order, and this is what the last of them gave.
abbrev pub Serves : Option Tool → Answer → Streams → Streams → Result (Unit {0}) SinkFault → Type 0
Serves tool answer before now put =
    StopsAtOutput answer before now put ⊎ GoesOnToMessage tool answer before now put
