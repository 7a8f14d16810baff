-- What a command takes beside its words: chpasswd(8) and chgpasswd(8) read their pairs and a batch its
-- lines from the standard input, to the end, and other tools nothing of it; and each command takes the
-- day from the clock. Each line of a batch that isn't skipped must ask for something.
use Rattle.std.specs.Prelude.{◌≡◌, ⊤, ℕ, ◌+◌, ◌≤◌, ◌++◌, [], length, Bool, true, false, Option, Some, Result, Ok, Err}
use Rattle.acct_text.specs.Bytes.{Bytes}
use Rattle.acct_text.specs.Limits.{table_limit}
use Rattle.acct_outside.specs.declared.CommitStage.TheVariants.{Before}
use Rattle.acct_outside.specs.declared.streams.SourceFault.{SourceFault}
use Rattle.acct_outside.specs.declared.streams.SourceFault.TheVariants.{Failed, Memory as NoMemory}
use Rattle.acct_outside.specs.Faults.{Faults, HasRisen, LastFailed, NoneFailed}
use Rattle.acct_outside.specs.Streams.{ClockMoment, SourceMoment, WhereBytesTold}
use Rattle.account_model.specs.declared.tool.Tool.{Tool}
use Rattle.account_model.specs.BatchLines.{FaultyLine, first_faulty}
use Rattle.account_model.specs.Rows.{is_read, row_of}
use Rattle.account_model.specs.Words.{is_batch}
use Rattle.suite_answers.specs.declared.cause.Which.TheVariants.{Input}
use Rattle.suite_answers.specs.declared.cause.Cause.{Cause}
use Rattle.suite_answers.specs.declared.cause.Cause.TheVariants.{TooLarge, InputFault, ClockFault, Memory}
use Rattle.suite_answers.specs.declared.answer.Answer.{Answer}
use Rattle.suite_answers.specs.Answers.{answer_for, told_line}
use Rattle.suite_session.specs.Runner.{LinesAsk}
use Rattle.suite_course.specs.declared.supplies.Lack.{Lack}
use Rattle.suite_course.specs.declared.supplies.Lack.TheVariants.{Supply, Line}

-- the tool reads an input: the pairs of chpasswd(8) and chgpasswd(8), the lines of a batch
abbrev pub reads_input : Tool → Bool
reads_input tool = is_read (row_of tool).input

-- what a source has left where it tells, and its faults; the day that a clock last gave, and its faults
pub record Supplies : Type 0 where
  pub left : Option Bytes
  pub input_faults : Faults
  pub gave : Option ℕ
  pub clock_faults : Faults

-- the source and the clock, by what each tells of itself
abbrev pub supplies : SourceMoment → ClockMoment → Supplies
supplies source clock = record {
  left = source.left;
  input_faults = source.faults;
  gave = clock.gave;
  clock_faults = clock.faults;
}

-- the cause of a fault of the source
abbrev pub cause_of_source : SourceFault → Cause
cause_of_source Failed = InputFault
cause_of_source NoMemory = Memory Before

-- these bytes came, and the rest is left
abbrev pub Came : Bytes → Bytes → Bytes → Type 0
Came came before now = before ≡ came ++ now

-- one byte more came than an input may have, and the rest is left
pub record IsTooMuch (before now : Bytes) : Type 0 where
  pub came : Bytes
  pub parts : Came came before now
  pub passes : length came ≡ table_limit + 1

-- A read of a source to its end: the input is all that was left. One that is too large has one byte
-- too many; at a fault, and without memory, some bytes may have come.
abbrev pub TakesAll : Result Bytes Cause → Bytes → Bytes → Type 0
TakesAll (Ok input) before now = (before ≡ input) × (now ≡ [])
TakesAll (Err (TooLarge Input)) before now = IsTooMuch before now
TakesAll (Err cause) before now = (came : Bytes) × Came came before now

-- where the source is told as the cause its last take failed, and no other; else none failed
abbrev pub NotesInput : Result Bytes Cause → Faults → Faults → Type 0
NotesInput (Err InputFault) before now = LastFailed before now
NotesInput result before now = NoneFailed before now

-- the causes of a command that got no input
abbrev pub IsOfInput : Cause → Type 0
IsOfInput (TooLarge Input) = ⊤
IsOfInput InputFault = ⊤
IsOfInput (Memory Before) = ⊤
IsOfInput cause = ⊥

-- The command has this input and this day: all that the source had left, for a tool that reads it, of
-- which each line of a batch asks for something, and the day that the clock gave. Neither failed.
pub record AreSupplied (tool : Tool) (before now : Supplies) (input : Bytes)
    (day : ℕ) : Type 0 where
  pub all_input : reads_input tool ≡ true →
      WhereBytesTold before.left now.left (TakesAll (Ok input))
  pub no_input : reads_input tool ≡ false → input ≡ []
  pub within : length input ≤ table_limit
  pub lines_ask : LinesAsk tool input
  pub on_day : now.gave ≡ Some day
  pub source : NoneFailed before.input_faults now.input_faults
  pub clock : NoneFailed before.clock_faults now.clock_faults

-- the clock wasn't asked
pub record ClockStays (before now : Supplies) : Type 0 where
  pub gave : now.gave ≡ before.gave
  pub faults : now.clock_faults ≡ before.clock_faults

-- some bytes may have come, and the rest is left
abbrev pub SomeCame : Bytes → Bytes → Type 0
SomeCame before now = (came : Bytes) × Came came before now

-- a whole input came, of which each line of a batch asks for something, and nothing is left
abbrev pub AllCame : Tool → Bytes → Bytes → Type 0
AllCame tool before now = (length before ≤ table_limit) × (now ≡ []) × LinesAsk tool before

-- The source failed or had too much, or there was no memory: no day was asked for after that.
abbrev pub LacksInput : Supplies → Supplies → (Bytes → Bytes → Type 0) → Type 0
LacksInput before now P = ClockStays before now × WhereBytesTold before.left now.left P

-- The clock failed, gave no day, and wasn't asked again. Before it was asked the whole input came, where
-- the tool reads one.
pub record LacksDay (tool : Tool) (before now : Supplies) : Type 0 where
  pub clock : LastFailed before.clock_faults now.clock_faults
  pub gave : now.gave ≡ before.gave
  pub source : NoneFailed before.input_faults now.input_faults
  pub all_input : reads_input tool ≡ true → WhereBytesTold before.left now.left (AllCame tool)

-- Why the command has no input or no day: the source or the clock failed, and was called no more; more
-- came than an input may have; or there was no memory.
abbrev pub IsUnsupplied : Tool → Supplies → Supplies → Cause → Type 0
IsUnsupplied tool before now InputFault = (reads_input tool ≡ true)
    × LastFailed before.input_faults now.input_faults × LacksInput before now SomeCame
IsUnsupplied tool before now (TooLarge Input) = (reads_input tool ≡ true)
    × NoneFailed before.input_faults now.input_faults × LacksInput before now IsTooMuch
IsUnsupplied tool before now ClockFault = LacksDay tool before now
IsUnsupplied tool before now (Memory Before) =
    NoneFailed before.input_faults now.input_faults × LacksInput before now SomeCame
IsUnsupplied tool before now cause = ⊥

-- The whole input of a batch came, and this is the first of its lines that isn't skipped and asks for
-- nothing: no day was asked for after that.
pub record LacksRequest (before now : Supplies) (faulty : FaultyLine) : Type 0 where
  pub input : Bytes
  pub all_input : WhereBytesTold before.left now.left (TakesAll (Ok input))
  pub within : length input ≤ table_limit
  pub first : first_faulty input ≡ Some faulty
  pub source : NoneFailed before.input_faults now.input_faults
  pub clock : ClockStays before now

-- what a command lacks that has this input: its first line that asks for nothing, or memory to tell
abbrev pub LacksLine : Tool → Bytes → Lack → Type 0
LacksLine tool input (Line faulty) =
    (is_batch tool ≡ true) × (first_faulty input ≡ Some faulty)
LacksLine tool input (Supply (Memory Before)) = ⊤
LacksLine tool input lack = ⊥

-- why the command doesn't run: it has no input or no day, or a line of its input asks for nothing
abbrev pub IsLacking : Tool → Supplies → Supplies → Lack → Type 0
IsLacking tool before now (Supply cause) = IsUnsupplied tool before now cause
IsLacking tool before now (Line faulty) =
    (is_batch tool ≡ true) × LacksRequest before now faulty

-- the answer that tells it
abbrev pub told_lack : Tool → Lack → Answer
told_lack tool (Supply cause) = answer_for tool cause
told_lack tool (Line faulty) = told_line faulty

-- nothing lacks: no fault of the source or of the clock was counted, and what the source had left, where
-- the tool reads it, is within the limit of an input, and each line of a batch asks for something
pub record LacksNothing (tool : Tool) (before now : Supplies) : Type 0 where
  pub source : HasRisen before.input_faults.count now.input_faults.count → ⊥
  pub clock : HasRisen before.clock_faults.count now.clock_faults.count → ⊥
  pub input : reads_input tool ≡ true → (bytes : Bytes) × (before.left ≡ Some bytes)
      × (length bytes ≤ table_limit) × LinesAsk tool bytes
