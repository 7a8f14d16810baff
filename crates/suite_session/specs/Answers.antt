-- What a tool answers on files, as the answer of a session tells it (account_model/specs/Answer).
use Rattle.std.specs.Prelude.{◌≡◌, ◌⊎◌, ℕ, [], Option, Result, Ok, Err}
use Rattle.acct_text.specs.Bytes.{Bytes}
use Rattle.acct_text.specs.declared.files.Files.{Files}
use Rattle.acct_outside.specs.declared.Name.TheVariants.{Table, Defs}
use Rattle.acct_outside.specs.declared.streams.SinkFault.{SinkFault}
use Rattle.acct_outside.specs.declared.streams.SinkFault.TheVariants.{Failed, Memory as NoMemory}
use Rattle.account_model.specs.Answer.{FileProblem, TableTooLarge, SettingsTooLarge, TableAbsent, BadSettingAt, AnswerCause, Unusable, Refused, RefusedLine, Same, Changed, Answer as ToolAnswer, answer}
use Rattle.suite_answers.specs.declared.cause.Which.TheVariants.{Input, File}
use Rattle.suite_answers.specs.declared.cause.Cause.{Cause}
use Rattle.suite_answers.specs.declared.cause.Cause.TheVariants.{Changed as IsChanged, Same as IsSame, Refused as IsRefused, RefusedLine as IsRefusedLine, Syntax, BatchSyntax, TooLarge, NoTable, BadSetting, InputFault, OutputFault, ClockFault, Memory}
use Rattle.suite_answers.specs.declared.answer.Answer.{Answer}
use Rattle.suite_answers.specs.Reasons.{stage_of}
use Rattle.suite_answers.specs.Answers.{answer_for, says}
use Rattle.acct_outside.specs.declared.CommitStage.{CommitStage}
use Rattle.account_model.specs.declared.tool.Tool.{Tool}
use Rattle.account_model.specs.SeenFiles.{seen_files}
use Rattle.account_model.specs.Statuses.{memory_status, output_fault_status}
use Rattle.suite_session.specs.Runner.{Question}

-- the cause of an answer where the files can't be used
abbrev pub cause_of_problem : FileProblem → Cause
cause_of_problem (TableTooLarge table) = TooLarge (File (Table table))
cause_of_problem SettingsTooLarge = TooLarge (File Defs)
cause_of_problem (TableAbsent table) = NoTable table
cause_of_problem (BadSettingAt line) = BadSetting line

-- the cause of a tool's answer
abbrev pub cause_of_answer : AnswerCause → Cause
cause_of_answer (Unusable problem) = cause_of_problem problem
cause_of_answer (Refused refusal) = IsRefused refusal
cause_of_answer (RefusedLine line refusal) = IsRefusedLine line refusal
cause_of_answer Same = IsSame
cause_of_answer (Changed files) = IsChanged

-- the tool's answer to the question on these files and this login.defs
abbrev pub answer_on : Question → Files → Option Bytes → ToolAnswer
answer_on asked files defs =
    answer asked.request asked.command.input asked.command.day files defs

-- the session's answer is this
pub record IsAnswerOn (asked : Question) (files : Files) (defs : Option Bytes) (given : Answer)
    : Type 0 where
  pub has_cause : given.outcome.cause ≡ cause_of_answer (answer_on asked files defs).cause
  pub has_status : given.outcome.status ≡ (answer_on asked files defs).status
  pub has_out : given.out ≡ (answer_on asked files defs).output
  pub has_err : given.err ≡ (answer_on asked files defs).error

-- it is that on what the command sees of the files: all of them, or of a report what it reads
abbrev pub IsAnswerSeen : Question → Files → Option Bytes → Answer → Type 0
IsAnswerSeen asked files defs given = IsAnswerOn asked (seen_files asked.request files) defs given

-- it is that on some files
pub record IsOfSome (asked : Question) (given : Answer) : Type 0 where
  pub files : Files
  pub defs : Option Bytes
  pub is_answer : IsAnswerOn asked files defs given

-- ---- The answer to a cause

-- the answer that there is no memory, at a stage: its text is put in pieces that take none
abbrev pub memory_answer : CommitStage → Answer
memory_answer stage = says (Memory stage) memory_status []

-- a session's answer to a cause that is no tool's
abbrev pub given_for : Tool → Cause → Answer
given_for tool (Memory stage) = memory_answer stage
given_for tool cause = answer_for tool cause

-- the answer tells of the cause; or there was no memory for its text
abbrev pub IsTold : Tool → Cause → Answer → Type 0
IsTold tool cause given =
    (given ≡ given_for tool cause) ⊎ (given ≡ memory_answer (stage_of cause))

-- What an answer with this cause says to which a session came by its calls: what the tool says on
-- some files, or what tells the cause. It has words that ask for something and all its input, of which
-- each line of a batch asks for something, and no call of the folder fails at a stream or at the clock,
-- so it tells of none of these.
abbrev pub Says : Question → Answer → Cause → Type 0
Says asked given IsChanged = IsOfSome asked given
Says asked given IsSame = IsOfSome asked given
Says asked given (IsRefused refusal) = IsOfSome asked given
Says asked given (IsRefusedLine line refusal) = IsOfSome asked given
Says asked given (Syntax fault) = ⊥
Says asked given (BatchSyntax line fault) = ⊥
Says asked given (TooLarge Input) = ⊥
Says asked given InputFault = ⊥
Says asked given (OutputFault stage) = ⊥
Says asked given ClockFault = ⊥
Says asked given cause = given ≡ given_for asked.request.tool cause

-- ---- After a fault of a stream

-- the cause that a fault of a stream leaves, at the stage that was reached
abbrev pub left_by : SinkFault → CommitStage → Cause
left_by Failed stage = OutputFault stage
left_by NoMemory stage = Memory stage

-- its status
abbrev pub status_left : SinkFault → ℕ
status_left Failed = output_fault_status
status_left NoMemory = memory_status

-- the answer after a fault of a stream: its texts stay
abbrev pub after_fault : SinkFault → Answer → Answer
after_fault fault answer = record answer {
  outcome = record {
    status = status_left fault;
    cause = left_by fault (stage_of answer.outcome.cause);
  };
}

-- the answer as the streams left it
abbrev pub after_streams : Result (Unit {0}) SinkFault → Answer → Answer
after_streams (Ok unit) answer = answer
after_streams (Err fault) answer = after_fault fault answer
