-- What a command answers beside the decisions of its tool: the outcome, no output, and one line on
-- the error stream.
use Rattle.std.specs.Prelude.{ℕ, List, []}
use Rattle.account_model.specs.declared.tool.Tool.{Tool}
use Rattle.account_model.specs.declared.tool.Tool.TheVariants.{Batch}
use Rattle.account_model.specs.declared.word_fault.WordFault.{WordFault}
use Rattle.account_model.specs.declared.word_fault.WordFault.TheVariants.{Memory as NoMemory}
use Rattle.account_model.specs.Messages.{message}
use Rattle.account_model.specs.BatchLines.{FaultyLine}
use Rattle.account_model.specs.Options.{Word}
use Rattle.account_model.specs.WordMessages.{faulty_tool, line_fault_message, syntax_status, word_fault_status, word_fault_message}
use Rattle.acct_outside.specs.declared.CommitStage.TheVariants.{Before}
use Rattle.suite_answers.specs.declared.answer.Answer.{Answer}
use Rattle.suite_answers.specs.declared.cause.Cause.{Cause}
use Rattle.suite_answers.specs.declared.cause.Cause.TheVariants.{Changed, Same, Refused, RefusedLine, Syntax, BatchSyntax, OutputFault, Memory}
use Rattle.suite_answers.specs.Reasons.{memory_message, status_of, reason_text}

-- an answer that says why, and has no output
abbrev pub says : Cause → ℕ → List ℕ → Answer
says cause status message = record {
  outcome = record { status = status; cause = cause };
  out = [];
  err = message;
}

-- ---- A cause

-- what the tool says of the cause: what it decides brings its own text, as faults of words do, and
-- nothing tells that the streams failed
abbrev pub message_of : Tool → Cause → List ℕ
message_of tool Changed = []
message_of tool Same = []
message_of tool (Refused refusal) = []
message_of tool (RefusedLine line refusal) = []
message_of tool (Syntax fault) = []
message_of tool (BatchSyntax line fault) = []
message_of tool (OutputFault stage) = []
message_of tool cause = message tool (reason_text cause)

-- the answer of the tool to the cause
abbrev pub answer_for : Tool → Cause → Answer
answer_for tool cause = says cause (status_of tool cause) (message_of tool cause)

-- ---- Words

-- the cause of a fault of words; to have no memory for them is want of memory
abbrev pub cause_of_words : WordFault → Cause
cause_of_words NoMemory = Memory Before
cause_of_words fault = Syntax fault

-- the line to words with this first fault
abbrev pub message_to_words : List Word → WordFault → List ℕ
message_to_words words NoMemory = memory_message (faulty_tool words NoMemory) Before
message_to_words words fault = word_fault_message words fault

-- the answer to words with this first fault
abbrev pub told_words : List Word → WordFault → Answer
told_words words fault =
    says (cause_of_words fault) (word_fault_status words fault) (message_to_words words fault)

-- the answer to a batch of which this is the first line that asks for nothing
abbrev pub told_line : FaultyLine → Answer
told_line faulty = says (BatchSyntax faulty.number faulty.fault) (syntax_status Batch)
    (line_fault_message faulty)
