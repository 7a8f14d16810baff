-- Where a session goes after a read of the inputs, and what its tool decides on them.
use Rattle.std.specs.Prelude.{◌≡◌, false, Option}
use Rattle.acct_text.specs.Bytes.{Bytes}
use Rattle.acct_text.specs.declared.files.Files.{Files}
use Rattle.acct_outside.specs.declared.CommitStage.TheVariants.{Before}
use Rattle.account_model.specs.declared.tool.Tool.{Tool}
use Rattle.account_model.specs.Answer.{Changed as ChangedTo}
use Rattle.intent_file.specs.Intent.{ReadsIntent, intent_text}
use Rattle.commit_steps.specs.declared.Loading.{Loading as Loaded}
use Rattle.commit_steps.specs.declared.Loading.TheVariants.{More, Done}
use Rattle.commit_steps.specs.declared.LoadEnd.{LoadEnd}
use Rattle.commit_steps.specs.declared.LoadEnd.TheVariants.{Fault, TooLarge, NoTable}
use Rattle.commit_steps.specs.States.{Inputs, MakesChange, intended, walk_of, with_tables}
use Rattle.suite_answers.specs.declared.cause.Which.TheVariants.{File}
use Rattle.suite_answers.specs.declared.cause.Cause.TheVariants.{TooLarge as IsTooLarge, NoTable as HasNoTable}
use Rattle.suite_session.specs.declared.tools.Decided.{Decided}
use Rattle.suite_session.specs.declared.tools.Decided.TheVariants.{Change as Changes, Stay}
use Rattle.suite_session.specs.declared.state.State.{State}
use Rattle.suite_session.specs.declared.state.State.TheVariants.{Loading, BackingUp, Unlocking, Answering}
use Rattle.suite_session.specs.Runner.{Question, Runner}
use Rattle.suite_session.specs.Answers.{answer_on, IsAnswerOn, memory_answer}
use Rattle.suite_session.specs.Deeds.{is_change}
use Rattle.suite_session.specs.Locking.{cause_of_fault}
use Rattle.suite_session.specs.Stands.{AnswersWith, IsOfChange, LeavesWith}

-- what the tool decides on these files and this login.defs: a change by these tables, or an answer
-- with which all stay
abbrev pub DecidesOn : Question → Files → Option Bytes → Decided → Type 0
DecidesOn asked files defs (Changes new given) = IsAnswerOn asked files defs given
    × ((answer_on asked files defs).cause ≡ ChangedTo (with_tables new files))
    × MakesChange new files
DecidesOn asked files defs (Stay given) = IsAnswerOn asked files defs given
    × (is_change (answer_on asked files defs).cause ≡ false)

-- The state after the tool decided on the inputs: a change is backed up, whose intent reads, any other
-- answer leaves; or there was no memory.
abbrev pub DecidesTo : Runner → Inputs → State → Type 0
DecidesTo runner inputs (BackingUp walker answer) =
    (walker ≡ walk_of walker.change) × (walker.change.inputs ≡ inputs)
    × IsOfChange runner walker.change answer
    × ReadsIntent (intent_text (intended walker.change)) (intended walker.change)
DecidesTo runner inputs (Unlocking keeper answer) = (keeper ≡ inputs.keeper)
    × IsAnswerOn runner.asked inputs.files inputs.defs answer
    × (is_change (answer_on runner.asked inputs.files inputs.defs).cause ≡ false)
DecidesTo runner inputs (Answering answer) = answer ≡ memory_answer Before
DecidesTo runner inputs state = ⊥

-- the state after a read that leads on
abbrev pub LoadsTo : Runner → Loaded → State → Type 0
LoadsTo runner (More reader) state = state ≡ Loading reader
LoadsTo runner (Done inputs) state = DecidesTo runner inputs state

-- the state after a read that leads no further: a refusal leaves
abbrev pub EndsLoad : Tool → LoadEnd → State → Type 0
EndsLoad tool (Fault fault) state = AnswersWith tool (cause_of_fault fault.stage fault.fault) state
EndsLoad tool (TooLarge name keeper) state =
    LeavesWith tool keeper (IsTooLarge (File name)) state
EndsLoad tool (NoTable table keeper) state = LeavesWith tool keeper (HasNoTable table) state
