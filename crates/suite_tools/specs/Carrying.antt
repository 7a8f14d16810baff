-- What a tool has to answer, and a command to do with the tables ("EXIT VALUES" of each page; the actions
-- are those of account_model/specs/Change).
use Rattle.std.specs.Prelude.{◌≡◌, ⊤, ℕ, false, List, Some, Result, Ok, Err, IsOkAnd}
use Rattle.acct_text.specs.declared.files.Files.{Files}
use Rattle.account_model.specs.declared.refusal.Refusal.{Refusal}
use Rattle.account_model.specs.Action.{Action, Made, outcome_of}
use Rattle.account_model.specs.Batch.{Written, written_by}
use Rattle.account_model.specs.Change.{action_of}
use Rattle.account_model.specs.declared.tool.Tool.{Tool}
use Rattle.account_model.specs.declared.tool.Tool.TheVariants.{Batch}
use Rattle.account_model.specs.Request.{Request}
use Rattle.account_model.specs.Settings.{Setting}
use Rattle.account_model.specs.Text.{first_some}
use Rattle.account_model.specs.Words.{is_batch, is_for_lines}
use Rattle.tool_answers.specs.Decisions.{Decides}
use Rattle.tool_answers.specs.declared.decision.Decision.{Decision}
use Rattle.tool_answers.specs.declared.decision.Output.{Output}
use Rattle.tool_answers.specs.declared.tool_fault.ToolFault.{ToolFault}
use Rattle.tool_answers.specs.declared.tool_fault.ToolFault.TheVariants.{Refused, Memory}
use Rattle.login_defs.specs.declared.defs.Defs.{Defs}
use Rattle.login_defs.specs.Held.{HasSettings}
use Rattle.table_edits.specs.Acting.{IsOutputOf, IsScriptOf}
use Rattle.carried_tables.specs.Changes.{UneditedStay}
use Rattle.carried_tables.specs.declared.script.Script.{Script}
use Rattle.suite_tools.specs.declared.carry.Carried.{Carried}
use Rattle.suite_tools.specs.declared.answer.Answered.{Answered}
use Rattle.suite_tools.specs.declared.answer.Answered.TheVariants.{Edits, Decides as DecidesAlone, Lines}

-- ---- The tool

-- the script and the output are of this action of the tool, of which no refusal is there
abbrev pub IsOfAction : Tool → Script → Output → Action → Type 0
IsOfAction tool script output action = IsScriptOf action script × IsOutputOf tool action output

-- on this day a tool that is no batch is about to make this of the tables, whichever settings the values
-- are those of
abbrev pub ActsUnder : Defs → ℕ → Request → List ℕ → Files → (Action → Type 0) → Type 0
ActsUnder defs day request input tables Acts = (is_batch request.tool ≡ false)
    × ((settings : List Setting) → HasSettings defs settings
    → Acts (action_of request input day tables settings))

-- The tool answers so on these tables: with the script of its action and what it prints, or with its
-- first refusal. One that looks through whole tables decides on these files, and a batch leaves it to its
-- lines; no line asks for these. Want of memory may come anywhere.
abbrev pub AnswersUnder :
    Defs → ℕ → Request → List ℕ → Files → Files → Result Answered ToolFault → Type 0
AnswersUnder defs day request input files tables (Ok (Edits script output)) =
    ActsUnder defs day request input tables (IsOfAction request.tool script output)
AnswersUnder defs day request input files tables (Ok (DecidesAlone decision)) =
    (is_for_lines request.tool ≡ false) × ActsUnder defs day request input files
    (λ action. Decides request.tool files (outcome_of action files) decision)
AnswersUnder defs day request input files tables (Ok Lines) = request.tool ≡ Batch
AnswersUnder defs day request input files tables (Err (Refused refusal)) =
    ActsUnder defs day request input tables (λ action. first_some action.refusals ≡ Some refusal)
AnswersUnder defs day request input files tables (Err Memory) = ⊤

-- ---- The tables

-- the script of an action of the tool, which prints this, decides so on the files
abbrev pub EditsDecide : Tool → Files → Script → Output → Decision → Type 0
EditsDecide tool files script output decision = (action : Action)
    → IsOfAction tool script output action
    → Decides tool files (outcome_of action files) decision

-- these files are left, and this is printed
abbrev pub written_with : Files → Output → Written
written_with files output = record {
  files = files;
  status = output.status;
  output = output.out;
  error = output.err;
}

-- by the outcome of its tool a command is carried out, and leaves each table but those that it touches,
-- or it refuses and leaves the files as they were;
-- want of memory may come anywhere
abbrev pub IsCarriedOut :
    Tool → Result Made Refusal → Files → Files → Result Carried ToolFault → Type 0
IsCarriedOut tool outcome old new (Ok carried) =
    IsOkAnd outcome (λ made. written_by tool made ≡ written_with new carried.output)
    × UneditedStay carried.touched old new
IsCarriedOut tool outcome old new (Err (Refused refusal)) =
    (outcome ≡ Err refusal) × (new ≡ old)
IsCarriedOut tool outcome old new (Err Memory) = ⊤

-- the tool carries out the request on these files, whichever settings the values are those of
abbrev pub CarriesUnder :
    Defs → ℕ → Request → List ℕ → Files → Files → Result Carried ToolFault → Type 0
CarriesUnder defs day request input old new result =
    (settings : List Setting) → HasSettings defs settings → IsCarriedOut request.tool
    (outcome_of (action_of request input day old settings) old) old new result
