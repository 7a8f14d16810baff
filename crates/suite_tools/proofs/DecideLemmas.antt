-- Claim: a command decides what its tool answers: the tables that its edits make, what it decides alone,
-- its refusal, or what its lines decide.
use Rattle.std.proofs.Common.{◌≡◌, ◌∙◌, ℕ, List, ap, subst, sym}
use Rattle.std.specs.Prelude.{Some, Result, Ok, Err}
use Rattle.acct_text.specs.declared.files.Files.{Files}
use Rattle.account_model.specs.declared.refusal.Refusal.{Refusal}
use Rattle.account_model.specs.declared.tool.Tool.TheVariants.{Batch}
use Rattle.account_model.specs.Action.{Action, outcome_of}
use Rattle.account_model.specs.Batch.{ensures}
use Rattle.account_model.specs.Change.{action_of}
use Rattle.account_model.specs.Request.{Request}
use Rattle.account_model.specs.Text.{first_some}
use Rattle.account_model.specs.Words.{is_batch}
use Rattle.login_defs.specs.declared.defs.Defs.{Defs}
use Rattle.tool_answers.specs.Decisions.{decision_of, refusal_output}
use Rattle.tool_answers.specs.declared.decision.Decision.{Decision}
use Rattle.tool_answers.specs.declared.decision.Decision.TheVariants.{Refuse}
use Rattle.tool_answers.specs.declared.decision.Output.{Output}
use Rattle.tool_answers.specs.declared.tool_fault.ToolFault.{ToolFault}
use Rattle.tool_answers.specs.declared.tool_fault.ToolFault.TheVariants.{Refused}
use Rattle.carried_tables.specs.declared.script.Script.{Script}
use Rattle.suite_tools.specs.Carrying.{AnswersUnder, EditsDecide}
use Rattle.suite_tools.specs.Deciding.{CommandDecides, LinesDecideUnder}
use Rattle.suite_tools.specs.declared.answer.Answered.{Answered}
use Rattle.suite_tools.specs.declared.answer.Answered.TheVariants.{Edits, Decides as DecidesAlone}

-- an action with a refusal comes to the first
refused :
    (action : Action) (files : Files) (refusal : Refusal)
    → first_some action.refusals ≡ Some refusal
    → outcome_of action files ≡ Err refusal
refused action files refusal is = rw (is, outcome_of)

module _ (defs : Defs) (day : ℕ) (request : Request) (input : List ℕ) (files : Files) where
  -- what is answered on tables that are the files is answered on these
  pub on-files :
      (was : Request) (read : List ℕ) (tables : Files) (answered other : Result Answered ToolFault)
      → was ≡ request
      → read ≡ input
      → tables ≡ files
      → answered ≡ other
      → AnswersUnder defs day was read files tables answered
      → AnswersUnder defs day request input files files other
  on-files was read tables answered other is_request is_input are is answers =
      subst (λ (one : Result Answered ToolFault).
      AnswersUnder defs day request input files files one)
      is
      (subst (λ (one : Request). AnswersUnder defs day one input files files answered) is_request
      (subst (λ (one : List ℕ). AnswersUnder defs day was one files files answered) is_input
      (subst (λ (one : Files). AnswersUnder defs day was read files one answered) are answers)))

module _ (defs : Defs) (day : ℕ) (request : Request) (input : List ℕ) (files : Files)
    (decision : Decision) where
  -- by its edits
  pub edits-decide :
      (script : Script) (output : Output)
      → AnswersUnder defs day request input files files (Ok (Edits script output))
      → EditsDecide request.tool files script output decision
      → CommandDecides defs day request input files decision
  edits-decide script output answers decides settings holds =
      rw answers.0 (decides (action_of request input day files settings) (answers.1 settings holds))

  -- alone
  pub alone-decides :
      AnswersUnder defs day request input files files (Ok (DecidesAlone decision))
      → CommandDecides defs day request input files decision
  alone-decides answers settings holds = rw answers.1.0 (answers.1.1 settings holds)

  -- by its refusal
  pub refusal-decides :
      (refusal : Refusal)
      → AnswersUnder defs day request input files files (Err (Refused refusal))
      → decision ≡ Refuse refusal (refusal_output request.tool refusal)
      → CommandDecides defs day request input files decision
  refusal-decides refusal answers is settings holds =
      rw answers.0 (is ∙ ap (decision_of request.tool files)
      (sym (refused (action_of request input day files settings) files refusal
      (answers.1 settings holds))))

  -- by its lines
  pub lines-decide :
      request.tool ≡ Batch
      → LinesDecideUnder (ensures request) defs day input files decision
      → CommandDecides defs day request input files decision
  lines-decide is decides settings holds = rw (ap is_batch is) (decides settings holds)
