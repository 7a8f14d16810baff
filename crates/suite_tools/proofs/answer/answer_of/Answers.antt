-- The script of useradd comes with what it prints; groupadd prints nothing, whether its group exists or not;
-- and pwconv decides under whichever settings.
use Rattle.std.proofs.Common.{◌≡◌, ◌∙◌, ℕ, Bool, true, false, List, [], Option, Some, Result, Ok, Err, ap, refl, subst, sym}
use Rattle.std.specs.Prelude.{IsErr, if◌then◌else◌}
use Rattle.std.specs.Result.{IsErrAnd}
use Rattle.acct_text.specs.declared.files.Files.{Files}
use Rattle.account_model.specs.Action.{Action, changes, outcome_of}
use Rattle.account_model.specs.Change.{action_by}
use Rattle.account_model.specs.Groupadd.{groupadd_checks, groupadd_script, is_content}
use Rattle.account_model.specs.Request.{Request, operand}
use Rattle.account_model.specs.Settings.{Setting}
use Rattle.account_model.specs.Tables.{Script, no_edits}
use Rattle.account_model.specs.Useradd.{useradd}
use Rattle.account_model.specs.Conversion.{pwconv}
use Rattle.account_model.specs.Words.{is_batch, is_for_lines}
use Rattle.account_model.specs.declared.refusal.Refusal.{Refusal}
use Rattle.account_model.specs.declared.tool.Tool.{Tool}
use Rattle.account_model.specs.declared.tool.Tool.TheVariants.{Groupadd, Pwconv, Useradd}
use Rattle.login_defs.specs.Held.{HasSettings}
use Rattle.login_defs.specs.declared.defs.Defs.{Defs}
use Rattle.table_edits.specs.Acting.{ActsBy, IsOutputOf}
use Rattle.check_reports.specs.Decided.{DecidesBy}
use Rattle.tool_answers.specs.Decisions.{Decides}
use Rattle.tool_answers.specs.declared.tool_fault.ToolFault.{ToolFault}
use Rattle.tool_answers.specs.declared.tool_fault.ToolFault.TheVariants.{Memory, Refused}
use Rattle.suite_tools.specs.Carrying.{ActsUnder, AnswersUnder, IsOfAction}
use Rattle.suite_tools.specs.declared.answer.Answered.{Answered}
use Rattle.suite_tools.proofs.answer.answer_of.Goals as goal
use Rattle.account_model.specs.Text.{first_some}

-- what holds of the action of a tool holds of the request's, whose tool it is
acts :
    (defs : Defs) (day : ℕ) (request : Request) (input : List ℕ) (tables : Files) (tool : Tool)
    (Acts : Action → Type 0)
    → request.tool ≡ tool
    → is_batch tool ≡ false
    → ((settings : List Setting) → HasSettings defs settings
    → Acts (action_by tool request input day tables settings))
    → ActsUnder defs day request input tables Acts
acts defs day request input tables tool Acts is plain each = (
  ap is_batch is ∙ plain,
  λ settings holds.
      subst (λ (one : Tool). Acts (action_by one request input day tables settings)) (sym is)
      (each settings holds),
)

-- by whether the group exists
quiet :
    (tool : Tool) (exists : Bool) (checks all : List (Option Refusal)) (script : Script)
    → IsOutputOf tool (if exists then changes checks no_edits else changes all script)
    (record { status = 0; out = []; err = [] })
quiet tool true checks all script = record { status = refl; output = refl; notices = refl }
quiet tool false checks all script = record { status = refl; output = refl; notices = refl }

-- the fault of useradd's script is its first refusal, or want of memory
faulty :
    (defs : Defs) (day : ℕ) (request : Request) (input : List ℕ) (files tables : Files)
    (fault : ToolFault) (result : Result Answered ToolFault)
    → request.tool ≡ Useradd
    → ((settings : List Setting) → HasSettings defs settings
    → ActsBy (useradd request tables settings day) (Err fault))
    → IsErr result
    → IsErrAnd result (λ found. found ≡ fault)
    → AnswersUnder defs day request input files tables result
faulty defs day request input files tables fault (Ok answered) is told is_err same =
    absurd (cc is_err)
faulty defs day request input files tables fault (Err found) is told is_err same =
    subst (λ (one : ToolFault). AnswersUnder defs day request input files tables (Err one))
    (sym same) (by fault told)
  where
    by :
        (one : ToolFault)
        → ((settings : List Setting) → HasSettings defs settings
        → ActsBy (useradd request tables settings day) (Err one))
        → AnswersUnder defs day request input files tables (Err one)
    by (Refused refusal) stops =
        acts defs day request input tables Useradd
        (λ action. first_some action.refusals ≡ Some refusal) is refl stops
    by Memory stops = tt

pub returns-in_err-script-in-Useradd : goal.returns-in_err-script-in-Useradd
returns-in_err-script-in-Useradd c =
    faulty c.args.defs.now c.args.day c.args.asked.now c.args.input.now c.args.files.now
    c.args.tables.now c.in_err-script-in-Useradd.field-0.0 c.from_residual.result
    (sym c.tool.ensures ∙ c.in-Useradd.is)
    (c.in_err-script-in-Useradd.ensures {u = tt}) c.from_residual.ensures.0
    c.from_residual.ensures.1

pub returns-in_ok-output-in-Useradd : goal.returns-in_ok-output-in-Useradd
returns-in_ok-output-in-Useradd c =
    acts c.args.defs.now c.args.day c.args.asked.now c.args.input.now c.args.tables.now Useradd
    (IsOfAction c.args.asked.now.tool c.in_ok-script-in-Useradd.script c.in_ok-output-in-Useradd.output)
    (sym c.tool.ensures ∙ c.in-Useradd.is) refl (λ settings holds.
    let scripted = c.in_ok-script-in-Useradd.ensures settings holds in
    (scripted, c.in_ok-output-in-Useradd.ensures settings c.args.day scripted))

pub returns-in_ok-groupadd-in-Groupadd : goal.returns-in_ok-groupadd-in-Groupadd
returns-in_ok-groupadd-in-Groupadd c =
    let asked = c.args.asked.now in
    let tables = c.args.tables.now in
    subst (λ (one : Answered). AnswersUnder c.args.defs.now c.args.day asked c.args.input.now
    c.args.files.now tables (Ok one)) (sym c.quietly-in-Groupadd.ensures)
    (acts c.args.defs.now c.args.day asked c.args.input.now tables Groupadd
    (IsOfAction asked.tool c.in_ok-groupadd-in-Groupadd.field-0
    (record { status = 0; out = []; err = [] }))
    (sym c.tool.ensures ∙ c.in-Groupadd.is) refl (λ settings holds. (
      c.in_ok-groupadd-in-Groupadd.ensures settings holds,
      quiet asked.tool (is_content (operand asked) asked tables) (groupadd_checks (operand asked) asked) _
          (groupadd_script (operand asked) asked tables settings),
    )))

pub returns-in_ok-pwconv-in-Pwconv : goal.returns-in_ok-pwconv-in-Pwconv
returns-in_ok-pwconv-in-Pwconv c =
    let asked = c.args.asked.now in
    let files = c.args.files.now in
    let decision = c.in_ok-pwconv-in-Pwconv.field-0 in
    let is = sym c.tool.ensures ∙ c.in-Pwconv.is in (
      ap is_for_lines is,
      acts c.args.defs.now c.args.day asked c.args.input.now files Pwconv
          (λ action. Decides asked.tool files (outcome_of action files) decision) is refl
          (λ settings holds.
          subst (λ (tool : Tool). DecidesBy tool (pwconv files settings c.args.day) files decision)
          c.tool-in-Pwconv.ensures (c.in_ok-pwconv-in-Pwconv.ensures settings holds)),
    )
