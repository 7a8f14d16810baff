-- Claim: the answer to a report is no change, on whatever files (`report-stays`).
-- Way: a plan changes nothing. What any other answer changes is made by its tool and differs from the old, but a
-- report has no edits (`report` of `LawfulAct`), so its tables stay. A batch is no report, also where each of its lines
-- asks for one (`report-single`).
use Rattle.std.proofs.Common.{◌≡◌, refl, sym, ap, ◌∙◌, ℕ, true, false, List, [], Option, Some, inl, inr, true≢false}
use Rattle.std.specs.Prelude.{◌||◌, None, is_some, unwrap_or}
use Rattle.acct_text.specs.Bytes.{Bytes}
use Rattle.acct_text.specs.declared.files.Files.{Files}
use Rattle.account_model.specs.Tables.{Script, files_after}
use Rattle.account_model.proofs.NoEdits.{files-stay}
use Rattle.account_model.proofs.ToolLaws.{meaning}
use Rattle.account_model.specs.declared.plan_form.PlanForm.{PlanForm}
use Rattle.account_model.specs.declared.tool.Tool.{Tool}
use Rattle.account_model.specs.declared.tool.Tool.TheVariants.{Batch}
use Rattle.account_model.specs.Options.{Word}
use Rattle.account_model.specs.Request.{Request, is_report, reports as is_reporting}
use Rattle.account_model.specs.Rows.{row_of}
use Rattle.account_model.specs.Settings.{Setting, settings_of}
use Rattle.account_model.specs.Words.{Asks, is_batch}
use Rattle.account_model.specs.Action.{Action, Made}
use Rattle.account_model.specs.Change.{action_of}
use Rattle.account_model.specs.Answer.{AnswerCause, Changed, answer, answer_asked, command_answer, files_eq, new_files, planned_cause}
use Rattle.account_model.proofs.BatchLaws.{outcome-made}
use Rattle.account_model.proofs.DeedLaws.{changes-differ, changes-makes}
use Rattle.suite_answers.proofs.ChangeLemmas.{same-files}
use Rattle.suite_session.specs.Answers.{answer_on}
use Rattle.suite_session.specs.Deeds.{is_change}
use Rattle.suite_session.specs.Runner.{Question}

-- a batch is no report
report-single : (tool : Tool) (request : Request) → is_reporting (row_of tool).reporting request ≡ true →
    is_batch tool ≡ false
report-single Batch request is = absurd (true≢false (sym is))
report-single _ request is = refl

-- a plan is no change
plan-stays : (cause : AnswerCause) → is_change (planned_cause cause) ≡ false
plan-stays (Changed files) = refl
plan-stays cause = refl

-- the answer to a report is no change
pub report-stays : (words : List Word) (request : Request) (input : Bytes) (day : ℕ) (files : Files)
    (defs : Option Bytes) → Asks words request → is_report request ≡ true →
    is_change (answer request input day files defs).cause ≡ false
report-stays words request input day files defs asks = by-plan request.plan refl
  where
    settings : List Setting
    settings = settings_of (unwrap_or defs [])

    action : Action
    action = action_of request input day files settings

    changes : is_reporting (row_of request.tool).reporting request ≡ true → (new : Files) →
        new_files (answer request input day files defs).cause ≡ Some new → ⊥
    changes is new e = elim (changes-makes request input day files defs new e) [
      | inl by_lines ↦ true≢false (sym by_lines.is ∙ report-single request.tool request is)
      | inr by_tool ↦
          let made : files_after action.script files ≡ new =
          ap (λ (one : Made). one.files)
          (outcome-made action files by_tool.made by_tool.outcome).makes ∙ by_tool.files
          in let none = (meaning request.tool request input day files settings).report
          asks.command.rules is
          in let stay : files ≡ new = sym (ap (λ (script : Script). files_after script files) none
          ∙ files-stay files) ∙ made
          in true≢false (sym (same-files files) ∙ ap (files_eq files) stay
          ∙ changes-differ request input day files defs new e)
    ]

    by : (cause : AnswerCause) → ((new : Files) → new_files cause ≡ Some new → ⊥) →
        is_change cause ≡ false
    by (Changed new) never = absurd (never new refl)
    by cause never = refl

    by-plan : (plan : Option PlanForm) → request.plan ≡ plan →
        (is_some plan || is_reporting (row_of request.tool).reporting request) ≡ true →
        is_change (answer request input day files defs).cause ≡ false
    by-plan (Some form) planned is = ap (λ (plan : Option PlanForm). is_change (answer_asked plan files
        (command_answer request input day files defs)).cause) planned
        ∙ plan-stays (command_answer request input day files defs).cause
    by-plan None carried is = by (answer request input day files defs).cause (changes is)

-- so no tool decides a change of one
pub report-unchanging : (asked : Question) → Asks asked.command.words asked.request →
    is_report asked.request ≡ true → (files new : Files) (defs : Option Bytes) →
    (answer_on asked files defs).cause ≡ Changed new → ⊥
report-unchanging asked asks is files new defs changed = true≢false
    (sym (ap is_change changed) ∙ report-stays asked.command.words asked.request
    asked.command.input asked.command.day files defs asks is)
