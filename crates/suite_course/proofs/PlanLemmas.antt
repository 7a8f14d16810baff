-- Claim: the own events of a plan change no name, and where its tool decided it answers by its command's
-- answer at its place (`plans-exactly`).
-- Way: a plan is a report, so it took no lock; its tool's answer is that of its command as it is planned, as
-- no tool looks at the plan (`answers-alike`); and what is planned is never a change (`never-changed`).
use Rattle.std.proofs.Common.{◌≡◌, refl, sym, ap, ◌∙◌, true, Option, Some}
use Rattle.std.specs.Prelude.{◌||◌, is_some}
use Rattle.acct_text.specs.Bytes.{Bytes}
use Rattle.acct_text.specs.declared.files.Files.{Files}
use Rattle.acct_outside.specs.declared.Name.TheVariants.{Table, Defs}
use Rattle.acct_outside.specs.Tokens.{Token}
use Rattle.acct_outside.specs.Folder.{Folder}
use Rattle.acct_outside.specs.History.{History}
use Rattle.account_model.specs.declared.plan_form.PlanForm.{PlanForm}
use Rattle.account_model.specs.Answer.{TableTooLarge, AnswerCause, Unusable, Answer as ToolAnswer, answer, planned, planned_cause}
use Rattle.account_model.specs.PlanLaws.{planned_by}
use Rattle.account_model.specs.Request.{is_report, reports}
use Rattle.account_model.specs.Rows.{row_of}
use Rattle.account_model.proofs.PlanLaws.{answers-alike}
use Rattle.suite_rules.specs.Deeds.{SuiteDeeds}
use Rattle.suite_answers.specs.declared.cause.Which.TheVariants.{File}
use Rattle.suite_answers.specs.declared.cause.Cause.{Cause}
use Rattle.suite_answers.specs.declared.cause.Cause.TheVariants.{Changed, Same, Refused, RefusedLine, NoTable, BadSetting, TooLarge}
use Rattle.suite_answers.specs.declared.answer.Answer.{Answer}
use Rattle.suite_session.specs.Runner.{Question}
use Rattle.suite_session.specs.Reports.{RunsFree}
use Rattle.suite_session.specs.Answers.{IsAnswerOn, answer_on, cause_of_answer}
use Rattle.suite_session.specs.Stands.{IsDecided}
use Rattle.suite_course.specs.Plans.{HasPlanned, IfPlansExactly, IsPlanOf, command_on}
use Rattle.suite_course.specs.Shows.{HasStayed, IsShownAt}

-- what is planned is never a change
never-changed : (cause : AnswerCause) → cause_of_answer (planned_cause cause) ≡ Changed → ⊥
never-changed (Unusable (TableTooLarge table)) is = absurd (cc)
never-changed cause is = absurd (cc)

module _ (form : PlanForm) (asked : Question) (is_plan : asked.request.plan ≡ Some form) where
  -- a plan is a report
  plan-reports : is_report asked.request ≡ true
  plan-reports = ap (λ (plan : Option PlanForm).
      is_some plan || reports (row_of asked.request.tool).reporting asked.request) is_plan

  -- its answer is that of its command, as it is planned
  plan-on : (files : Files) (defs : Option Bytes) →
      answer_on asked files defs ≡ planned form files (command_on asked files defs)
  plan-on files defs = ap (λ (plan : Option PlanForm).
      answer (planned_by plan asked.request) asked.command.input asked.command.day files defs)
      is_plan
      ∙ (answers-alike form asked.request asked.command.input asked.command.day files defs).whole

  -- so is the session's
  planned-on : (files : Files) (defs : Option Bytes) (given : Answer) →
      IsAnswerOn asked files defs given → IsPlanOf form files (command_on asked files defs) given
  planned-on files defs given is =
      let same = plan-on files defs in
      record {
        status = is.has_status ∙ ap (λ (one : ToolAnswer). one.status) same;
        message = is.has_err ∙ ap (λ (one : ToolAnswer). one.error) same;
        output = is.has_out ∙ ap (λ (one : ToolAnswer). one.output) same;
        cause = is.has_cause ∙ ap (λ (one : ToolAnswer). cause_of_answer one.cause) same;
      }

  module _ (deeds : SuiteDeeds) (first : Folder) (history : History) (token : Token)
      (given : Answer) where
    -- one that stayed took no lock
    stayed-planned : HasStayed deeds asked first history token given →
        HasPlanned deeds form asked first history token given
    stayed-planned stayed = record {
      number = stayed.number;
      has_shown = stayed.has_number.report plan-reports;
      none = stayed.none;
      at_place = planned-on _ _ given stayed.at_place;
    }

    -- where its tool decided it stayed
    decided-planned : (cause : Cause) → given.outcome.cause ≡ cause → IsDecided cause →
        IsShownAt deeds asked first history token given cause →
        HasPlanned deeds form asked first history token given
    decided-planned Changed is decided changed =
        absurd (never-changed _ (sym (planned-on _ _ given changed.at_place).cause ∙ is))
    decided-planned Same is decided stayed = stayed-planned stayed
    decided-planned (Refused refusal) is decided stayed = stayed-planned stayed
    decided-planned (RefusedLine line refusal) is decided stayed = stayed-planned stayed
    decided-planned (NoTable table) is decided stayed = stayed-planned stayed
    decided-planned (BadSetting line) is decided stayed = stayed-planned stayed
    decided-planned (TooLarge (File (Table table))) is decided stayed = stayed-planned stayed
    decided-planned (TooLarge (File Defs)) is decided stayed = stayed-planned stayed
    decided-planned cause is decided shown = absurd decided

-- the claim
pub plans-exactly : (deeds : SuiteDeeds) (asked : Question) (first : Folder) (history : History)
    (token : Token) (given : Answer) →
    (is_report asked.request ≡ true → RunsFree token history) →
    IsShownAt deeds asked first history token given given.outcome.cause →
    IfPlansExactly deeds asked first history token given
plans-exactly deeds asked first history token given free shown form is_plan = record {
  runs = free (plan-reports form asked is_plan);
  decided = λ decided. decided-planned form asked is_plan deeds first history token given
      given.outcome.cause refl decided shown;
}
