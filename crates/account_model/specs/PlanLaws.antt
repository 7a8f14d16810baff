-- What a plan answers beside its command.
use Rattle.std.specs.Prelude.{◌≡◌, ℕ, List, Option, Some, None}
use Rattle.acct_text.specs.declared.files.Files.{Files}
use Rattle.account_model.specs.declared.plan_form.PlanForm.{PlanForm}
use Rattle.account_model.specs.Request.{Request}
use Rattle.account_model.specs.Answer.{Answer, answer, deed, planned, planned_cause}

-- the request as a plan, or as a command that is carried out
abbrev pub planned_by : Option PlanForm → Request → Request
planned_by plan request = record request { plan = plan }

-- the plan answers as the command does, but that it changes nothing, and tells what would change
pub record AnswersAlike (form : PlanForm) (files : Files) (plan command : Answer) : Type 0 where
  pub status : plan.status ≡ command.status
  pub message : plan.error ≡ command.error
  pub cause : plan.cause ≡ planned_cause command.cause
  pub whole : plan ≡ planned form files command

-- so it is with each plan and its command, on whatever files
abbrev pub PlansAnswerAlike : Type 0
PlansAnswerAlike =
    (form : PlanForm) (request : Request) (input : List ℕ) (day : ℕ) (files : Files)
    (defs : Option (List ℕ))
    → AnswersAlike form files (answer (planned_by (Some form) request) input day files defs)
    (answer (planned_by None request) input day files defs)

-- and no plan has a deed
abbrev pub PlansHaveNoDeed : Type 0
PlansHaveNoDeed =
    (form : PlanForm) (request : Request) (input : List ℕ) (day : ℕ) (files : Files)
    (defs : Option (List ℕ))
    → deed (planned_by (Some form) request) input day files defs ≡ None
