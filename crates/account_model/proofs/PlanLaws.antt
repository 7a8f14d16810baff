-- Claim: a plan answers as its command does, but that it changes nothing (`answers-alike`), and has no deed (`no-deed`).
-- Way: no tool looks at the plan (`tool-blind`), so what the plan goes by is the answer to its command; and what is
-- planned has no new files (`none-planned`).
use Rattle.std.proofs.Common.{◌≡◌, ℕ, Bool, true, false, List, [], refl, ap}
use Rattle.std.specs.Prelude.{Option, Some, None, if◌then◌else◌, unwrap_or}
use Rattle.acct_text.specs.declared.files.Files.{Files}
use Rattle.account_model.specs.declared.plan_form.PlanForm.{PlanForm}
use Rattle.account_model.specs.declared.tool.Tool.{Tool}
use Rattle.account_model.specs.declared.tool.Tool.TheVariants.{Useradd}
use Rattle.account_model.specs.Settings.{Setting, settings_of}
use Rattle.account_model.specs.Request.{Request}
use Rattle.account_model.specs.Action.{Action, outcome_of}
use Rattle.account_model.specs.Change.{action_by}
use Rattle.account_model.specs.Batch.{batch, ensures}
use Rattle.account_model.specs.BatchLines.{line_requests}
use Rattle.account_model.specs.Words.{is_batch}
use Rattle.account_model.specs.Answer.{Answer, AnswerCause, Changed, answer_asked, answer_lines, answer_outcome, command_answer, files_problem, is_faulty_batch, new_files, planned, planned_cause, unusable}
use Rattle.account_model.specs.PlanLaws.{PlansAnswerAlike, PlansHaveNoDeed, planned_by}

-- ---- No new files

-- what is planned makes no new files
none-planned : (cause : AnswerCause) → new_files (planned_cause cause) ≡ None
none-planned (Changed files) = refl
none-planned cause = refl

-- so what an answer changes, the answer to its command does
pub asked-changes :
    (plan : Option PlanForm) (old new : Files) (made : Answer)
    → new_files (answer_asked plan old made).cause ≡ Some new
    → new_files made.cause ≡ Some new
asked-changes None old new made e = e
asked-changes (Some form) old new made e =
    let none = none-planned made.cause in absurd (cc)

-- a plan has no deed
pub no-deed : PlansHaveNoDeed
no-deed form request input day files defs = by (is_faulty_batch request input)
  where
    made : Answer
    made = command_answer (planned_by (Some form) request) input day files defs

    by : (faulty : Bool) → (if faulty then None else new_files (planned form files made).cause) ≡ None
    by true = refl
    by false = none-planned made.cause

-- ---- The same answer

-- no tool looks at the plan; the last line stands for each other tool
tool-blind :
    (tool : Tool) (plan : Option PlanForm) (request : Request) (input : List ℕ) (day : ℕ)
    (files : Files) (settings : List Setting)
    → action_by tool (planned_by plan request) input day files settings
    ≡ action_by tool (planned_by None request) input day files settings
tool-blind Useradd plan request input day files settings = refl
tool-blind tool plan request input day files settings = refl

-- so the answer to its command is the same
same-command :
    (plan : Option PlanForm) (request : Request) (input : List ℕ) (day : ℕ) (files : Files)
    (defs : Option (List ℕ))
    → command_answer (planned_by plan request) input day files defs
    ≡ command_answer (planned_by None request) input day files defs
same-command plan request input day files defs =
    let settings = settings_of (unwrap_or defs []) in
    ap (λ (action : Action). elim (files_problem files defs) as (λ problem. Answer) [
      | Some problem ↦ unusable request.tool problem
      | None ↦ if is_batch request.tool
          then answer_lines files (batch (ensures request) (line_requests input) day settings files)
          else answer_outcome request.tool files (outcome_of action files)
    ])
    (tool-blind request.tool plan request input day files settings)

-- the claim
pub answers-alike : PlansAnswerAlike
answers-alike form request input day files defs =
    let same = ap (planned form files) (same-command (Some form) request input day files defs) in
    record {
      status = ap (λ (told : Answer). told.status) same;
      message = ap (λ (told : Answer). told.error) same;
      cause = ap (λ (told : Answer). told.cause) same;
      whole = same;
    }
