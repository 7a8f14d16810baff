-- What a plan answers beside its command, at its place in a lawful history (docs/ARCHITECTURE.md, "Reports").
use Rattle.std.specs.Prelude.{◌≡◌, [], ℕ, Option, Some}
use Rattle.acct_text.specs.Bytes.{Bytes}
use Rattle.acct_text.specs.declared.files.Files.{Files}
use Rattle.acct_outside.specs.Tokens.{Token}
use Rattle.acct_outside.specs.Folder.{Folder, settings_file}
use Rattle.acct_outside.specs.History.{History}
use Rattle.account_model.specs.declared.plan_form.PlanForm.{PlanForm}
use Rattle.account_model.specs.Answer.{Answer as ToolAnswer, answer, planned_cause, plan_output}
use Rattle.account_model.specs.Request.{carried_out}
use Rattle.account_model.specs.SeenFiles.{seen_files}
use Rattle.suite_rules.specs.Deeds.{SuiteDeeds}
use Rattle.suite_rules.specs.Standing.{standing}
use Rattle.suite_rules.specs.Committed.{committed, commitments_of, place, folded}
use Rattle.suite_answers.specs.declared.answer.Answer.{Answer}
use Rattle.suite_session.specs.Runner.{Question}
use Rattle.suite_session.specs.Reports.{RunsFree}
use Rattle.suite_session.specs.Answers.{cause_of_answer}
use Rattle.suite_session.specs.Deeds.{files_of}
use Rattle.suite_session.specs.Stands.{IsDecided}
use Rattle.suite_course.specs.Shows.{HasShownBelow}

-- what the command of a plan answers on these files and this login.defs, were it carried out
abbrev pub command_on : Question → Files → Option Bytes → ToolAnswer
command_on asked files defs =
    answer (carried_out asked.request) asked.command.input asked.command.day files defs

-- The answer is a plan's, by its command's on the same files. Status and message are those of the command.
-- The output is what the command prints, followed by what would change, or an object that holds both. The
-- cause is the command's too, but that a change is none.
pub record IsPlanOf (form : PlanForm) (files : Files) (command : ToolAnswer) (given : Answer)
    : Type 0 where
  pub status : given.outcome.status ≡ command.status
  pub message : given.err ≡ command.error
  pub output : given.out ≡ plan_output form files command
  pub cause : given.outcome.cause ≡ cause_of_answer (planned_cause command.cause)

-- so it is on what the command sees of the files
abbrev pub IsPlanOn : PlanForm → Question → Files → Option Bytes → Answer → Type 0
IsPlanOn form asked files defs given = let seen = seen_files asked.request files
    in IsPlanOf form seen (command_on asked seen defs) given

-- The session took no lock and has committed nothing. Its answer is the plan's on the fold of the place of
-- the number above the greatest lock that it showed, under the first login.defs.
pub record HasPlanned (deeds : SuiteDeeds) (form : PlanForm) (asked : Question) (first : Folder)
    (history : History) (token : Token) (given : Answer) : Type 0 where
  pub number : ℕ
  pub has_shown : HasShownBelow (standing token history) number
  pub none : commitments_of token (committed history) ≡ []
  pub at_place : IsPlanOn form asked
      (files_of (folded deeds first (place number (committed history)))) (settings_file first) given

-- the own events of a plan change no name, and where its tool decided it answers by its command's answer
pub record PlanIsExact (deeds : SuiteDeeds) (form : PlanForm) (asked : Question) (first : Folder)
    (history : History) (token : Token) (given : Answer) : Type 0 where
  pub runs : RunsFree token history
  pub decided : IsDecided given.outcome.cause →
      HasPlanned deeds form asked first history token given

-- so it is with a command that is a plan
abbrev pub IfPlansExactly : SuiteDeeds → Question → Folder → History → Token → Answer → Type 0
IfPlansExactly deeds asked first history token given = (form : PlanForm) →
    asked.request.plan ≡ Some form → PlanIsExact deeds form asked first history token given
