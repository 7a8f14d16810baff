-- The decision of a plan, by that of its command: no table changes, and what is printed tells of it.
use Rattle.acct_text.specs.declared.files.Files.{Files}
use Rattle.account_model.specs.declared.plan_form.PlanForm.{PlanForm}
use Rattle.account_model.specs.PlanTexts.{plan_text}
use Rattle.tool_answers.specs.declared.decision.Output.{Output}
use Rattle.tool_answers.specs.declared.decision.Decision.{Decision}
use Rattle.tool_answers.specs.declared.decision.Decision.TheVariants.{Change, Same, Refuse, RefuseLine}
use Rattle.plan_tool.specs.SeenChanges.{files_with}

-- what a plan prints of a change from old files to new ones, whose command prints this
abbrev pub planned_output : PlanForm → Files → Files → Output → Output
planned_output form old new output = record {
  status = output.status;
  out = plan_text form old new output.status output.out output.err;
  err = output.err;
}

-- the decision of the plan
abbrev pub planned_decision : PlanForm → Files → Decision → Decision
planned_decision form files (Change news output) =
    Same (planned_output form files (files_with news files) output)
planned_decision form files (Same output) = Same (planned_output form files files output)
planned_decision form files (Refuse refusal output) =
    Refuse refusal (planned_output form files files output)
planned_decision form files (RefuseLine number refusal output) =
    RefuseLine number refusal (planned_output form files files output)
