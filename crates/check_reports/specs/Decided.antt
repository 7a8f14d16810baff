-- What a tool of checks has to decide (pwck(8), grpck(8), getsubids(1)).
use Rattle.acct_text.specs.declared.files.Files.{Files}
use Rattle.account_model.specs.declared.tool.Tool.{Tool}
use Rattle.account_model.specs.Action.{Action, outcome_of}
use Rattle.tool_answers.specs.Decisions.{Decides}
use Rattle.tool_answers.specs.declared.decision.Decision.{Decision}

-- the decision is what the action makes of the files
abbrev pub DecidesBy : Tool → Action → Files → Decision → Type 0
DecidesBy tool action files decision = Decides tool files (outcome_of action files) decision
