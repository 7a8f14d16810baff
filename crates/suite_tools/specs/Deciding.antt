-- What a command decides on the tables: a batch as its lines say, one after another, and any other
-- command as its tool says.
use Rattle.std.specs.Prelude.{◌≡◌, ℕ, Bool, List, if◌then◌else◌}
use Rattle.acct_text.specs.declared.files.Files.{Files}
use Rattle.account_model.specs.BatchLines.{line_requests}
use Rattle.account_model.specs.Request.{Request}
use Rattle.account_model.specs.Settings.{Setting}
use Rattle.account_model.specs.Words.{is_batch}
use Rattle.account_model.specs.Action.{outcome_of}
use Rattle.account_model.specs.Batch.{batch, ensures}
use Rattle.account_model.specs.Change.{action_of}
use Rattle.login_defs.specs.declared.defs.Defs.{Defs}
use Rattle.login_defs.specs.Held.{HasSettings}
use Rattle.tool_answers.specs.declared.decision.Decision.{Decision}
use Rattle.tool_answers.specs.Decisions.{decision_of, decision_of_lines}

-- what the lines of an input decide, where those that are done already are passed by or aren't
abbrev pub lines_decision : Bool → List ℕ → ℕ → Files → List Setting → Decision
lines_decision ensuring input day files settings =
    decision_of_lines files (batch ensuring (line_requests input) day settings files)

-- what the tool of a request decides by itself
abbrev pub tool_decision : Request → List ℕ → ℕ → Files → List Setting → Decision
tool_decision request input day files settings =
    decision_of request.tool files
    (outcome_of (action_of request input day files settings) files)

-- what a command decides
abbrev pub command_decision : Request → List ℕ → ℕ → Files → List Setting → Decision
command_decision request input day files settings =
    if is_batch request.tool
    then lines_decision (ensures request) input day files settings
    else tool_decision request input day files settings

-- the decision is this one, whichever settings the values are those of
abbrev pub DecidesUnder : Defs → (List Setting → Decision) → Decision → Type 0
DecidesUnder defs told decision =
    (settings : List Setting) → HasSettings defs settings → decision ≡ told settings

-- the lines of a batch decide so
abbrev pub LinesDecideUnder : Bool → Defs → ℕ → List ℕ → Files → Decision → Type 0
LinesDecideUnder ensuring defs day input files =
    DecidesUnder defs (lines_decision ensuring input day files)

-- the command decides so
abbrev pub CommandDecides : Defs → ℕ → Request → List ℕ → Files → Decision → Type 0
CommandDecides defs day request input files =
    DecidesUnder defs (command_decision request input day files)
