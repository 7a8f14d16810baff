-- What a command answers on given files by what it decides (account_model/specs/Answer).
use Rattle.std.specs.Prelude.{ℕ, List, [], find, Option, Some, None, option_map, unwrap_or}
use Rattle.acct_text.specs.declared.Tab.{Tab}
use Rattle.acct_text.specs.declared.new_tables.NewTable.{NewTable}
use Rattle.acct_text.specs.declared.files.Files.{Files}
use Rattle.acct_text.specs.Bytes.{Bytes}
use Rattle.acct_outside.specs.declared.Name.TheVariants.{Table}
use Rattle.account_model.specs.declared.plan_form.PlanForm.{PlanForm}
use Rattle.account_model.specs.Answer.{passes_limit}
use Rattle.account_model.specs.declared.tool.Tool.{Tool}
use Rattle.login_defs.specs.declared.defs.DefsFault.{DefsFault}
use Rattle.login_defs.specs.declared.defs.DefsFault.TheVariants.{BadNumber}
use Rattle.tool_answers.specs.declared.decision.Output.{Output}
use Rattle.tool_answers.specs.declared.decision.Decision.{Decision}
use Rattle.tool_answers.specs.declared.decision.Decision.TheVariants.{Change, Same, Refuse, RefuseLine}
use Rattle.plan_tool.specs.Planned.{planned_decision}
use Rattle.suite_answers.specs.declared.cause.Which.TheVariants.{File}
use Rattle.suite_answers.specs.declared.cause.Cause.{Cause}
use Rattle.suite_answers.specs.declared.cause.Cause.TheVariants.{Changed, Same as IsSame, Refused, RefusedLine, TooLarge}
use Rattle.suite_answers.specs.declared.answer.Answer.{Answer}
use Rattle.suite_session.specs.declared.tools.Decided.{Decided}
use Rattle.suite_session.specs.declared.tools.Decided.TheVariants.{Change as Changes, Stay}
use Rattle.suite_session.specs.Answers.{given_for}

-- the bytes of login.defs; an absent one counts as empty
abbrev pub settings_text : Option Bytes → Bytes
settings_text defs = unwrap_or defs []

-- the bad line of a settings file, counted from 1
abbrev pub bad_line : DefsFault → ℕ
bad_line (BadNumber line) = line

-- the first of new tables that passes the limit
abbrev pub large_table : List NewTable → Option Tab
large_table tables = option_map (λ new. new.table) (find (λ new. passes_limit new.bytes) tables)

-- the answer with this cause and what the command prints
abbrev pub with_output : Cause → Output → Answer
with_output cause output = record {
  outcome = record { status = output.status; cause = cause };
  out = output.out;
  err = output.err;
}

-- the first table of a decision that passes the limit
abbrev pub large_in : Decision → Option Tab
large_in (Change new output) = large_table new
large_in decision = None

-- the answer to a decision of which no table passes the limit
abbrev pub small_decided : Decision → Decided
small_decided (Change new output) = Changes new (with_output Changed output)
small_decided (Same output) = Stay (with_output IsSame output)
small_decided (Refuse refusal output) = Stay (with_output (Refused refusal) output)
small_decided (RefuseLine line refusal output) =
    Stay (with_output (RefusedLine line refusal) output)

-- a decision on these files, as it is asked for: carried out, or planned
abbrev pub asked_decision : Option PlanForm → Files → Decision → Decision
asked_decision None files decision = decision
asked_decision (Some form) files decision = planned_decision form files decision

-- The answer of a tool to what it decides on these files, carried out or planned: a change of which a table
-- passes the limit leaves all as they are, and is told so in either case.
abbrev pub decided_by : Tool → Option PlanForm → Files → Decision → Decided
decided_by tool plan files decision = elim (large_in decision) [
  | Some table ↦ Stay (given_for tool (TooLarge (File (Table table))))
  | None ↦ small_decided (asked_decision plan files decision)
]
