-- What a command decides on the tables, by the outcome of its tool: it refuses, all tables stay as
-- they are, or some get other bytes; and what it prints with that ("EXIT VALUES" of each page).
use Rattle.std.specs.Prelude.{◌≡◌, List, [], ◌∷◌, Result, Ok, Err}
use Rattle.acct_text.specs.declared.files.Files.{Files}
use Rattle.acct_text.specs.declared.new_tables.NewTable.{NewTable}
use Rattle.acct_text.specs.ChangedTables.{changed_tables}
use Rattle.acct_text.specs.Files.{table_of}
use Rattle.account_model.specs.declared.tool.Tool.{Tool}
use Rattle.account_model.specs.declared.tool.Tool.TheVariants.{Batch}
use Rattle.account_model.specs.declared.refusal.Refusal.{Refusal}
use Rattle.account_model.specs.Action.{Made}
use Rattle.account_model.specs.Batch.{LineRefusal, Written, written_by}
use Rattle.account_model.specs.Messages.{line_refusal_text, message, refusal_text}
use Rattle.account_model.specs.Statuses.{refusal_status}
use Rattle.tool_answers.specs.declared.decision.Output.{Output}
use Rattle.tool_answers.specs.declared.decision.Decision.{Decision}
use Rattle.tool_answers.specs.declared.decision.Decision.TheVariants.{Change, Same, Refuse, RefuseLine}

-- what a tool that refuses prints: one line on the error stream
abbrev pub refusal_output : Tool → Refusal → Output
refusal_output tool refusal = record {
  status = refusal_status tool refusal;
  out = [];
  err = message tool (refusal_text tool refusal);
}

-- what commands print that aren't refused
abbrev pub written_output : Written → Output
written_output written = record {
  status = written.status;
  out = written.output;
  err = written.error;
}

-- what a tool that doesn't refuse prints: its report, and its notices on the error stream
abbrev pub made_output : Tool → Made → Output
made_output tool made = written_output (written_by tool made)

-- the decision by the tables that differ: all stay where none does
abbrev pub decision_by : List NewTable → Output → Decision
decision_by [] output = Same output
decision_by (first ∷ rest) output = Change (first ∷ rest) output

-- the decision by what commands that aren't refused have written
abbrev pub written_decision : Files → Written → Decision
written_decision files written =
    decision_by (changed_tables (table_of files) (table_of written.files)) (written_output written)

-- what a tool decides by what it made
abbrev pub made_decision : Tool → Files → Made → Decision
made_decision tool files made = written_decision files (written_by tool made)

-- the decision by the outcome of the tool on the files
abbrev pub decision_of : Tool → Files → Result Made Refusal → Decision
decision_of tool files (Err refusal) = Refuse refusal (refusal_output tool refusal)
decision_of tool files (Ok made) = made_decision tool files made

-- the command decides as the outcome of its tool says
abbrev pub Decides : Tool → Files → Result Made Refusal → Decision → Type 0
Decides tool files outcome decision = decision ≡ decision_of tool files outcome

-- ---- Batches

-- what a batch prints in which a line refuses: one line on the error stream, with the status of the
-- line's tool
abbrev pub line_refusal_output : LineRefusal → Output
line_refusal_output line = record {
  status = refusal_status line.tool line.refusal;
  out = [];
  err = message Batch (line_refusal_text line.number line.tool line.refusal);
}

-- the decision of a batch by what becomes of its lines: one refuses, or all are carried out
abbrev pub decision_of_lines : Files → Result Written LineRefusal → Decision
decision_of_lines files (Err line) =
    RefuseLine line.number line.refusal (line_refusal_output line)
decision_of_lines files (Ok written) = written_decision files written
