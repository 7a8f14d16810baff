-- What one line of a batch adds to what those before it have written.
use Rattle.std.specs.Prelude.{◌≡◌, ◌++◌, Option, Some, None, Result, Ok, Err}
use Rattle.account_model.specs.declared.tool.Tool.{Tool}
use Rattle.account_model.specs.declared.refusal.Refusal.{Refusal}
use Rattle.account_model.specs.Action.{Made}
use Rattle.account_model.specs.Batch.{Written}
use Rattle.tool_answers.specs.Decisions.{made_output}
use Rattle.tool_answers.specs.declared.decision.Output.{Output}
use Rattle.suite_tools.specs.declared.written.Written as declared

-- the written that stands for one as data
abbrev pub seen_written : declared.Written → Written
seen_written written = record {
  files = written.tables;
  status = 0;
  output = written.out;
  error = written.err;
}

-- this is printed behind it, and the files are the same
abbrev pub with_output : Output → Written → Written
with_output output written = record written {
  output = written.output ++ output.out;
  error = written.error ++ output.err;
}

-- what is written where a tool makes this behind it
abbrev pub with_made : Tool → Made → Written → Written
with_made tool made written =
    record (with_output (made_output tool made) written) { files = made.files }

-- by the outcome of its tool a line refuses, or is written behind the others
abbrev pub IsWrittenBehind : Tool → Written → Written → Option Refusal → Result Made Refusal → Type 0
IsWrittenBehind tool old new refusal (Err found) = refusal ≡ Some found
IsWrittenBehind tool old new refusal (Ok made) = (refusal ≡ None) × (new ≡ with_made tool made old)
