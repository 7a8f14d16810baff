use Rattle.std.proofs.Common.{◌≡◌, ◌++◌, length}
use Rattle.std.specs.Prelude.{flat_map}
use Rattle.acct_text.specs.Lines.{file_bytes}
use Rattle.account_model.specs.Edits.{becomes}
use Rattle.account_model.specs.Format.{records_of}
use Rattle.account_model.specs.Tables.{table_lines}
use Rattle.check_reports.specs.Secrets.{HasSecrets}
use Rattle.check_reports.proofs.RecordWalk.{HaveTaken}
use Rattle.check_reports.proofs.line_changes.walk.Given as goal

-- what is kept is that of the records so far, and the bytes so far, with those of what becomes of the lines left, are
-- those of all
abbrev pub invariant-lines : goal.invariant-lines
invariant-lines g l =
    let format = g.R.TableRecord.format in
    let change = becomes format (g.C.LineChange.change l.change) in
    record {
      taken : HaveTaken (table_lines l.file) l.left;
      kept : HasSecrets format g.L.AccountLine.secret (records_of format taken.done) l.walked.secrets;
      made : l.walked.text ++ file_bytes (flat_map change l.left)
          ≡ file_bytes (flat_map change (table_lines l.file));
    }

abbrev pub decreases-lines : goal.decreases-lines
decreases-lines g l = length l.left
