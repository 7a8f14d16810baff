use Rattle.std.proofs.Common.{◌≡◌, length}
use Rattle.std.specs.List.{AllByRecursion}
use Rattle.acct_text.specs.Lines.{lines_of}
use Rattle.account_model.specs.Edits.{edited_by}
use Rattle.account_model.specs.Format.{records_of}
use Rattle.account_model.specs.RecordEdits.{IsWrittenEdit}
use Rattle.account_model.specs.Tables.{table_records, table_lines}
use Rattle.check_reports.specs.Gathered.{IsGrown, made_edits}
use Rattle.check_reports.proofs.RecordWalk.{HaveTaken}
use Rattle.check_reports.proofs.making.with_missing.Given as goal

-- the edits of the records that are left make of the lines what all make of those of the text
abbrev pub invariant-lines : goal.invariant-lines
invariant-lines g l =
    let main = g.M.TableRecord.format in
    let format = g.H.TableRecord.format in
    let make = g.T.Making.make l.making in
    record {
      taken : HaveTaken (table_lines l.main) l.left;
      grown : IsGrown main format (records_of main taken.done) l.grown;
      written : AllByRecursion (IsWrittenEdit format) (made_edits make (records_of main l.left));
      so_far : edited_by format (made_edits make (records_of main l.left)) (lines_of l.grown.text)
          ≡ edited_by format (made_edits make (table_records main l.main)) (lines_of l.text);
    }

abbrev pub decreases-lines : goal.decreases-lines
decreases-lines g l = length l.left
