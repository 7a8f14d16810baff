use Rattle.std.proofs.Common.{◌≡◌, false, drop}
use Rattle.std.specs.Prelude.{Some}
use Rattle.acct_text.specs.Lines.{file_bytes}
use Rattle.account_model.specs.Edits.{edited, edited_by}
use Rattle.acct_tables.specs.Cells.{lines_now}
use Rattle.acct_tables.specs.SeenLines.{AreOfFile}
use Rattle.line_edits.specs.SeenEdits.{seen_edits}
use Rattle.table.specs.LastEdits.{HoldsOfLast}
use Rattle.table.specs.TableEdits.{table_by}
use Rattle.table.proofs.table.Table.edit.Given as goal

-- the edits left make of the lines now what all make of the file, and the last ones leave them
abbrev pub invariant-edits : goal.invariant-edits
invariant-edits g l =
    let format = g.R.TableRecord.format in
    let becomes = g.R.EditedRecord.becomes in
    let lines = lines_now l.cells in
    record {
      made : Some (file_bytes
          (edited_by format (seen_edits becomes (drop l.edit-index l.edits)) lines))
          ≡ table_by format becomes l.edits l.fn.self;
      same : l.differ ≡ false → Some (file_bytes lines) ≡ l.fn.self;
      of_file : AreOfFile lines;
      idle : HoldsOfLast becomes (λ edit. edited format lines edit ≡ lines) l.idle;
    }
