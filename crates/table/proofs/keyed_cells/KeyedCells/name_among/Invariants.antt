use Rattle.std.proofs.Common.{◌≡◌, length}
use Rattle.std.specs.Prelude.{find}
use Rattle.std.specs.List.{AllByRecursion}
use Rattle.acct_text.specs.Bytes.{newline}
use Rattle.acct_text.specs.Pieces.{Lacks}
use Rattle.account_model.specs.Format.{records_of}
use Rattle.line_edits.specs.SeenEdits.{seen_edits}
use Rattle.line_edits.specs.Touching.{is_met}
use Rattle.acct_tables.specs.Cells.{lines_now}
use Rattle.table.specs.TableCells.{records_read}
use Rattle.table.proofs.keyed_cells.KeyedCells.name_among.Given as goal

-- the first among the texts left is the first of all
abbrev pub invariant-texts : goal.invariant-texts
invariant-texts g l =
    let format = g.R.TableRecord.format in
    let met = is_met format (seen_edits g.R.EditedRecord.becomes l.edits)
    (records_of format (lines_now l.self)) in
    record {
      one_line : AllByRecursion (Lacks newline) l.left;
      same : find met (records_read format l.left) ≡ find met (records_read format l.fn.left);
    }

abbrev pub decreases-texts : goal.decreases-texts
decreases-texts g l = length l.left
