use Rattle.std.proofs.Common.{◌≡◌, [], ◌∷◌, length}
use Rattle.std.specs.List.{AllByRecursion, list_any}
use Rattle.acct_text.specs.Bytes.{newline}
use Rattle.acct_text.specs.Pieces.{Lacks}
use Rattle.line_edits.specs.SeenEdits.{seen_edit}
use Rattle.table.specs.Met.{meets}
use Rattle.table.proofs.keyed_cells.KeyedCells.meets_one.Given as goal

-- one of the texts left is such a record where one of all is
abbrev pub invariant-texts : goal.invariant-texts
invariant-texts g l =
    let met = meets g.R.TableRecord.format (seen_edit g.R.EditedRecord.becomes l.edit ∷ []) l.self in
    record {
      one_line : AllByRecursion (Lacks newline) l.left;
      same : list_any met l.left ≡ list_any met l.fn.left;
    }

abbrev pub decreases-texts : goal.decreases-texts
decreases-texts g l = length l.left
