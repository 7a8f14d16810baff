use Rattle.std.proofs.Common.{◌≡◌, ◌∙◌, ◌+◌, [], ◌∷◌, drop, get_or, ap, refl, sym, arith}
use Rattle.std.specs.Prelude.{option_map}
use Rattle.std.proofs.lemmas.List.{drop_more}
use Rattle.account_model.specs.Format.{records_of}
use Rattle.line_edits.specs.SeenEdits.{seen_edit}
use Rattle.line_edits.specs.Touching.{is_met}
use Rattle.acct_tables.specs.Cells.{cell_at, lines_now}
use Rattle.acct_tables.specs.declared.cell.Cell.{Cell}
use Rattle.table.specs.Met.{first_in, has_met}
use Rattle.table.specs.TableCells.{cells_there}
use Rattle.table.proofs.PutRecords.{met-first}
use Rattle.table.proofs.keyed_cells.KeyedCells.met_of.Goals as goal

-- the cell in the next place is the first
pub returns-then-branch : goal.returns-then-branch
returns-then-branch g c =
    let format = g.R.TableRecord.format in
    let cells = c.args.self.now in
    let edits = seen_edit g.R.EditedRecord.becomes c.args.edit.now ∷ [] in
    let places = c.args.places.now in
    let place = get_or places c.places.place-index 0 in
    let later = drop (c.places.place-index + 1) places in
    let left : drop c.places.place-index places ≡ place ∷ later =
    drop_more places c.places.place-index 0 (omega arith) in
    sym (sym (ap (option_map (λ (cell : Cell). cell.place)) c.places.invariant)
    ∙ ap (λ left. first_in (has_met format edits cells) (cells_there cells left)) left
    ∙ met-first format (is_met format edits (records_of format (lines_now cells))) place cells
    (cells_there cells later) (cell_at place cells) refl
    (sym (c.in_ok-meets_at.ensures {u = tt}) ∙ c.if-branch.true))
