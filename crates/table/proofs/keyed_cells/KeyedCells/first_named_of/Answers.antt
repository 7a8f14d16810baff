use Rattle.std.proofs.Common.{◌≡◌, ◌∙◌, ◌+◌, ◌∷◌, drop, get_or, ap, refl, sym, arith}
use Rattle.std.specs.Prelude.{find, option_map}
use Rattle.std.proofs.Math.ListN.{drop_of_length-le}
use Rattle.std.proofs.lemmas.List.{drop_more}
use Rattle.account_model.specs.Format.{is_named}
use Rattle.acct_tables.specs.Cells.{cell_at}
use Rattle.acct_tables.specs.declared.cell.Cell.{Cell}
use Rattle.table.specs.TableCells.{cells_there, has_named_in}
use Rattle.table.proofs.PutRecords.{met-first, passed-first}
use Rattle.table.proofs.keyed_cells.KeyedCells.first_named_of.Goals as goal

-- the cell in the next place is the first
pub returns-then-has_named_at : goal.returns-then-has_named_at
returns-then-has_named_at g c =
    let format = g.R.TableRecord.format in
    let name = c.args.name.now in
    let cells = c.args.self.now in
    let places = c.args.places.now in
    let place = get_or places c.places.place-index 0 in
    let later = drop (c.places.place-index + 1) places in
    let left : drop c.places.place-index places ≡ place ∷ later =
    drop_more places c.places.place-index 0 (omega arith) in
    sym (sym (ap (option_map (λ (cell : Cell). cell.place)) c.places.invariant)
    ∙ ap (λ left. option_map (λ (cell : Cell). cell.place)
    (find (has_named_in format name) (cells_there cells left))) left
    ∙ met-first format (is_named format name) place cells (cells_there cells later)
    (cell_at place cells) refl
    (sym c.has_named_at.ensures ∙ c.if-has_named_at.true))

-- it isn't
pub places-preserved : goal.places-preserved
places-preserved g c =
    let format = g.R.TableRecord.format in
    let name = c.args.name.now in
    let cells = c.args.self.now in
    let places = c.args.places.now in
    let place = get_or places c.places.place-index 0 in
    let later = drop (c.places.place-index + 1) places in
    sym (passed-first format (is_named format name) (cells_there cells later) (cell_at place cells)
    (sym c.has_named_at.ensures ∙ c.if-has_named_at.false))
    ∙ sym (ap (λ left. find (has_named_in format name) (cells_there cells left))
    (drop_more places c.places.place-index 0 (omega arith)))
    ∙ c.places.invariant

-- no place is left
pub returns : goal.returns
returns g c =
    let format = g.R.TableRecord.format in
    let places = c.args.places.now in
    ap (option_map (λ cell. cell.place))
    (sym (ap (λ left. find (has_named_in format c.args.name.now) (cells_there c.args.self.now left))
    (drop_of_length-le places (omega arith)))
    ∙ c.places.invariant)
