use Rattle.std.proofs.Common.{◌≡◌, ◌==◌, ◌∙◌, true, false, length, ap, sym, subst}
use Rattle.table.specs.TableCells.{TouchesAt}
use Rattle.table.proofs.MetRecords.{kept-stand}
use Rattle.table.proofs.keyed_cells.KeyedCells.change_at_told.Goals as goal

-- the lines stand in their places in the file
pub change_in-requires-clause-places : goal.change_in-requires-clause-places
change_in-requires-clause-places g c =
    subst (λ cells. TouchesAt g.R.TableRecord.format (g.R.EditedRecord.becomes c.args.change.now) cells
    c.args.places.now)
    (sym (kept-stand c.args.self.now c.in-Some.field-0.now
    (sym c.self.view_is ∙ c.in-Some.ensures.cells)))
    (c.requires.places (λ none.
    let both : true ≡ false = sym (ap (λ places. length places == 0) none)
    ∙ sym c.is_empty.ensures ∙ c.if-is_empty.false in
    absurd cc))
