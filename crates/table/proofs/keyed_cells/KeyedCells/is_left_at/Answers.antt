use Rattle.std.proofs.Common.{◌≡◌, ◌∙◌, [], ◌∷◌, sym, subst}
use Rattle.table.specs.Changed.{changed_there}
use Rattle.table.proofs.EditedCells.{left-texts}
use Rattle.table.proofs.KeptCells.{none-changes, stays-changes}
use Rattle.table.proofs.keyed_cells.KeyedCells.is_left_at.Goals as goal

-- the texts there are left
pub returns-in-Some : goal.returns-in-Some
returns-in-Some g c = λ left.
    let format = g.R.TableRecord.format in
    let change = g.R.EditedRecord.becomes c.args.change.now in
    subst (λ cells. cells ≡ changed_there format change (c.args.place ∷ []) cells) c.self.view_is
    (sym (stays-changes format change c.args.place c.self.inside.file c.in-Some.cell
    c.self.invariant.placed c.self.invariant.sound (sym c.cell.ensures ∙ c.in-Some.is)
    (left-texts format change c.in-Some.cell.texts g.met.R.TableRecord.is_line_format.same
    (c.are_left.ensures left))))

-- no line is there
pub returns-in-None : goal.returns-in-None
returns-in-None g c = λ left.
    let format = g.R.TableRecord.format in
    let change = g.R.EditedRecord.becomes c.args.change.now in
    subst (λ cells. cells ≡ changed_there format change (c.args.place ∷ []) cells) c.self.view_is
    (sym (none-changes format change c.args.place c.self.inside.file
    (sym c.cell.ensures ∙ c.in-None.is)))
