use Rattle.std.proofs.Common.{◌≡◌, ◌∙◌, [], ◌∷◌, sym, ap, subst}
use Rattle.acct_tables.specs.Cells.{texts_put}
use Rattle.acct_tables.specs.KeyPlaces.{told_places}
use Rattle.table.specs.Changed.{changed_there}
use Rattle.table.specs.TableCells.{AreKept}
use Rattle.table.proofs.EditedCells.{changed-kept, here-lines}
use Rattle.table.proofs.KeptCells.{kept-noted, none-changes, put-changes}
use Rattle.table.proofs.keyed_cells.KeyedCells.change_at.Goals as goal

-- no line is there
pub returns-in_default-clause-changed : goal.returns-in_default-clause-changed
returns-in_default-clause-changed g c =
    let format = g.R.TableRecord.format in
    let change = g.R.EditedRecord.becomes c.args.change.now in
    subst (λ cells. cells ≡ changed_there format change (c.args.place ∷ []) cells) c.self.view_is
    (sym (none-changes format change c.args.place c.self.inside.file
    (sym c.cell.ensures ∙ c.in_default.is)))

-- its texts are lines
pub changed_texts-requires-clause-one_line : goal.changed_texts-requires-clause-one_line
changed_texts-requires-clause-one_line g c =
    here-lines g.R.TableRecord.format g.R.KeyedRecord.keys (told_places c.self.inside.keys)
    (told_places c.self.inside.keys) c.args.place c.self.inside.file c.in-Some.cell
    c.self.invariant (sym c.cell.ensures ∙ c.in-Some.is)

-- where they aren't put, the index was told more
pub invariant_of-self : goal.invariant_of-self
invariant_of-self g c =
    let format = g.R.TableRecord.format in
    let keys = g.R.KeyedRecord.keys in
    let after = told_places c.bring.new.index in
    subst (AreKept format keys after) (sym c.in_err-put.ensures.unchanged)
    (kept-noted format keys (told_places c.self.inside.keys) after c.self.inside.file
    c.bring.ensures.notes.kept c.self.invariant)

-- and else of what they become
pub invariant_of-self-2 : goal.invariant_of-self-2
invariant_of-self-2 g c =
    let format = g.R.TableRecord.format in
    let keys = g.R.KeyedRecord.keys in
    let before = told_places c.self.inside.keys in
    let after = told_places c.bring.new.index in
    let file = c.self.inside.file in
    subst (AreKept format keys after) (sym (c.in_ok-put.ensures.put))
    (changed-kept format keys before after c.args.place file c.in-Some.cell c.self.invariant
    (sym c.cell.ensures ∙ c.in-Some.is) (g.R.EditedRecord.becomes c.args.change.now)
    (g.R.KeyedRecord.brought c.args.change.now) c.requires c.bring.ensures.notes
    c.bring.ensures.brings c.in_ok-texts.texts.items c.in_ok-texts.ensures)

-- they are put there
pub returns-clause-changed : goal.returns-clause-changed
returns-clause-changed g c =
    let format = g.R.TableRecord.format in
    let change = g.R.EditedRecord.becomes c.args.change.now in
    let file = c.self.inside.file in
    c.in_ok-put.ensures.put
    ∙ ap (λ texts. texts_put c.args.place texts file) c.in_ok-texts.ensures
    ∙ put-changes format change c.args.place file c.in-Some.cell c.self.invariant.placed
    (sym c.cell.ensures ∙ c.in-Some.is)
    ∙ ap (changed_there format change (c.args.place ∷ [])) c.self.view_is
