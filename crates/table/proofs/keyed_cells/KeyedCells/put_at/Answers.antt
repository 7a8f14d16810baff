use Rattle.std.proofs.Common.{◌≡◌, ◌∙◌, sym, ap, refl}
use Rattle.std.specs.Prelude.{Some, find, option_map}
use Rattle.std.proofs.lemmas.Result.{on_ok_weaker}
use Rattle.account_model.specs.Edits.{put_first}
use Rattle.acct_tables.specs.Cells.{cell_at, lines_now, texts_put}
use Rattle.acct_tables.specs.KeyPlaces.{told_places}
use Rattle.table.specs.Changed.{texts_with}
use Rattle.table.specs.TableCells.{AreKept, has_named_in}
use Rattle.table.proofs.EditedCells.{either-way, here-lines, with-kept}
use Rattle.table.proofs.KeptCells.{found-place, kept-noted}
use Rattle.table.proofs.PutRecords.{first-there, put-lines}
use Rattle.table.proofs.keyed_cells.KeyedCells.put_at.Goals as goal

-- a line is there
pub returns-in_default : goal.returns-in_default
returns-in_default g c =
    let has = has_named_in g.R.TableRecord.format (g.R.TableRecord.format.name c.args.item.now) in
    let file = c.self.inside.file in
    let first = ap (λ cells. option_map (λ cell. cell.place) (find has cells)) c.self.view_is
    ∙ c.requires.first in
    let same = first-there has file c.args.place (find has file) (cell_at c.args.place file)
    c.self.invariant.placed refl first refl in
    let none = ap (option_map (λ cell. cell.place))
    (sym same ∙ sym c.cell.ensures ∙ c.in_default.is) in
    let both = sym first ∙ none in
    absurd cc

-- its texts are lines
pub texts_with-requires-clause-one_line : goal.texts_with-requires-clause-one_line
texts_with-requires-clause-one_line g c =
    here-lines g.R.TableRecord.format g.R.KeyedRecord.keys (told_places c.self.inside.keys)
    (told_places c.self.inside.keys) c.args.place c.self.inside.file c.in-Some.cell
    c.self.invariant (sym c.cell.ensures ∙ c.in-Some.is)

-- the index was told of the record
pub invariant_of-self : goal.invariant_of-self
invariant_of-self g c =
    let format = g.R.TableRecord.format in
    let keys = g.R.KeyedRecord.keys in
    let before = told_places c.self.inside.keys in
    let after = told_places c.note.new.index in
    let file = c.self.inside.file in
    either-way (AreKept format keys after) c.put.result c.put.new.self
    (texts_put c.args.place c.in_ok-texts.texts.items file) file
    c.put.ensures.put c.put.ensures.unchanged
    (with-kept format keys before after c.args.place file c.in-Some.cell c.self.invariant
    (sym c.cell.ensures ∙ c.in-Some.is) c.args.item.now c.in_ok-texts.texts.items
    c.requires.written c.note.ensures c.in_ok-texts.ensures)
    (kept-noted format keys before after file c.note.ensures.kept c.self.invariant)

-- the record is in place of the first of its name
pub returns : goal.returns
returns g c =
    let format = g.R.TableRecord.format in
    let item = c.args.item.now in
    let has = has_named_in format (format.name item) in
    let file = c.self.inside.file in
    let cell = c.in-Some.cell in
    let here : cell_at c.args.place file ≡ Some cell = sym c.cell.ensures ∙ c.in-Some.is in
    let first = ap (λ cells. option_map (λ cell. cell.place) (find has cells)) c.self.view_is
    ∙ c.requires.first in
    let found : find has file ≡ Some cell =
    sym (first-there has file c.args.place (find has file) (Some cell) c.self.invariant.placed refl
    first here) in
    on_ok_weaker c.put.result
    (λ put. ap lines_now put
    ∙ ap (λ texts. lines_now (texts_put c.args.place texts file)) c.in_ok-texts.ensures
    ∙ sym (ap (λ place. lines_now (texts_put place (texts_with format item cell.texts) file))
    (found-place c.args.place file cell here))
    ∙ put-lines format item file cell c.self.invariant.sound c.self.invariant.placed found
    ∙ ap (λ cells. put_first format item (lines_now cells)) c.self.view_is)
    c.put.ensures.put
