use Rattle.std.proofs.Common.{◌∙◌, ap, sym, subst}
use Rattle.std.specs.Prelude.{None, Some, option_map}
use Rattle.std.proofs.lemmas.Result.{IfOk-weaker}
use Rattle.account_model.specs.Format.{records_of}
use Rattle.line_edits.specs.SeenEdits.{seen_edits}
use Rattle.line_edits.specs.Touching.{is_met}
use Rattle.acct_tables.specs.Cells.{ArePlaced, cell_at, lines_now}
use Rattle.acct_tables.specs.KeyPlaces.{told_places}
use Rattle.table.proofs.EditedCells.{here-lines}
use Rattle.table.proofs.MetRecords.{first-placed}
use Rattle.table.proofs.keyed_cells.KeyedCells.name_at.Goals as goal

-- the texts in the place are lines
pub name_among-requires-clause-one_line : goal.name_among-requires-clause-one_line
name_among-requires-clause-one_line g c =
    here-lines g.R.TableRecord.format g.R.KeyedRecord.keys (told_places c.self.inside.keys)
    (told_places c.self.inside.keys) c.args.place c.self.inside.file c.in-Some.cell
    c.self.invariant (sym c.cell.ensures ∙ c.in-Some.is)

-- the first of all is the first of these
pub returns-in-Some : goal.returns-in-Some
returns-in-Some g c =
    let format = g.R.TableRecord.format in
    let cells = c.args.self.now in
    let met = is_met format (seen_edits g.R.EditedRecord.becomes c.args.edits.now)
    (records_of format (lines_now cells)) in
    IfOk-weaker c.name_among.result _ _ (λ name is.
    is
    ∙ sym (ap (option_map format.name)
    (first-placed format met cells c.args.place (Some c.in-Some.cell)
    (subst ArePlaced c.self.view_is c.self.invariant.placed) c.requires.first
    (sym (ap (cell_at c.args.place) c.self.view_is) ∙ sym c.cell.ensures ∙ c.in-Some.is))))
    c.name_among.ensures

-- no line is there
pub returns-in-None : goal.returns-in-None
returns-in-None g c =
    let format = g.R.TableRecord.format in
    let cells = c.args.self.now in
    let met = is_met format (seen_edits g.R.EditedRecord.becomes c.args.edits.now)
    (records_of format (lines_now cells)) in
    sym (ap (option_map format.name)
    (first-placed format met cells c.args.place None
    (subst ArePlaced c.self.view_is c.self.invariant.placed) c.requires.first
    (sym (ap (cell_at c.args.place) c.self.view_is) ∙ sym c.cell.ensures ∙ c.in-None.is)))
