use Rattle.std.proofs.Common.{◌∙◌, [], ◌∷◌, ap, sym, subst}
use Rattle.std.specs.Prelude.{IfSome, option_map}
use Rattle.std.proofs.lemmas.Result.{IfOk-weaker}
use Rattle.account_model.specs.Format.{records_of}
use Rattle.line_edits.specs.SeenEdits.{seen_edit}
use Rattle.line_edits.specs.Touching.{is_met}
use Rattle.acct_tables.specs.Cells.{lines_now}
use Rattle.acct_tables.specs.declared.cell.Cell.{Cell}
use Rattle.table.specs.Met.{TouchesNamed}
use Rattle.table.proofs.PutRecords.{first-reached}
use Rattle.table.proofs.SettledEdits.{single-none}
use Rattle.table.proofs.keyed_cells.KeyedCells.met_by.Goals as goal

-- the name hasn't several
pub returns-in-Some : goal.returns-in-Some
returns-in-Some g c =
    sym (single-none g.R.TableRecord.format
    (seen_edit g.R.EditedRecord.becomes c.args.edit.now) c.in-Some.name.now c.args.self.now
    g.met.R.TableRecord.is_line_format.same
    (subst (λ name. IfSome name (λ name. TouchesNamed g.R.TableRecord.format
    (seen_edit g.R.EditedRecord.becomes c.args.edit.now) name.now)) c.in-Some.is c.requires.only)
    (c.is_single.ensures c.if-is_single.true))

-- the first cell with such a record is reached
pub returns-in_default : goal.returns-in_default
returns-in_default g c =
    let format = g.R.TableRecord.format in
    let cells = c.args.self.now in
    let edits = seen_edit g.R.EditedRecord.becomes c.args.edit.now ∷ [] in
    IfOk-weaker c.met_of.result _ _ (λ place is.
    is
    ∙ ap (option_map (λ (cell : Cell). cell.place))
    (first-reached format (is_met format edits (records_of format (lines_now cells))) cells
    c.args.places.now c.requires.met))
    c.met_of.ensures
