use Rattle.std.proofs.Common.{◌∙◌, ap, sym}
use Rattle.std.specs.Prelude.{option_map}
use Rattle.account_model.specs.Format.{records_of}
use Rattle.line_edits.specs.SeenEdits.{seen_edits}
use Rattle.line_edits.specs.Touching.{is_met}
use Rattle.acct_tables.specs.Cells.{lines_now}
use Rattle.table.proofs.MetRecords.{none-placed}
use Rattle.table.proofs.keyed_cells.KeyedCells.name_met.Goals as goal

-- no place has one
pub returns-in-None : goal.returns-in-None
returns-in-None g c =
    let format = g.R.TableRecord.format in
    let cells = c.args.self.now in
    let met = is_met format (seen_edits g.R.EditedRecord.becomes c.args.edits.now)
    (records_of format (lines_now cells)) in
    sym (ap (option_map format.name)
    (none-placed format met cells (c.requires.first ∙ c.in-None.is)))
