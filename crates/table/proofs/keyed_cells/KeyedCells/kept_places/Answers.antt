use Rattle.std.proofs.Common.{◌∙◌, sym, subst}
use Rattle.line_edits.specs.SeenEdits.{seen_edits}
use Rattle.acct_tables.specs.Cells.{cells_from, lines_now}
use Rattle.table.specs.Met.{AreEditedAt}
use Rattle.table.proofs.MetRecords.{kept-stand, none-told}
use Rattle.table.proofs.keyed_cells.KeyedCells.kept_places.Goals as goal

-- the lines stand in their places in the file
pub returns-in-Some : goal.returns-in-Some
returns-in-Some g c =
    let edits = seen_edits g.R.EditedRecord.becomes c.args._edits.now in
    subst (λ cells. AreEditedAt g.R.TableRecord.format edits cells c.args.places.items)
    (kept-stand c.args.self.now c.in-Some.field-0.now
    (sym c.self.view_is ∙ c.in-Some.ensures.cells))
    c.requires

-- no places are told
pub returns-in-None : goal.returns-in-None
returns-in-None g c =
    none-told g.R.TableRecord.format (cells_from 0 (lines_now c.args.self.now))
    (seen_edits g.R.EditedRecord.becomes c.args._edits.now) c.new.result.items c.new.ensures.items
