use Rattle.std.proofs.Common.{◌∙◌, sym}
use Rattle.line_edits.specs.SeenEdits.{seen_edit}
use Rattle.table.proofs.MetRecords.{single-unmet}
use Rattle.table.proofs.keyed_cells.KeyedCells.meets.Goals as goal

-- no several have the name
pub returns-then-not-branch : goal.returns-then-not-branch
returns-then-not-branch g c =
    sym (single-unmet g.R.TableRecord.format c.args.self.now
    (seen_edit g.R.EditedRecord.becomes c.args.edit.now) c.args.text.now c.in-Some.name.now
    c.in-Some.ensures (sym (c.in_ok-has_several.ensures {u = tt}) ∙ c.if-not-branch.true))
