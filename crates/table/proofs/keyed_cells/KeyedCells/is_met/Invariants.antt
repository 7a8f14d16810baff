use Rattle.std.proofs.Common.{◌≡◌, drop}
use Rattle.line_edits.specs.SeenEdits.{seen_edits}
use Rattle.table.specs.Met.{meets}
use Rattle.table.proofs.keyed_cells.KeyedCells.is_met.Given as goal

-- the edits left meet the text where all do
abbrev pub invariant-edits : goal.invariant-edits
invariant-edits g l =
    let format = g.R.TableRecord.format in
    let seen = seen_edits g.R.EditedRecord.becomes in
    meets format (seen (drop l.edit-index l.edits)) l.self l.text
    ≡ meets format (seen l.edits) l.self l.text
