use Rattle.std.proofs.Common.{◌≡◌, drop}
use Rattle.line_edits.specs.SeenEdits.{seen_edits}
use Rattle.table.specs.FirstMet.{AreAsked}
use Rattle.table.specs.Met.{AreEditedAt, earlier, first_in, has_met}
use Rattle.table.proofs.keyed_cells.KeyedCells.first_met.Given as goal

-- the first place so far, or that of the edits left, is that of all
abbrev pub invariant-edits : goal.invariant-edits
invariant-edits g l =
    let format = g.R.TableRecord.format in
    let becomes = g.R.EditedRecord.becomes in
    let seen = seen_edits becomes in
    let cells = l.fn.self in
    record {
      first : earlier l.met.place
          (first_in (has_met format (seen (drop l.edit-index l.edits)) cells) cells)
          ≡ first_in (has_met format (seen l.edits) cells) cells;
      asked : AreAsked format g.R.KeyedRecord.keys becomes cells l.met;
      places : AreEditedAt format (seen l.edits) cells l.met.places.items;
      same : l.self ≡ cells;
    }
