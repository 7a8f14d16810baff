use Rattle.std.proofs.Common.{◌≡◌, [], ◌∷◌, drop}
use Rattle.std.specs.Prelude.{find}
use Rattle.line_edits.specs.SeenEdits.{seen_edit}
use Rattle.table.specs.Met.{has_met}
use Rattle.table.specs.TableCells.{cells_there}
use Rattle.table.proofs.keyed_cells.KeyedCells.met_of.Given as goal

-- what is found in the places left is what is found in all
abbrev pub invariant-places : goal.invariant-places
invariant-places g l =
    let met = has_met g.R.TableRecord.format (seen_edit g.R.EditedRecord.becomes l.edit ∷ []) l.self in
    find met (cells_there l.self (drop l.place-index l.places))
    ≡ find met (cells_there l.self l.places)
