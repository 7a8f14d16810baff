use Rattle.std.proofs.Common.{◌≡◌, drop}
use Rattle.std.specs.Prelude.{find}
use Rattle.table.specs.TableCells.{cells_there, has_named_in}
use Rattle.table.proofs.keyed_cells.KeyedCells.first_named_of.Given as goal

-- what is found in the places left is what is found in all
abbrev pub invariant-places : goal.invariant-places
invariant-places g l =
    let named = has_named_in g.R.TableRecord.format l.name in
    find named (cells_there l.self (drop l.place-index l.places))
    ≡ find named (cells_there l.self l.places)
