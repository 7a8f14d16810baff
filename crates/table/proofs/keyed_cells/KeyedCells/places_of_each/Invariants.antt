use Rattle.std.proofs.Common.{map, take}
use Rattle.std.specs.Vec.{vec_items}
use Rattle.table.specs.TableCells.{ReachesNames}
use Rattle.table.proofs.keyed_cells.KeyedCells.places_of_each.Given as goal

-- the places reach the records of the names so far
abbrev pub invariant-names : goal.invariant-names
invariant-names g l = ReachesNames g.R.TableRecord.format
    (map vec_items (take l.name-index l.names)) l.self l.places.items
