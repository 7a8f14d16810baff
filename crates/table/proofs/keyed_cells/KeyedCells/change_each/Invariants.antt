use Rattle.std.proofs.Common.{◌≡◌, false, drop}
use Rattle.table.specs.Changed.{changed_there}
use Rattle.table.proofs.keyed_cells.KeyedCells.change_each.Given as goal

-- to change at the places left is to change at all, and nothing differs so far unless that is told
abbrev pub invariant-places : goal.invariant-places
invariant-places g l =
    let change = changed_there g.R.TableRecord.format (g.R.EditedRecord.becomes l.change) in
    record {
      changed : change (drop l.place-index l.places) l.self ≡ change l.places l.fn.self;
      same : l.differ ≡ false → l.self ≡ l.fn.self;
    }
