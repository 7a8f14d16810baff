use Rattle.std.proofs.Common.{ℕ, List, length}
use Rattle.std.specs.Prelude.{Option}
use Rattle.std.specs.List.{AllByRecursion}
use Rattle.acct_tables.specs.KeyPlaces.{Widens, told_places}
use Rattle.table.specs.TableCells.{HoldsOf, IsKeyed}
use Rattle.table.proofs.gathering.note_cell.Given as goal

-- the index tells no less than before, and where the texts left are told of all are
abbrev pub invariant-texts : goal.invariant-texts
invariant-texts g l = record {
  widens : Widens (told_places l.fn.keys) (told_places l.keys);
  told : (after : ℕ → Option (List ℕ))
      → Widens (told_places l.keys) after
      → AllByRecursion (HoldsOf g.R.TableRecord.format (IsKeyed g.R.KeyedRecord.keys after l.place))
      l.left
      → AllByRecursion (HoldsOf g.R.TableRecord.format (IsKeyed g.R.KeyedRecord.keys after l.place))
      l.fn.cell.texts;
}

abbrev pub decreases-texts : goal.decreases-texts
decreases-texts g l = length l.left
