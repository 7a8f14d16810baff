use Rattle.std.proofs.Common.{ℕ, List, length}
use Rattle.std.specs.Prelude.{Option}
use Rattle.acct_tables.specs.KeyPlaces.{Widens, told_places}
use Rattle.table.specs.TableCells.{HoldsThere, IsKeyed}
use Rattle.table.proofs.gathering.gathered.Given as goal

-- where the cells left are told of all are
abbrev pub invariant-cells : goal.invariant-cells
invariant-cells g l = (after : ℕ → Option (List ℕ))
    → Widens (told_places l.keys) after
    → HoldsThere g.R.TableRecord.format (IsKeyed g.R.KeyedRecord.keys after) l.left
    → HoldsThere g.R.TableRecord.format (IsKeyed g.R.KeyedRecord.keys after) l.file

abbrev pub decreases-cells : goal.decreases-cells
decreases-cells g l = length l.left
