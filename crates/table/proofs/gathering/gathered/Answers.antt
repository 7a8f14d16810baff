use Rattle.std.proofs.Common.{sym, subst}
use Rattle.acct_tables.specs.KeyPlaces.{told_places}
use Rattle.table.specs.TableCells.{HoldsThere, IsKeyed}
use Rattle.table.proofs.KeptCells.{texts-noted}
use Rattle.table.proofs.gathering.gathered.Goals as goal

-- the cell that is taken is told of
pub cells-preserved : goal.cells-preserved
cells-preserved g c = λ after widens left.
    let cell = c.in-Some.cell in
    c.cells.invariant after
    (λ key place told. widens key place (c.note_cell.ensures.widens key place told))
    (subst (HoldsThere g.R.TableRecord.format (IsKeyed g.R.KeyedRecord.keys after))
    (sym c.in-Some.ensures.taken) (
      texts-noted g.R.TableRecord.format g.R.KeyedRecord.keys
          (told_places c.note_cell.new.keys) after cell.place cell.texts widens
          c.note_cell.ensures.told,
      left,
    ))

-- no cell is left
pub returns : goal.returns
returns g c =
    c.cells.invariant (told_places c.cells.keys) (λ key place told. told)
    (subst (HoldsThere g.R.TableRecord.format
    (IsKeyed g.R.KeyedRecord.keys (told_places c.cells.keys)))
    (sym c.in_default.ensures.taken) tt)
