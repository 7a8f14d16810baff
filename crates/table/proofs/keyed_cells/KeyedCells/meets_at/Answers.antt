use Rattle.std.proofs.Common.{◌∙◌, sym}
use Rattle.acct_tables.specs.KeyPlaces.{told_places}
use Rattle.table.proofs.EditedCells.{here-lines}
use Rattle.table.proofs.keyed_cells.KeyedCells.meets_at.Goals as goal

-- the texts in the place are lines
pub meets_one-requires-clause-one_line : goal.meets_one-requires-clause-one_line
meets_one-requires-clause-one_line g c =
    here-lines g.R.TableRecord.format g.R.KeyedRecord.keys (told_places c.self.inside.keys)
    (told_places c.self.inside.keys) c.args.place c.self.inside.file c.in-Some.cell
    c.self.invariant (sym c.cell.ensures ∙ c.in-Some.is)
