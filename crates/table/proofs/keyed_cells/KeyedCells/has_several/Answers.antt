use Rattle.std.proofs.Common.{◌∙◌, ap}
use Rattle.std.specs.Prelude.{nat_le}
use Rattle.account_model.specs.Format.{is_named}
use Rattle.table.proofs.ReachedRecords.{counted-there}
use Rattle.table.proofs.keyed_cells.KeyedCells.has_several.Goals as goal

-- as many records of the name are among the reached texts
pub returns : goal.returns
returns g c =
    let format = g.R.TableRecord.format in
    c.are_several_named.ensures
    ∙ ap (nat_le 2) (counted-there format (is_named format c.args.name.now)
    c.self.inside.file c.args.self.now c.self.view_is c.self.invariant.placed
    c.in_ok-places.places.items c.in_ok-places.ensures
    c.as_slice.result.now c.as_slice.ensures.value c.of-texts.result c.of-texts.ensures)
