use Rattle.std.proofs.Common.{◌∙◌}
use Rattle.std.proofs.lemmas.Result.{IfOk-weaker}
use Rattle.account_model.specs.Format.{is_named}
use Rattle.table.proofs.ReachedRecords.{found-there}
use Rattle.table.proofs.keyed_cells.KeyedCells.find.Goals as goal

-- the first record of the name is among the reached texts
pub returns-in-Some-first_named : goal.returns-in-Some-first_named
returns-in-Some-first_named g c =
    let format = g.R.TableRecord.format in
    let found = found-there format (is_named format c.args.name.now)
    c.self.inside.file c.args.self.now c.self.view_is c.self.invariant.placed
    c.in_ok-places.places.items c.in_ok-places.ensures
    c.as_slice.result.now c.as_slice.ensures.value c.of.result c.of.ensures in
    IfOk-weaker c.read_record.result _ _ (λ item is. is ∙ c.in-Some-first_named.ensures.found
    ∙ found)
    c.read_record.ensures.found

-- none is
pub returns : goal.returns
returns g c =
    let format = g.R.TableRecord.format in
    let found = found-there format (is_named format c.args.name.now)
    c.self.inside.file c.args.self.now c.self.view_is c.self.invariant.placed
    c.in_ok-places.places.items c.in_ok-places.ensures
    c.as_slice.result.now c.as_slice.ensures.value c.of.result c.of.ensures in
    c.in-None.ensures.found ∙ found
