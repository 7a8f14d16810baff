use Rattle.std.proofs.Common.{◌∙◌}
use Rattle.std.proofs.lemmas.Result.{IfOk-weaker}
use Rattle.account_model.specs.Format.{is_named}
use Rattle.table.proofs.ReachedRecords.{kept-there}
use Rattle.table.proofs.keyed_cells.KeyedCells.all_named.Goals as goal

-- the records of the name are among the reached texts
pub returns : goal.returns
returns g c =
    let format = g.R.TableRecord.format in
    let kept = kept-there format (is_named format c.args.name.now)
    c.self.inside.file c.args.self.now c.self.view_is c.self.invariant.placed
    c.in_ok-places.places.items c.in_ok-places.ensures
    c.as_slice.result.now c.as_slice.ensures.value c.of.result c.of.ensures in
    IfOk-weaker c.all_named.result _ _ (λ found is. is ∙ kept) c.all_named.ensures
