use Rattle.std.proofs.Common.{◌∙◌}
use Rattle.std.proofs.lemmas.Result.{IfOk-weaker}
use Rattle.acct_tables.specs.KeyPlaces.{has_key}
use Rattle.table.proofs.ReachLemmas.{reaches-weaker}
use Rattle.table.proofs.ReachedRecords.{found-there}
use Rattle.table.proofs.keyed_cells.KeyedCells.first_passing.Goals as goal

-- the records that pass have the key, so they are among the reached texts
pub returns-in_ok-places-in-Some : goal.returns-in_ok-places-in-Some
returns-in_ok-places-in-Some g c =
    let format = g.R.TableRecord.format in
    let test = g.T.RecordTest.accepts c.args.test.now in
    let found = found-there format test
    c.self.inside.file c.args.self.now c.self.view_is c.self.invariant.placed
    c.in_ok-places-in-Some.places.items
    (reaches-weaker format test (λ r. has_key c.in-Some.key (g.R.KeyedRecord.keys r))
    c.args.self.now c.in_ok-places-in-Some.places.items c.in-Some.ensures
    c.in_ok-places-in-Some.ensures)
    c.as_slice.result.now c.as_slice.ensures.value c.of.result c.of.ensures in
    IfOk-weaker c.first_accepted.result _ _ (λ item is. is ∙ found) c.first_accepted.ensures
