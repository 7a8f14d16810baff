use Rattle.std.proofs.lemmas.Result.{IfOk-weaker}
use Rattle.acct_tables.specs.KeyPlaces.{has_key}
use Rattle.table.proofs.keyed_cells.KeyedCells.reached.Goals as goal

-- all places reach all records
pub returns-in-None : goal.returns-in-None
returns-in-None g c =
    IfOk-weaker c.all.result _ _ (λ places reached.
    reached (λ r. has_key c.args.key (g.R.KeyedRecord.keys r)))
    c.all.ensures
