use Rattle.std.proofs.Common.{sym, subst}
use Rattle.std.proofs.lemmas.Result.{IfOk-weaker}
use Rattle.account_model.specs.Tables.{table_records}
use Rattle.carried_tables.specs.KeptIds.{AreIdsOf, counts_of}
use Rattle.carried_tables.proofs.KeptIdLemmas.{kept-all}
use Rattle.carried_tables.proofs.id_table.follow_change.Goals as goal

-- the change leaves all IDs
pub returns-then-keeps_ids : goal.returns-then-keeps_ids
returns-then-keeps_ids g c = λ told are.
    let format = g.R.TableRecord.format in
    let id_of = g.R.NumberedRecord.id_of in
    let change = g.R.EditedRecord.becomes c.args.change.now in
    subst (λ ids. AreIdsOf c.args.ids.now (counts_of ids))
    (sym (kept-all format id_of change (table_records format c.args.table.now)
    (c.keeps_ids.ensures c.if-keeps_ids.true))) are

-- it changes the IDs of one name
pub returns-in-Some : goal.returns-in-Some
returns-in-Some g c =
    let change = g.R.EditedRecord.becomes c.args.change.now in
    IfOk-weaker c.renumber.result _ _ (λ is_known follow told. follow told change c.in-Some.ensures)
    c.renumber.ensures
