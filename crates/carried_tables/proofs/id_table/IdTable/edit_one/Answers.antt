use Rattle.carried_tables.proofs.EditedTables.{only-one, only-written}
use Rattle.carried_tables.proofs.id_table.IdTable.edit_one.Goals as goal

-- the edit may print what the only one may
pub ids_after-requires-clause-written : goal.ids_after-requires-clause-written
ids_after-requires-clause-written g c =
    only-written g.R.EditedRecord.becomes g.R.TableRecord.format c.args.one.now
    c.index-one-0.result
    (only-one c.args.one.now c.index-one-0.result c.requires.single c.index-one-0.is)
    c.requires.written
