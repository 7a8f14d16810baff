use Rattle.std.proofs.Common.{◌∙◌, map, ap}
use Rattle.std.specs.Prelude.{is_some}
use Rattle.account_model.specs.Tables.{table_records}
use Rattle.account_model.specs.Ids.{is_used}
use Rattle.carried_tables.proofs.KeptIdLemmas.{known-used, used-found}
use Rattle.carried_tables.proofs.id_table.IdTable.has_id.Goals as goal

-- the kept IDs are those of the records
pub returns-in-Some : goal.returns-in-Some
returns-in-Some g c =
    c.holds.ensures
    ∙ known-used g.R.TableRecord.format g.R.NumberedRecord.id_of c.self.inside.ids c.in-Some.ids
    c.self.inside.table c.args.self.now c.self.invariant c.in-Some.is c.self.view_is c.args.id

-- a record with the ID is looked for
pub returns-in_ok-first_passing-in-None : goal.returns-in_ok-first_passing-in-None
returns-in_ok-first_passing-in-None g c =
    let format = g.R.TableRecord.format in
    let id_of = g.R.NumberedRecord.id_of in
    c.is_some.ensures
    ∙ ap is_some c.in_ok-first_passing-in-None.ensures
    ∙ used-found id_of c.args.id (table_records format c.self.inside.table)
    ∙ ap (λ file. is_used (map id_of (table_records format file)) c.args.id) c.self.view_is
