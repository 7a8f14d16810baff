use Rattle.carried_tables.proofs.KeptIdLemmas.{known-used}
use Rattle.carried_tables.proofs.id_table.IdTable.used.Goals as goal

-- the kept ones are those of the records
pub returns-in-Some : goal.returns-in-Some
returns-in-Some g c =
    known-used g.R.TableRecord.format g.R.NumberedRecord.id_of c.self.inside.ids c.in-Some.ids
    c.self.inside.table c.args.self.now c.self.invariant c.in-Some.is c.self.view_is
