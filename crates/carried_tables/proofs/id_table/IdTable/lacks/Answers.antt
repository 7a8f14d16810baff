use Rattle.std.proofs.Common.{◌∙◌, sym}
use Rattle.std.proofs.lemmas.Bool.{not-true}
use Rattle.carried_tables.proofs.KeptIdLemmas.{known-used}
use Rattle.carried_tables.proofs.id_table.IdTable.lacks.Goals as goal

-- an ID that isn't used is that of no record
pub returns-in-Some : goal.returns-in-Some
returns-in-Some g c = λ lacks.
    sym (known-used g.R.TableRecord.format g.R.NumberedRecord.id_of c.self.inside.ids c.in-Some.ids
    c.self.inside.table c.args.self.now c.self.invariant c.in-Some.is c.self.view_is c.args.id)
    ∙ sym c.holds.ensures ∙ not-true c.holds.result lacks
