use Rattle.std.proofs.Common.{subst}
use Rattle.std.specs.Prelude.{true}
use Rattle.std.specs.List.{AllByRecursion}
use Rattle.std.proofs.lemmas.Result.{IfOk-weaker}
use Rattle.acct_tables.specs.Marks.{marks_in}
use Rattle.acct_tables.specs.Cells.{ArePlaced}
use Rattle.table.specs.TableCells.{IsSound}
use Rattle.table.proofs.ReachLemmas.{marked-touches, reached-touches}
use Rattle.table.proofs.keyed_cells.KeyedCells.marked_of.Goals as goal

-- a line without its marks is left
pub returns-in-Some : goal.returns-in-Some
returns-in-Some g c =
    let format = g.R.TableRecord.format in
    let change = g.R.EditedRecord.becomes c.args.change.now in
    IfOk-weaker c.marked.result _ _ (λ places marked.
    marked-touches format (marks_in c.in-Some.marks) c.args.self.now places.items marked
    (subst (AllByRecursion IsSound) c.self.view_is c.self.invariant.sound)
    (subst ArePlaced c.self.view_is c.self.invariant.placed)
    change c.in-Some.ensures)
    c.marked.ensures

-- all records are reached
pub returns-in-None : goal.returns-in-None
returns-in-None g c =
    let format = g.R.TableRecord.format in
    let change = g.R.EditedRecord.becomes c.args.change.now in
    IfOk-weaker c.all.result _ _ (λ places reached.
    reached-touches format change (λ r. true) c.args.self.now places.items
    (λ r no. absurd cc) (reached (λ r. true)))
    c.all.ensures
