use Rattle.std.proofs.Common.{◌∙◌, sym, ap, subst}
use Rattle.std.specs.Prelude.{IfSome}
use Rattle.std.proofs.lemmas.Result.{IfOk-weaker}
use Rattle.acct_tables.specs.Marks.{marks_in}
use Rattle.acct_tables.specs.Cells.{AreMarked, ArePlaced}
use Rattle.table.proofs.ReachLemmas.{all-marked, places_in}
use Rattle.table.proofs.keyed_cells.KeyedCells.marked.Goals as goal

-- those of the file are those of the table
pub returns-in-Some : goal.returns-in-Some
returns-in-Some g c =
    let marks = marks_in c.args.marks in
    subst (λ cells. AreMarked marks cells c.in-Some.places.items) c.self.view_is
    (subst (λ found. IfSome found (λ places. AreMarked marks c.self.inside.file places.items))
    c.in-Some.is (c.in_ok-places.ensures {u = tt}))

-- all places have all texts
pub returns-in-None : goal.returns-in-None
returns-in-None g c =
    let marks = marks_in c.args.marks in
    IfOk-weaker c.places.result _ _ (λ places is.
    subst (AreMarked marks c.args.self.now) (sym (is ∙ ap places_in c.self.view_is))
    (all-marked marks c.args.self.now
    (subst ArePlaced c.self.view_is c.self.invariant.placed)))
    c.places.ensures
