use Rattle.std.proofs.Common.{[], ◌∷◌, subst}
use Rattle.std.specs.Prelude.{IfSome}
use Rattle.std.specs.List.{AllByRecursion}
use Rattle.std.proofs.lemmas.Result.{IfOk-weaker}
use Rattle.account_model.specs.Format.{is_named}
use Rattle.line_edits.proofs.MarkLemmas.{other-record}
use Rattle.acct_tables.specs.Cells.{AreMarked, ArePlaced}
use Rattle.acct_tables.specs.KeyPlaces.{ArePlacesOf, told_places}
use Rattle.table.specs.TableCells.{AreKept, IsSound}
use Rattle.table.proofs.ReachLemmas.{marked-reaches, named-reached, told-reaches}
use Rattle.table.proofs.keyed_cells.KeyedCells.places_of.Goals as goal

-- each record of the name has its own key
pub returns-in-Some : goal.returns-in-Some
returns-in-Some g c =
    let format = g.R.TableRecord.format in
    let keys = g.R.KeyedRecord.keys in
    let told = told_places c.self.inside.keys in
    let cells = c.args.self.now in
    let places = c.in-Some.places.items in
    named-reached format keys c.args.name.now cells places g.met.R.KeyedRecord.own
    (told-reaches format keys told _ cells places
    (subst (AreKept format keys told) c.self.view_is c.self.invariant)
    (subst (λ key. ArePlacesOf told key places) c.own_key.ensures
    (subst (λ found. IfSome found (λ places. ArePlacesOf told c.own_key.result places.items))
    c.in-Some.is (c.in_ok-places.ensures {u = tt}))))

-- and its line the name for a mark
pub returns-in-None : goal.returns-in-None
returns-in-None g c =
    let format = g.R.TableRecord.format in
    let name = c.args.name.now in
    let cells = c.args.self.now in
    IfOk-weaker c.marked.result _ _ (λ places marked.
    marked-reaches format (name ∷ []) cells places.items
    (subst (λ marks. AreMarked marks cells places.items) c.one.ensures marked)
    (subst (AllByRecursion IsSound) c.self.view_is c.self.invariant.sound)
    (subst ArePlaced c.self.view_is c.self.invariant.placed)
    (is_named format name)
    (λ text without r reads.
    other-record format g.met.R.TableRecord.names_first name text r reads without.0))
    c.marked.ensures
