use Rattle.std.proofs.Common.{subst, sym}
use Rattle.std.specs.Prelude.{IfSome}
use Rattle.std.proofs.lemmas.Result.{IfOk-weaker}
use Rattle.account_model.specs.Format.{is_named}
use Rattle.line_edits.specs.SeenEdits.{seen_edit}
use Rattle.table.specs.Met.{TouchesNamed}
use Rattle.table.specs.TableCells.{Reaches}
use Rattle.table.proofs.SettledEdits.{named-edited, named-meets}
use Rattle.table.proofs.keyed_cells.KeyedCells.met_places.Goals as goal

-- the records of the one name are all that it touches
pub returns-in-Some-clause-met : goal.returns-in-Some-clause-met
returns-in-Some-clause-met g c =
    let format = g.R.TableRecord.format in
    let edit = seen_edit g.R.EditedRecord.becomes c.args.edit.now in
    IfOk-weaker c.places_of.result _ _ (λ places reached.
    named-meets format edit c.in-Some.name.now c.args.self.now places.items
    g.met.R.TableRecord.is_line_format.same
    (subst (λ name. IfSome name (λ name. TouchesNamed format edit name.now)) c.in-Some.is c.requires)
    reached)
    c.places_of.ensures

pub returns-in-Some-clause-named : goal.returns-in-Some-clause-named
returns-in-Some-clause-named g c =
    let format = g.R.TableRecord.format in
    IfOk-weaker c.places_of.result _ _ (λ places reached.
    subst (λ name. IfSome name (λ name.
    Reaches format (is_named format name.now) c.args.self.now places.items)) (sym c.in-Some.is)
    reached)
    c.places_of.ensures

pub returns-in-Some-clause-edited : goal.returns-in-Some-clause-edited
returns-in-Some-clause-edited g c =
    let format = g.R.TableRecord.format in
    let edit = seen_edit g.R.EditedRecord.becomes c.args.edit.now in
    IfOk-weaker c.places_of.result _ _ (λ places reached.
    named-edited format edit c.in-Some.name.now c.args.self.now places.items
    (subst (λ name. IfSome name (λ name. TouchesNamed format edit name.now)) c.in-Some.is c.requires)
    reached)
    c.places_of.ensures
