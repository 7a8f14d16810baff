use Rattle.std.proofs.Common.{◌∙◌, ap, sym, subst}
use Rattle.std.specs.List.{list_any}
use Rattle.acct_tables.specs.KeyPlaces.{told_places}
use Rattle.table.specs.TableCells.{AreKept, has_named_in}
use Rattle.table.proofs.NamedPlaces.{any-named, listed-named}
use Rattle.table.proofs.keyed_cells.KeyedCells.has.Goals as goal

-- a record of the name stands in a place that is told of its key
pub returns-in-Some-listed : goal.returns-in-Some-listed
returns-in-Some-listed g c =
    let format = g.R.TableRecord.format in
    let keys = g.R.KeyedRecord.keys in
    let name = c.args.name.now in
    let told = told_places c.self.inside.keys in
    let cells = c.args.self.now in
    c.has_at_one.ensures
    ∙ listed-named format keys told name cells c.in-Some-listed.listed g.met.R.KeyedRecord.own
    (subst (AreKept format keys told) c.self.view_is c.self.invariant)
    (sym (ap told c.own_key.ensures) ∙ sym c.listed.ensures ∙ c.in-Some-listed.is)
    ∙ any-named format name cells

-- or in any
pub returns-in-None : goal.returns-in-None
returns-in-None g c =
    let format = g.R.TableRecord.format in
    let name = c.args.name.now in
    c.has_in_one.ensures
    ∙ ap (list_any (has_named_in format name)) (c.cells.ensures.cells ∙ c.self.view_is)
    ∙ any-named format name c.args.self.now
