use Rattle.std.proofs.Common.{◌∙◌, subst, sym}
use Rattle.table.specs.FirstMet.{StandsNoEarlier}
use Rattle.table.proofs.SettledEdits.{reached-no_earlier}
use Rattle.table.proofs.keyed_cells.KeyedCells.key_behind.Goals as goal

-- the places that are reached by the key begin behind it
pub returns : goal.returns
returns g c =
    let format = g.R.TableRecord.format in
    let keys = g.R.KeyedRecord.keys in
    let cells = c.args.self.now in
    subst (λ place. StandsNoEarlier format keys cells place c.in-Some.key)
    (sym c.in-Become-Some.is-1)
    (reached-no_earlier format keys cells c.in-Some.key c.in-Become-Some.place
    c.in_ok-places.places.items c.in_ok-places.ensures
    (λ first later is. c.begin_from.ensures c.if-not-begin_from.false first later
    (c.as_slice.ensures.value ∙ is)))
