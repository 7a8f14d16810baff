use Rattle.std.proofs.Common.{◌∙◌, ap, refl, sym}
use Rattle.std.specs.Prelude.{nat_le}
use Rattle.account_model.specs.Format.{is_named}
use Rattle.line_edits.proofs.LeftLemmas.{isn't}
use Rattle.table.proofs.ReachedRecords.{counted-there}
use Rattle.table.proofs.keyed_cells.KeyedCells.is_single.Goals as goal

-- as many records of the name are among the reached texts
pub returns : goal.returns
returns g c = λ single.
    let format = g.R.TableRecord.format in
    let places = c.args.places.now in
    sym (sym (isn't c.are_several_named.result single)
    ∙ c.are_several_named.ensures
    ∙ ap (nat_le 2) (counted-there format (is_named format c.args.name.now)
    c.self.inside.file c.args.self.now c.self.view_is c.self.invariant.placed
    places c.requires places refl c.of.result c.of.ensures))
