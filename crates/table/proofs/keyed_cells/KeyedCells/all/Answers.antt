use Rattle.std.proofs.Common.{◌∙◌, sym, ap, subst}
use Rattle.std.proofs.lemmas.Result.{IfOk-weaker}
use Rattle.std.specs.List.{AllByRecursion}
use Rattle.acct_tables.specs.Cells.{ArePlaced}
use Rattle.table.specs.TableCells.{IsSound, Reaches}
use Rattle.table.proofs.ReachLemmas.{all-reaches, places_in}
use Rattle.table.proofs.keyed_cells.KeyedCells.all.Goals as goal

-- all places reach all records
pub returns : goal.returns
returns g c =
    let format = g.R.TableRecord.format in
    IfOk-weaker c.places.result _ _ (λ places is test.
    subst (Reaches format test c.args.self.now) (sym (is ∙ ap places_in c.self.view_is))
    (all-reaches format test c.args.self.now
    (subst (AllByRecursion IsSound) c.self.view_is c.self.invariant.sound)
    (subst ArePlaced c.self.view_is c.self.invariant.placed)))
    c.places.ensures
