use Rattle.std.proofs.Common.{◌∙◌, ap, refl}
use Rattle.std.proofs.lemmas.Result.{IfOk-weaker, on_ok_weaker}
use Rattle.acct_tables.specs.Cells.{lines_now}
use Rattle.table.specs.Changed.{changed_there}
use Rattle.table.proofs.ReachLemmas.{reached-changes}
use Rattle.table.proofs.keyed_cells.KeyedCells.change_in.Goals as goal

-- each record elsewhere is left
pub returns-clause-edited : goal.returns-clause-edited
returns-clause-edited g c =
    let format = g.R.TableRecord.format in
    let becomes = g.R.EditedRecord.becomes c.args.change.now in
    on_ok_weaker c.change_each.result (λ changed.
    ap lines_now changed
    ∙ ap (λ cells. lines_now (changed_there format becomes c.args.places.now cells)) c.wear.ensures
    ∙ reached-changes format becomes c.args.self.now g.met.R.TableRecord.is_line_format.same
    c.args.places.now c.requires.places c.args.places.now refl)
    c.change_each.ensures.changed

pub returns-clause-same : goal.returns-clause-same
returns-clause-same g c =
    IfOk-weaker c.change_each.result _ _ (λ differ same is.
    ap lines_now (same is ∙ c.wear.ensures))
    c.change_each.ensures.same
