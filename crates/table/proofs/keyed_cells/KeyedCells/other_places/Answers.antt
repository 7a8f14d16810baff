use Rattle.std.proofs.Common.{ap, subst}
use Rattle.std.specs.List.{AllByRecursion}
use Rattle.line_edits.specs.SeenEdits.{seen_edit}
use Rattle.line_edits.specs.Touching.{touches_alone}
use Rattle.acct_tables.specs.Cells.{ArePlaced}
use Rattle.table.specs.TableCells.{IsSound}
use Rattle.table.proofs.MetRecords.{added-meets}
use Rattle.table.proofs.keyed_cells.KeyedCells.other_places.Goals as goal

-- one that is added touches no record
pub returns-in-Add-clause-met : goal.returns-in-Add-clause-met
returns-in-Add-clause-met g c =
    let format = g.R.TableRecord.format in
    let becomes = g.R.EditedRecord.becomes in
    added-meets format c.args.self.now c.new.result.items (seen_edit becomes c.args.edit.now)
    (λ r. ap (λ edit. touches_alone format (seen_edit becomes edit) r) c.in-Add.is)
    c.new.ensures.items
    (subst (AllByRecursion IsSound) c.self.view_is c.self.invariant.sound)
    (subst ArePlaced c.self.view_is c.self.invariant.placed)

pub returns-in-AddMissing-clause-met : goal.returns-in-AddMissing-clause-met
returns-in-AddMissing-clause-met g c =
    let format = g.R.TableRecord.format in
    let becomes = g.R.EditedRecord.becomes in
    added-meets format c.args.self.now c.new-in-AddMissing.result.items
    (seen_edit becomes c.args.edit.now)
    (λ r. ap (λ edit. touches_alone format (seen_edit becomes edit) r) c.in-AddMissing.is)
    c.new-in-AddMissing.ensures.items
    (subst (AllByRecursion IsSound) c.self.view_is c.self.invariant.sound)
    (subst ArePlaced c.self.view_is c.self.invariant.placed)
