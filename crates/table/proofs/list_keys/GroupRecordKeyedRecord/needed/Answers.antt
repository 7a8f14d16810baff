use Rattle.std.proofs.Common.{sym, subst}
use Rattle.std.specs.Prelude.{IfSome}
use Rattle.line_edits.specs.GroupChanges.{group_becomes}
use Rattle.table.specs.Keys.{Needs, group_keys}
use Rattle.table.proofs.LeaverKeys.{group-leaver}
use Rattle.table.proofs.list_keys.GroupRecordKeyedRecord.needed.Goals as goal

-- the key is that of the user who leaves
pub returns-in-All : goal.returns-in-All
returns-in-All c =
    let key = c.leaver_of_group.result in
    subst (λ change. IfSome key (Needs group_keys (group_becomes change))) (sym c.in-All.is)
    (group-leaver c.in-All.act key c.leaver_of_group.ensures)
