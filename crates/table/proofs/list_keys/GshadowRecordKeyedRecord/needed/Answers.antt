use Rattle.std.proofs.Common.{sym, subst}
use Rattle.std.specs.Prelude.{IfSome}
use Rattle.line_edits.specs.GshadowChanges.{gshadow_becomes}
use Rattle.table.specs.Keys.{Needs, gshadow_keys}
use Rattle.table.proofs.LeaverKeys.{gshadow-leaver}
use Rattle.table.proofs.list_keys.GshadowRecordKeyedRecord.needed.Goals as goal

-- the key is that of the user who leaves
pub returns-in-All : goal.returns-in-All
returns-in-All c =
    let key = c.leaver_of_gshadow.result in
    subst (λ change. IfSome key (Needs gshadow_keys (gshadow_becomes change))) (sym c.in-All.is)
    (gshadow-leaver c.in-All.act key c.leaver_of_gshadow.ensures)
