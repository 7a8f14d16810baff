use Rattle.table.proofs.ChangeKeys.{gshadow-brings}
use Rattle.table.proofs.list_keys.GshadowRecordKeyedRecord.bring.Goals as goal

pub returns-in-Named-clause-brings : goal.returns-in-Named-clause-brings
returns-in-Named-clause-brings c = gshadow-brings c.args.change.now
