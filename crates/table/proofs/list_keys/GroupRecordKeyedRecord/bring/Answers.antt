use Rattle.table.proofs.ChangeKeys.{group-brings}
use Rattle.table.proofs.list_keys.GroupRecordKeyedRecord.bring.Goals as goal

pub returns-in-Named-clause-brings : goal.returns-in-Named-clause-brings
returns-in-Named-clause-brings c = group-brings c.args.change.now
