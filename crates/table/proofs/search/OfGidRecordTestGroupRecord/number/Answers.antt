use Rattle.table.proofs.NumberLemmas.{gid-of-group}
use Rattle.table.proofs.search.OfGidRecordTestGroupRecord.number.Goals as goal

-- the line of a group has the text of its GID
pub returns : goal.returns
returns c = gid-of-group c.args.self.now.gid
