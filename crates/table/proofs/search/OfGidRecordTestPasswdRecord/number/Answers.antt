use Rattle.table.proofs.NumberLemmas.{gid-of-user}
use Rattle.table.proofs.search.OfGidRecordTestPasswdRecord.number.Goals as goal

-- the line of a user has the text of its primary GID
pub returns : goal.returns
returns c = gid-of-user c.args.self.now.gid
