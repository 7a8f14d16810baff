use Rattle.user_removal.proofs.OtherNumbers.{gid-of-other, uid-of-other}
use Rattle.user_removal.proofs.others.OtherWithRecordTestPasswdRecord.number.Goals as goal

pub returns-in-Uid : goal.returns-in-Uid
returns-in-Uid c =
    uid-of-other c.args.self.now.name.now c.args.self.now.id c.in-Uid.uid c.in-Uid.is

pub returns-in-Gid : goal.returns-in-Gid
returns-in-Gid c =
    gid-of-other c.args.self.now.name.now c.args.self.now.id c.in-Gid.gid c.in-Gid.is
