use Rattle.std.proofs.Common.{subst, sym}
use Rattle.table.specs.Keys.{user_keys}
use Rattle.table.specs.Accepting.{IsKeyOf}
use Rattle.user_removal.specs.Others.{is_other_with}
use Rattle.user_removal.proofs.OtherNumbers.{key-of-other}
use Rattle.user_removal.proofs.others.OtherWithRecordTestPasswdRecord.key.Goals as goal

-- who passes has the GID
pub returns-in-Gid : goal.returns-in-Gid
returns-in-Gid c =
    let name = c.args.self.now.name.now in
    let id = c.args.self.now.id in
    subst (IsKeyOf user_keys (is_other_with name id)) (sym c.from.ensures)
    (key-of-other name id c.in-Gid.gid c.in-Gid.is)
