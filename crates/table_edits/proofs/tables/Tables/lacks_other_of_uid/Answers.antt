use Rattle.std.proofs.Common.{◌≤◌, subst}
use Rattle.std.specs.Prelude.{◌==◌}
use Rattle.std.proofs.lemmas.Result.{IfOk-weaker}
use Rattle.account_model.specs.Tables.{passwd_records}
use Rattle.table_edits.proofs.OtherUsers.{none-beside, uid-counted}
use Rattle.table_edits.proofs.tables.Tables.lacks_other_of_uid.Goals as goal

-- the user of the name is the one that has it
pub returns-then-is_uid_alone : goal.returns-then-is_uid_alone
returns-then-is_uid_alone c =
    let uid = c.args.uid in
    let users = passwd_records c.args.self.now in
    IfOk-weaker c.is_of_uid.result _ _ (λ is told yes.
    none-beside (λ user. user.uid == uid) c.args.name.now users (told yes)
    (subst (λ count. count ≤ 1) (uid-counted uid users)
    (c.is_uid_alone.ensures c.if-is_uid_alone.true)))
    c.is_of_uid.ensures
