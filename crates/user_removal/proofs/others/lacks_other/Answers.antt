use Rattle.std.proofs.Common.{◌∙◌, ap}
use Rattle.std.specs.Prelude.{find}
use Rattle.std.proofs.lemmas.Result.{IfOk-weaker}
use Rattle.account_model.specs.Users.{other_users}
use Rattle.user_removal.specs.Others.{has_id}
use Rattle.user_removal.proofs.others.lacks_other.Goals as goal

-- the ID is the UID that is asked for
pub returns-in-Uid : goal.returns-in-Uid
returns-in-Uid c =
    let others = other_users c.args.name.now c.args.tables.now in
    IfOk-weaker c.lacks_other_of_uid.result _ _ (λ lacks told yes.
    ap (λ id. find (has_id id) others) c.in-Uid.is ∙ told yes)
    c.lacks_other_of_uid.ensures
