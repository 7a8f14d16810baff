-- Users with another name that a user shares an ID with (userdel(8)).
use Rattle.std.specs.Prelude.{ℕ, Bool, not, ◌&&◌, ◌==◌, List}
use Rattle.account_model.specs.declared.records.PasswdRecord.{PasswdRecord}
use Rattle.account_model.specs.Format.{is_named}
use Rattle.account_model.specs.Records.{passwd_format}
use Rattle.user_removal.specs.declared.others.AccountId.{AccountId}
use Rattle.user_removal.specs.declared.others.AccountId.TheVariants.{Uid, Gid}

-- whether the user has the ID
abbrev pub has_id : AccountId → PasswdRecord → Bool
has_id (Uid uid) user = user.uid == uid
has_id (Gid gid) user = user.gid == gid

-- whether the user has another name, and the ID
abbrev pub is_other_with : List ℕ → AccountId → PasswdRecord → Bool
is_other_with name id user = not (is_named passwd_format name user) && has_id id user
