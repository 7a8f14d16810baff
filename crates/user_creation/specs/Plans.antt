-- The IDs that useradd has planned for a new user (useradd(8)).
use Rattle.std.specs.Prelude.{◌≡◌, ℕ, List, Option, Some}
use Rattle.acct_text.specs.declared.files.Files.{Files}
use Rattle.account_model.specs.declared.new_user.Plan.{Plan}
use Rattle.account_model.specs.Request.{Request}
use Rattle.account_model.specs.Settings.{Setting}
use Rattle.account_model.specs.Useradd.{new_uid, primary_gid}
use Rattle.login_defs.specs.declared.defs.Defs.{Defs}
use Rattle.login_defs.specs.Held.{HasSettings}
use Rattle.user_creation.specs.declared.plan.NewIds.{NewIds}

-- the primary GID of a user of the UID that is given or chosen
abbrev pub GivesPrimaryGid : Defs → Request → Files → Option ℕ → Option ℕ → Type 0
GivesPrimaryGid defs request files uid gid = (settings : List Setting) → HasSettings defs settings
    → uid ≡ new_uid request files settings
    → gid ≡ primary_gid request files settings

-- these IDs are those of the plan
pub record ArePlannedIds (plan : Plan) (ids : NewIds) : Type 0 where
  pub uid : plan.uid ≡ Some ids.uid
  pub gid : plan.gid ≡ Some ids.gid
