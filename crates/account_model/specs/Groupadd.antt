-- groupadd NAME (groupadd(8)): makes a group.
use Rattle.std.specs.Prelude.{ℕ, Bool, ◌&&◌, not, List, [], ◌∷◌, ◌++◌, codes, is_none, option_and_then, Option, Some, None, if◌then◌else◌}
use Rattle.acct_text.specs.declared.files.Files.{Files}
use Rattle.account_model.specs.declared.refusal.Refusal.{Refusal}
use Rattle.account_model.specs.declared.refusal.Refusal.TheVariants.{GroupExists, GidInUse, NoFreeGid}
use Rattle.account_model.specs.Tables.{Script, no_edits}
use Rattle.account_model.specs.Values.{is_field, given_gid}
use Rattle.account_model.specs.Records.{is_id}
use Rattle.account_model.specs.Settings.{Setting}
use Rattle.account_model.specs.Ids.{used_gids, is_used}
use Rattle.account_model.specs.Request.{Request, has_option, operand}
use Rattle.account_model.specs.Refusals.{refuse_if, bad_value, bad_key, bad_name}
use Rattle.account_model.specs.Action.{Action, changes}
use Rattle.account_model.specs.NewAccount.{kind_of, settings_for, free_gid, new_hash, add_group}
use Rattle.account_model.specs.Users.{has_group}

-- ---- The GID

-- a group has the GID, and `-o` isn't given
abbrev pub is_gid_taken : Request → Files → ℕ → Bool
is_gid_taken request files gid =
    is_used (used_gids files) gid && not (has_option (codes "o") request)

-- the GID that is chosen, from the range of system groups with `-r`
abbrev pub other_gid : Request → Files → List Setting → Option ℕ
other_gid request files settings = free_gid (kind_of request) files (settings_for request settings)

-- the GID of the group: that of `-g`; a chosen one where `-g` isn't given, or where with `-f` its GID is taken
abbrev pub new_gid : Request → Files → List Setting → Option ℕ
new_gid request files settings = elim (given_gid request) [
  | None ↦ other_gid request files settings
  | Some gid ↦ if has_option (codes "f") request && is_gid_taken request files gid
      then other_gid request files settings
      else Some gid
]

-- ---- The refusals

-- the name and the values are tested first
abbrev pub groupadd_checks : List ℕ → Request → List (Option Refusal)
groupadd_checks name request =
    bad_name name
    ∷ bad_key request
    ∷ bad_value (codes "p") is_field request
    ∷ bad_value (codes "g") is_id request
    ∷ []

-- the GID of `-g` is in use, and neither `-o` nor `-f` is given
abbrev pub groupadd_used_gid : Request → Files → Option Refusal
groupadd_used_gid request files = if has_option (codes "f") request
    then None
    else option_and_then (λ gid. refuse_if (is_gid_taken request files gid) (GidInUse gid))
    (given_gid request)

-- and then what is taken
abbrev pub groupadd_conflicts : List ℕ → Request → Files → List Setting → List (Option Refusal)
groupadd_conflicts name request files settings =
    refuse_if (has_group name files) (GroupExists name)
    ∷ groupadd_used_gid request files
    ∷ refuse_if (is_none (new_gid request files settings)) NoFreeGid
    ∷ []

-- ---- The whole

-- `-f` is given and the group exists, so that nothing changes
abbrev pub is_content : List ℕ → Request → Files → Bool
is_content name request files = has_option (codes "f") request && has_group name files

-- the new lines, where there is a GID
abbrev pub groupadd_script : List ℕ → Request → Files → List Setting → Script
groupadd_script name request files settings = elim (new_gid request files settings) [
  | None ↦ no_edits
  | Some gid ↦ add_group name (new_hash request) gid files
]

-- the refusals and the edits that make a group of this name
abbrev pub groupadd_of : List ℕ → Request → Files → List Setting → Action
groupadd_of name request files settings = if is_content name request files
    then changes (groupadd_checks name request) no_edits
    else changes (groupadd_checks name request ++ groupadd_conflicts name request files settings)
    (groupadd_script name request files settings)

-- what groupadd does, by the tables and the settings of login.defs(5)
abbrev pub groupadd : Request → Files → List Setting → Action
groupadd request files settings = groupadd_of (operand request) request files settings
