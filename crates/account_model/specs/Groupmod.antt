-- groupmod GROUP (groupmod(8)): changes a group's GID, name or password.
use Rattle.std.specs.Prelude.{ℕ, ◌&&◌, ◌||◌, not, List, [], ◌∷◌, codes, bytes_eq, ◌==◌, option_and_then, Option, Some, None, if◌then◌else◌}
use Rattle.acct_text.specs.declared.files.Files.{Files}
use Rattle.account_model.specs.declared.records.GroupRecord.{GroupRecord}
use Rattle.account_model.specs.declared.refusal.Refusal.{Refusal}
use Rattle.account_model.specs.declared.refusal.Refusal.TheVariants.{GroupExists, GidInUse}
use Rattle.account_model.specs.Format.{is_named}
use Rattle.account_model.specs.Edits.{each_where}
use Rattle.account_model.specs.Records.{group_format, gshadow_format, is_id}
use Rattle.account_model.specs.Tables.{Script, no_edits, in_order}
use Rattle.account_model.specs.Names.{is_valid_name}
use Rattle.account_model.specs.Values.{is_field, given_gid}
use Rattle.account_model.specs.Ids.{used_gids, is_used}
use Rattle.account_model.specs.Hashes.{set_group_hash}
use Rattle.account_model.specs.Request.{Request, has_option, operand}
use Rattle.account_model.specs.Refusals.{refuse_if, refuse_value, bad_value, missing_group}
use Rattle.account_model.specs.Action.{Action, changes, with_option}
use Rattle.account_model.specs.Users.{group_named, has_group, has_gshadow}

-- ---- The refusals

-- the name of `-n` differs from the group's, and is taken in group or gshadow
abbrev pub taken_group_name : List ℕ → Files → List ℕ → Option Refusal
taken_group_name group files name = refuse_if
    (not (bytes_eq name group) && (has_group name files || has_gshadow name files))
    (GroupExists name)

-- the GID differs from the group's, and is in use
abbrev pub taken_gid : Files → ℕ → GroupRecord → Option Refusal
taken_gid files gid old =
    refuse_if (not (gid == old.gid) && is_used (used_gids files) gid) (GidInUse gid)

-- the GID of `-g` is another group's, and `-o` isn't given
abbrev pub groupmod_used_gid : List ℕ → Request → Files → Option Refusal
groupmod_used_gid group request files = if has_option (codes "o") request
    then None
    else option_and_then (λ gid. option_and_then (taken_gid files gid) (group_named group files))
    (given_gid request)

-- in the order in which they are tested
abbrev pub groupmod_refusals : List ℕ → Request → Files → List (Option Refusal)
groupmod_refusals group request files =
    bad_value (codes "g") is_id request
    ∷ bad_value (codes "n") is_valid_name request
    ∷ bad_value (codes "p") is_field request
    ∷ missing_group group files
    ∷ refuse_value (codes "n") request (taken_group_name group files)
    ∷ groupmod_used_gid group request files
    ∷ []

-- ---- The edits

-- the group gets the GID, and so does every user whose primary group had the old one
abbrev pub set_gid : List ℕ → ℕ → GroupRecord → Script
set_gid group gid old = record no_edits {
  group = each_where (is_named group_format group) (λ r. record r { gid = gid }) ∷ [];
  passwd = each_where (λ user. user.gid == old.gid) (λ user. record user { gid = gid }) ∷ [];
}

-- the GID of `-g`
abbrev pub gid_script : List ℕ → Request → Files → Script
gid_script group request files = elim (given_gid request) [
  | None ↦ no_edits
  | Some gid ↦ elim (group_named group files) [ None ↦ no_edits | Some old ↦ set_gid group gid old ]
]

-- the group gets the name, in group and gshadow
abbrev pub rename_group : List ℕ → List ℕ → Script
rename_group old new = record no_edits {
  group = each_where (is_named group_format old) (λ r. record r { name = new }) ∷ [];
  gshadow = each_where (is_named gshadow_format old) (λ r. record r { name = new }) ∷ [];
}

-- the hash of `-p`, the GID of `-g`, and at last the name of `-n`, as the others find the group by the old one
abbrev pub groupmod_script : List ℕ → Request → Files → Script
groupmod_script group request files = in_order
    (with_option (codes "p") request (λ hash. set_group_hash group hash files)
    ∷ gid_script group request files
    ∷ with_option (codes "n") request (rename_group group)
    ∷ [])

-- ---- The whole

-- what groupmod does, by the tables
abbrev pub groupmod : Request → Files → Action
groupmod request files =
    changes (groupmod_refusals (operand request) request files)
    (groupmod_script (operand request) request files)
