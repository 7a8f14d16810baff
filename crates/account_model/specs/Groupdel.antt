-- groupdel GROUP (groupdel(8)): removes a group.
use Rattle.std.specs.Prelude.{ℕ, List, [], ◌∷◌, codes, find, ◌==◌, Option, None, option_map, option_and_then, if◌then◌else◌}
use Rattle.acct_text.specs.declared.files.Files.{Files}
use Rattle.account_model.specs.declared.records.GroupRecord.{GroupRecord}
use Rattle.account_model.specs.declared.records.PasswdRecord.{PasswdRecord}
use Rattle.account_model.specs.declared.refusal.Refusal.{Refusal}
use Rattle.account_model.specs.declared.refusal.Refusal.TheVariants.{PrimaryGroup}
use Rattle.account_model.specs.Format.{is_named}
use Rattle.account_model.specs.Edits.{drop_where}
use Rattle.account_model.specs.Records.{group_format, gshadow_format}
use Rattle.account_model.specs.Tables.{Script, no_edits, passwd_records}
use Rattle.account_model.specs.Request.{Request, has_option, operand}
use Rattle.account_model.specs.Refusals.{missing_group}
use Rattle.account_model.specs.Action.{Action, changes}
use Rattle.account_model.specs.Users.{group_named}

-- the first user whose primary group it is
abbrev pub primary_user : Files → GroupRecord → Option PasswdRecord
primary_user files group = find (λ user. user.gid == group.gid) (passwd_records files)

-- the group is the primary group of a user
abbrev pub still_primary : List ℕ → Files → Option Refusal
still_primary group files = option_map (λ user. PrimaryGroup group user.name)
    (option_and_then (primary_user files) (group_named group files))

-- the group isn't there; it is a user's primary group, and `-f` isn't given
abbrev pub groupdel_refusals : List ℕ → Request → Files → List (Option Refusal)
groupdel_refusals group request files =
    missing_group group files
    ∷ (if has_option (codes "f") request then None else still_primary group files)
    ∷ []

-- the records of the group go from group and gshadow
abbrev pub remove_group : List ℕ → Script
remove_group group = record no_edits {
  group = drop_where (is_named group_format group) ∷ [];
  gshadow = drop_where (is_named gshadow_format group) ∷ [];
}

-- what groupdel does, by the tables
abbrev pub groupdel : Request → Files → Action
groupdel request files =
    changes (groupdel_refusals (operand request) request files) (remove_group (operand request))
