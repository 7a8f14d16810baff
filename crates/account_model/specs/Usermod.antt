-- usermod LOGIN (usermod(8)): changes a user.
use Rattle.std.specs.Prelude.{ℕ, Bool, false, not, ◌&&◌, ◌||◌, ◌==◌, if◌then◌else◌, List, [], ◌∷◌, ◌++◌, map, bytes_eq, codes, Option, Some, None, is_none, option_map, option_and_then, unwrap_or}
use Rattle.acct_text.specs.declared.files.Files.{Files}
use Rattle.acct_text.specs.declared.Tab.TheVariants.{Subuid, Subgid}
use Rattle.account_model.specs.declared.records.PasswdRecord.{PasswdRecord}
use Rattle.account_model.specs.declared.records.ShadowRecord.{ShadowRecord}
use Rattle.account_model.specs.declared.records.GroupRecord.{GroupRecord}
use Rattle.account_model.specs.declared.records.GshadowRecord.{GshadowRecord}
use Rattle.account_model.specs.declared.refusal.Refusal.{Refusal}
use Rattle.account_model.specs.declared.refusal.Refusal.TheVariants.{UserExists, UidInUse, EmptyHash, NoShadow}
use Rattle.acct_text.specs.Bytes.{is_empty}
use Rattle.account_model.specs.Text.{is_listed}
use Rattle.account_model.specs.Format.{is_named}
use Rattle.account_model.specs.Edits.{each, each_where, edit_if}
use Rattle.account_model.specs.Records.{passwd_format, shadow_format, read_id, is_id}
use Rattle.account_model.specs.Tables.{Script, followed_by}
use Rattle.account_model.specs.Names.{is_valid_name}
use Rattle.account_model.specs.Values.{is_field, is_folder, is_shell, is_days_value, is_expiration_value, days_value, expiration_value, field_value, text_value, given_uid}
use Rattle.account_model.specs.GivenGroups.{given_group, given_groups, unknown_group, unknown_groups}
use Rattle.account_model.specs.Ids.{used_uids, is_used}
use Rattle.account_model.specs.Members.{with_name, without_name, renamed_in}
use Rattle.account_model.specs.Hashes.{locked}
use Rattle.account_model.specs.Request.{Request, has_option, operand}
use Rattle.account_model.specs.Refusals.{refuse_if, bad_value, bad_values, missing_user, bad_list_name}
use Rattle.account_model.specs.Action.{Action, changes}
use Rattle.account_model.specs.Users.{has_user, has_shadow, uid_of, hash_of}
use Rattle.account_model.specs.UsermodHash.{sets_aging, hash_script}
use Rattle.account_model.specs.UsermodRanges.{RangeOwner, RangeChange, is_range, change_asked, change_in, range_edits, meeting_in}

-- ---- Passwd

-- the name of `-l`, and else LOGIN
abbrev pub new_name : Request → List ℕ
new_name request = text_value (codes "l") request (operand request)

-- `-c`, `-d`, `-s`, `-u`, `-g` and `-l` set the fields of passwd
abbrev pub changed_user : Request → Files → PasswdRecord → PasswdRecord
changed_user request files r = record r {
  name = new_name request;
  uid = field_value read_id (codes "u") request r.uid;
  gid = unwrap_or (option_map (λ group. group.gid) (given_group request files)) r.gid;
  comment = text_value (codes "c") request r.comment;
  home = text_value (codes "d") request r.home;
  shell = text_value (codes "s") request r.shell;
}

-- an option sets a field of passwd
abbrev pub sets_passwd : Request → Bool
sets_passwd request =
    has_option (codes "c") request || has_option (codes "d") request
    || has_option (codes "s") request || has_option (codes "u") request
    || has_option (codes "g") request || has_option (codes "l") request

-- ---- Shadow

-- `-e`, `-f` and `-l` set the fields of shadow, and `-p` sets the last change to the day
abbrev pub changed_shadow : Request → ℕ → ShadowRecord → ShadowRecord
changed_shadow request day r = record r {
  name = new_name request;
  last_change = if has_option (codes "p") request then Some day else r.last_change;
  inactive = field_value days_value (codes "f") request r.inactive;
  expiration = field_value expiration_value (codes "e") request r.expiration;
}

-- an option sets a field of shadow
abbrev pub sets_shadow : Request → Bool
sets_shadow request =
    sets_aging request || has_option (codes "l") request || has_option (codes "p") request

-- ---- Groups

-- whether `-G` lists the group
abbrev pub is_listed_group : Request → Files → List ℕ → Bool
is_listed_group request files group =
    is_listed group (map (λ r. r.name) (given_groups request files))

-- `-G` adds LOGIN to the members of each listed group, and without `-a` removes it from those of every other group
abbrev pub joined_or_left : Request → Files → List ℕ → List (List ℕ) → List (List ℕ)
joined_or_left request files group members =
    if not (has_option (codes "G") request) then members else
    (if is_listed_group request files group then with_name (operand request) members else
    (if has_option (codes "a") request then members else without_name (operand request) members))

-- a list in which `-l` has renamed LOGIN
abbrev pub with_new_name : Request → List (List ℕ) → List (List ℕ)
with_new_name request names = renamed_in (operand request) (new_name request) names

-- the members of a group: `-G` acts with LOGIN, and then `-l` renames
abbrev pub members_after : Request → Files → List ℕ → List (List ℕ) → List (List ℕ)
members_after request files group members =
    with_new_name request (joined_or_left request files group members)

-- a line of group
abbrev pub changed_group : Request → Files → GroupRecord → GroupRecord
changed_group request files r = record r { members = members_after request files r.name r.members }

-- a line of gshadow
abbrev pub changed_gshadow : Request → Files → GshadowRecord → GshadowRecord
changed_gshadow request files r = record r {
  administrators = with_new_name request r.administrators;
  members = members_after request files r.name r.members;
}

-- `-G` or `-l` is given, which change these lists
abbrev pub sets_lists : Request → Bool
sets_lists request = has_option (codes "G") request || has_option (codes "l") request

-- ---- Subordinate IDs

-- the UID of `-u`, and else the user's
abbrev pub uid_after : Request → Files → Option ℕ
uid_after request files =
    field_value (λ value. option_map Some (read_id value)) (codes "u") request
    (uid_of (operand request) files)

-- whose the ranges are: they are changed last, for the new name and the new UID
abbrev pub range_owner : Request → Files → RangeOwner
range_owner request files = record {
  old_name = operand request;
  new_name = new_name request;
  uid = uid_after request files;
}

-- `-V` removes from subuid, and `-v` adds what the user lacks
abbrev pub subuid_change : Request → Files → RangeChange
subuid_change request files = change_in files.subuid (range_owner request files)
    (change_asked (codes "V") (codes "v") request)

-- `-W` removes from subgid, and `-w` adds what the user lacks
abbrev pub subgid_change : Request → Files → RangeChange
subgid_change request files = change_in files.subgid (range_owner request files)
    (change_asked (codes "W") (codes "w") request)

-- ---- The refusals

-- the name of `-l` is another user's, in passwd or in shadow
abbrev pub taken_name : Request → Files → Option Refusal
taken_name request files = refuse_if
    (not (bytes_eq (new_name request) (operand request))
    && (has_user (new_name request) files || has_shadow (new_name request) files))
    (UserExists (new_name request))

-- whether it is the user's UID
abbrev pub is_own_uid : Request → Files → ℕ → Bool
is_own_uid request files uid =
    elim (uid_of (operand request) files) [ None ↦ false | Some own ↦ uid == own ]

-- the UID isn't the user's and is in use, and `-o` isn't given
abbrev pub is_uid_taken : Request → Files → ℕ → Bool
is_uid_taken request files uid =
    is_used (used_uids files) uid && not (has_option (codes "o") request)
    && not (is_own_uid request files uid)

-- the UID of `-u` is taken
abbrev pub taken_uid : Request → Files → Option Refusal
taken_uid request files =
    option_and_then (λ uid. refuse_if (is_uid_taken request files uid) (UidInUse uid))
    (given_uid request)

-- `-U` would leave an empty hash
abbrev pub empty_hash : Request → Files → Option Refusal
empty_hash request files = refuse_if
    (has_option (codes "U") request && bytes_eq (hash_of (operand request) files) locked)
    (EmptyHash (operand request))

-- `-e` and `-f` set fields of shadow, and shadow is absent
abbrev pub no_shadow : Request → Files → Option Refusal
no_shadow request files = refuse_if (sets_aging request && is_none files.shadow) NoShadow

-- `-G` would add LOGIN to a list, in which it can't stand
abbrev pub unlistable_name : Request → Files → Option Refusal
unlistable_name request files =
    if is_empty (given_groups request files) then None else bad_list_name (operand request)

-- the values are tested first
abbrev pub usermod_checks : Request → List (Option Refusal)
usermod_checks request =
    bad_value (codes "c") is_field request
    ∷ bad_value (codes "d") is_folder request
    ∷ bad_value (codes "e") is_expiration_value request
    ∷ bad_value (codes "f") is_days_value request
    ∷ bad_value (codes "s") is_shell request
    ∷ bad_value (codes "p") is_field request
    ∷ bad_value (codes "l") is_valid_name request
    ∷ bad_value (codes "u") is_id request
    ∷ bad_values (codes "v") is_range request
    ∷ bad_values (codes "V") is_range request
    ∷ bad_values (codes "w") is_range request
    ∷ bad_values (codes "W") is_range request
    ∷ []

-- and then what is missing or taken; the last is of the name that `-G` would add
abbrev pub usermod_conflicts : Request → Files → List (Option Refusal)
usermod_conflicts request files =
    missing_user (operand request) files
    ∷ taken_name request files
    ∷ taken_uid request files
    ∷ unknown_group request files
    ∷ unknown_groups request files
    ∷ empty_hash request files
    ∷ meeting_in Subuid (range_owner request files) (subuid_change request files) files.subuid
    ∷ meeting_in Subgid (range_owner request files) (subgid_change request files) files.subgid
    ∷ no_shadow request files
    ∷ unlistable_name request files
    ∷ []

-- all refusals, in the order in which they are tested
abbrev pub usermod_refusals : Request → Files → List (Option Refusal)
usermod_refusals request files = usermod_checks request ++ usermod_conflicts request files

-- ---- The whole

-- each table once, where an option asks for it: LOGIN's lines of passwd and shadow, and all lists of group and gshadow;
-- and LOGIN's ranges
abbrev pub change_user : Request → Files → ℕ → Script
change_user request files day = record {
  passwd = edit_if (sets_passwd request)
      (each_where (is_named passwd_format (operand request)) (changed_user request files));
  shadow = edit_if (sets_shadow request)
      (each_where (is_named shadow_format (operand request)) (changed_shadow request day));
  group = edit_if (sets_lists request) (each (changed_group request files));
  gshadow = edit_if (sets_lists request) (each (changed_gshadow request files));
  subuid = range_edits (range_owner request files) (subuid_change request files);
  subgid = range_edits (range_owner request files) (subgid_change request files);
}

-- the hash first, as it finds the user by the old name
abbrev pub usermod_script : Request → Files → ℕ → Script
usermod_script request files day =
    followed_by (hash_script request files) (change_user request files day)

-- what usermod does, by the tables and the day
abbrev pub usermod : Request → Files → ℕ → Action
usermod request files day = changes (usermod_refusals request files)
    (usermod_script request files day)
