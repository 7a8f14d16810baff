-- useradd LOGIN (useradd(8)): makes a user.
use Rattle.std.specs.Prelude.{ℕ, Bool, not, ◌&&◌, ◌||◌, if◌then◌else◌, List, [], ◌∷◌, ◌++◌, map, codes, Option, Some, None, is_some, is_none, option_map, option_and_then, unwrap_or}
use Rattle.std.specs.List.{list_any}
use Rattle.acct_text.specs.declared.files.Files.{Files}
use Rattle.acct_text.specs.declared.Tab.{Tab}
use Rattle.acct_text.specs.declared.Tab.TheVariants.{Subuid, Subgid}
use Rattle.acct_text.specs.Tables.{table_name}
use Rattle.account_model.specs.declared.records.PasswdRecord.{PasswdRecord}
use Rattle.account_model.specs.declared.records.ShadowRecord.{ShadowRecord}
use Rattle.account_model.specs.declared.records.SubidRecord.{SubidRecord}
use Rattle.account_model.specs.declared.new_user.Plan.{Plan}
use Rattle.account_model.specs.declared.settings.Key.{Key}
use Rattle.account_model.specs.declared.settings.Key.TheVariants.{PassMinDays, PassMaxDays, PassWarnAge}
use Rattle.account_model.specs.declared.refusal.Refusal.{Refusal}
use Rattle.account_model.specs.declared.refusal.Refusal.TheVariants.{UserExists, GroupExists, UidInUse, NoFreeUid, NoFreeGid}
use Rattle.account_model.specs.Text.{asterisk, exclamation, begins_with}
use Rattle.account_model.specs.Edits.Edit.{Add, Put}
use Rattle.account_model.specs.Tables.{Script, no_edits, in_order, subuid_records, subgid_records}
use Rattle.account_model.specs.Values.{is_field, is_folder, is_shell, is_days_value, is_expiration_value, days_value, expiration_value, field_value, text_value, given_uid}
use Rattle.account_model.specs.Records.{is_id}
use Rattle.account_model.specs.GivenGroups.{given_group, given_groups, unknown_group, unknown_groups}
use Rattle.account_model.specs.Settings.{Setting, number, user_groups}
use Rattle.account_model.specs.Ids.{used_uids, used_gids, is_used}
use Rattle.account_model.specs.Members.{add_to_group}
use Rattle.account_model.specs.Hashes.{elsewhere, locked}
use Rattle.account_model.specs.Request.{Request, has_option, operand}
use Rattle.account_model.specs.Refusals.{refuse_if, bad_value, bad_key, bad_name}
use Rattle.account_model.specs.Action.{Action}
use Rattle.account_model.specs.NewAccount.{kind_of, settings_for, free_uid, free_gid, add_group, new_hash}
use Rattle.account_model.specs.NewRanges.{subordinate_uids, subordinate_gids, may_have_ranges, allotment, no_gap, allotted}
use Rattle.account_model.specs.SubidOwner.{is_owned}
use Rattle.account_model.specs.Users.{has_user, has_group}

-- ---- The IDs

-- a group of the user's own is made with `-U`, or where the settings say so and neither `-g` nor `-N` is given
abbrev pub makes_group : Request → List Setting → Bool
makes_group request settings = has_option (codes "U") request
    || (user_groups settings && not (has_option (codes "g") request)
    && not (has_option (codes "N") request))

-- the UID of `-u`, and else a chosen one
abbrev pub new_uid : Request → Files → List Setting → Option ℕ
new_uid request files settings = elim (given_uid request) [
  | Some uid ↦ Some uid
  | None ↦ free_uid (kind_of request) files settings
]

-- the GID of the own group of a user with this UID: the UID where no group has it, and else a chosen one
abbrev pub gid_beside : Request → Files → List Setting → ℕ → Option ℕ
gid_beside request files settings uid =
    if is_used (used_gids files) uid then free_gid (kind_of request) files settings else Some uid

-- the GID of the user's own group
abbrev pub own_gid : Request → Files → List Setting → Option ℕ
own_gid request files settings =
    option_and_then (gid_beside request files settings) (new_uid request files settings)

-- the primary GID without `-g` and without a group of the user's own; this profile's choice, as it has no
-- /etc/default/useradd
abbrev pub default_gid : ℕ
default_gid = 100

-- the primary GID: that of the user's own group; else that of `-g`; else the default
abbrev pub primary_gid : Request → Files → List Setting → Option ℕ
primary_gid request files settings = if makes_group request settings
    then own_gid request files settings
    else Some (unwrap_or (option_map (λ group. group.gid) (given_group request files)) default_gid)

-- what a new user is to get, whether or not anything refuses it
abbrev pub plan_of : Request → Files → List Setting → Plan
plan_of request files settings = record {
  own_group = makes_group request settings;
  uid = new_uid request files settings;
  gid = primary_gid request files settings;
  subuid = allotment request (new_uid request files settings) (subordinate_uids files settings);
  subgid = allotment request (new_uid request files settings) (subordinate_gids files settings);
}

-- ---- The refusals

-- a group of the user's own is to be made, and there is one of the name
abbrev pub own_group_exists : Request → Files → Plan → Option Refusal
own_group_exists request files plan =
    refuse_if (plan.own_group && has_group (operand request) files)
    (GroupExists (operand request))

-- the UID of `-u` is in use, and `-o` isn't given
abbrev pub used_uid : Request → Files → Option Refusal
used_uid request files = if has_option (codes "o") request
    then None
    else option_and_then (λ uid. refuse_if (is_used (used_uids files) uid) (UidInUse uid))
    (given_uid request)

-- the name and the values are tested first
abbrev pub useradd_checks : Request → List (Option Refusal)
useradd_checks request =
    bad_name (operand request)
    ∷ bad_key request
    ∷ bad_value (codes "c") is_field request
    ∷ bad_value (codes "d") is_folder request
    ∷ bad_value (codes "b") is_folder request
    ∷ bad_value (codes "e") is_expiration_value request
    ∷ bad_value (codes "f") is_days_value request
    ∷ bad_value (codes "s") is_shell request
    ∷ bad_value (codes "p") is_field request
    ∷ bad_value (codes "u") is_id request
    ∷ []

-- where no ID or no range is left
abbrev pub used_up : Plan → List (Option Refusal)
used_up plan =
    refuse_if (is_none plan.uid) NoFreeUid
    ∷ refuse_if (is_none plan.gid) NoFreeGid
    ∷ no_gap Subuid plan.subuid
    ∷ no_gap Subgid plan.subgid
    ∷ []

-- and then what is taken, missing or used up
abbrev pub useradd_conflicts : Request → Files → Plan → List (Option Refusal)
useradd_conflicts request files plan =
    refuse_if (has_user (operand request) files) (UserExists (operand request))
    ∷ unknown_group request files
    ∷ unknown_groups request files
    ∷ own_group_exists request files plan
    ∷ used_uid request files
    ∷ used_up plan

-- all refusals, in the order in which they are tested
abbrev pub useradd_refusals : Request → Files → Plan → List (Option Refusal)
useradd_refusals request files plan = useradd_checks request ++ useradd_conflicts request files plan

-- ---- The records

-- the home of `-d`, and else LOGIN in the folder of `-b` or in /home
abbrev pub new_home : Request → List ℕ
new_home request = text_value (codes "d") request
    (text_value (codes "b") request (codes "/home") ++ codes "/" ++ operand request)

-- the new line of passwd
abbrev pub new_user : Request → Files → ℕ → ℕ → PasswdRecord
new_user request files uid gid = record {
  name = operand request;
  password = if is_some files.shadow then elsewhere else new_hash request;
  uid = uid;
  gid = gid;
  comment = text_value (codes "c") request [];
  home = new_home request;
  shell = text_value (codes "s") request [];
}

-- the aging of a new user by the settings; a system user has none
abbrev pub new_aging : Request → List Setting → Key → Option ℕ
new_aging request settings key =
    if has_option (codes "r") request then None else number key settings

-- the new line of shadow
abbrev pub new_shadow : Request → List Setting → ℕ → ShadowRecord
new_shadow request settings day = record {
  name = operand request;
  hash = new_hash request;
  last_change = Some day;
  minimum = new_aging request settings PassMinDays;
  maximum = new_aging request settings PassMaxDays;
  warning = new_aging request settings PassWarnAge;
  inactive = field_value days_value (codes "f") request None;
  expiration = field_value expiration_value (codes "e") request None;
  rest = [];
}

-- ---- The edits

-- the user's own group, where one is made
abbrev pub add_own_group : Request → Files → Plan → ℕ → Script
add_own_group request files plan gid =
    if plan.own_group then add_group (operand request) locked gid files else no_edits

-- the user joins the groups of `-G`
abbrev pub join_groups : Request → Files → Script
join_groups request files =
    in_order (map (λ group. add_to_group group.name (operand request)) (given_groups request files))

-- the edits that make a user of this UID and this primary GID, with this line of shadow
abbrev pub add_user : Request → Files → Plan → ShadowRecord → ℕ → ℕ → Script
add_user request files plan shadow uid gid = in_order
    (record no_edits {
      passwd = Add (new_user request files uid gid) ∷ [];
      shadow = Put shadow ∷ [];
    }
    ∷ add_own_group request files plan gid
    ∷ join_groups request files
    ∷ record no_edits {
      subuid = allotted request plan.subuid;
      subgid = allotted request plan.subgid;
    }
    ∷ [])

-- the edits, where there is a UID and a GID
abbrev pub useradd_script :
    Request → Files → Plan → ShadowRecord → Option ℕ → Option ℕ → Script
useradd_script request files plan shadow (Some uid) (Some gid) =
    add_user request files plan shadow uid gid
useradd_script request files plan shadow uid gid = no_edits

-- ---- The notices

-- no password opens an account with such a hash: it begins with `!` or `*`
abbrev pub opens_nothing : List ℕ → Bool
opens_nothing hash = begins_with exclamation hash || begins_with asterisk hash

-- the notice of a hash that all can read
abbrev pub open_hash_text : List ℕ → List ℕ
open_hash_text user =
    codes "password of " ++ user ++ codes " stands in passwd, as shadow does not exist"

-- a notice where the hash stands in passwd and could open the account, and else none
abbrev pub hash_notices : Request → Files → List (List ℕ)
hash_notices request files = if is_some files.shadow || opens_nothing (new_hash request)
    then []
    else open_hash_text (operand request) ∷ []

-- the notice of ranges that the user has by lines of the table which stood there before, and in place of a new one
abbrev pub inherited_text : List ℕ → Tab → List ℕ
inherited_text user tab = codes "user " ++ user ++ codes " inherits ranges of " ++ table_name tab

-- a notice where a user that may have ranges owns a line of the table by its name or its UID, and else none
abbrev pub range_notices : Request → Option ℕ → Tab → List SubidRecord → List (List ℕ)
range_notices request uid tab records =
    if may_have_ranges request && list_any (is_owned (operand request) uid) records
    then inherited_text (operand request) tab ∷ []
    else []

-- what is told of a new user of this UID: of the hash, and then of what the user inherits
abbrev pub useradd_notices : Request → Files → Option ℕ → List (List ℕ)
useradd_notices request files uid =
    hash_notices request files
    ++ range_notices request uid Subuid (subuid_records files)
    ++ range_notices request uid Subgid (subgid_records files)

-- ---- The whole

-- what useradd does by a plan, with this line of shadow
abbrev pub useradd_by : Plan → ShadowRecord → Request → Files → Action
useradd_by plan shadow request files = record {
  refusals = useradd_refusals request files plan;
  script = useradd_script request files plan shadow plan.uid plan.gid;
  status = 0;
  output = [];
  notices = useradd_notices request files plan.uid;
}

-- what useradd does under the settings that `-K` has changed
abbrev pub useradd_under : List Setting → Request → Files → ℕ → Action
useradd_under settings request files day =
    useradd_by (plan_of request files settings) (new_shadow request settings day) request files

-- what useradd does, by the tables, the settings of login.defs(5) and the day
abbrev pub useradd : Request → Files → List Setting → ℕ → Action
useradd request files settings day = useradd_under (settings_for request settings) request files day
