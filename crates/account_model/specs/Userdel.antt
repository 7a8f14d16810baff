-- userdel LOGIN (userdel(8)): removes a user.
use Rattle.std.specs.Prelude.{ℕ, Bool, not, ◌==◌, if◌then◌else◌, List, [], ◌∷◌, ◌++◌, find, codes, Option, Some, None, option_map}
use Rattle.std.specs.List.{list_any}
use Rattle.acct_text.specs.declared.files.Files.{Files}
use Rattle.account_model.specs.declared.records.GroupRecord.{GroupRecord}
use Rattle.account_model.specs.declared.records.GshadowRecord.{GshadowRecord}
use Rattle.acct_text.specs.Bytes.{is_empty}
use Rattle.account_model.specs.Format.{is_named}
use Rattle.account_model.specs.Edits.{each, drop_where}
use Rattle.account_model.specs.Records.{passwd_format, shadow_format}
use Rattle.account_model.specs.Tables.{Script, no_edits, in_order}
use Rattle.account_model.specs.Settings.{Setting, user_groups}
use Rattle.account_model.specs.Members.{without_name}
use Rattle.account_model.specs.Request.{Request, has_option, operand}
use Rattle.account_model.specs.Refusals.{missing_user}
use Rattle.account_model.specs.Action.{Action}
use Rattle.account_model.specs.SubidOwner.{is_owned}
use Rattle.account_model.specs.Users.{uid_of, other_users, group_named}
use Rattle.account_model.specs.Groupdel.{remove_group}

-- ---- The user

-- another user has the UID
abbrev pub is_shared : List ℕ → Files → ℕ → Bool
is_shared user files uid = list_any (λ other. other.uid == uid) (other_users user files)

-- the UID whose text owns ranges that go with the user: none where another user has it
abbrev pub own_uid : List ℕ → Files → Option ℕ
own_uid user files = elim (uid_of user files) [
  | None ↦ None
  | Some uid ↦ if is_shared user files uid then None else Some uid
]

-- a line of group without the user
abbrev pub group_without : List ℕ → GroupRecord → GroupRecord
group_without user r = record r { members = without_name user r.members }

-- a line of gshadow without the user
abbrev pub gshadow_without : List ℕ → GshadowRecord → GshadowRecord
gshadow_without user r = record r {
  administrators = without_name user r.administrators;
  members = without_name user r.members;
}

-- the user goes from passwd and shadow, from all lists of group and gshadow, and with its ranges
abbrev pub remove_user : List ℕ → Files → Script
remove_user user files = record {
  passwd = drop_where (is_named passwd_format user) ∷ [];
  shadow = drop_where (is_named shadow_format user) ∷ [];
  group = each (group_without user) ∷ [];
  gshadow = each (gshadow_without user) ∷ [];
  subuid = drop_where (is_owned user (own_uid user files)) ∷ [];
  subgid = drop_where (is_owned user (own_uid user files)) ∷ [];
}

-- ---- The user's own group

-- the group of the user's name, which goes with the user where users have groups of their own (login.defs(5),
-- USERGROUPS_ENAB)
abbrev pub own_group : Request → Files → List Setting → Option GroupRecord
own_group request files settings =
    if user_groups settings then group_named (operand request) files else None

-- why the group is kept
pub data KeptGroup : Type 0 where
  -- it has members
  has_members : KeptGroup
  -- it is the primary group of this user
  is_primary_of : List ℕ → KeptGroup

-- it is the primary group of another user, the first of them
abbrev pub other_primary : List ℕ → Files → GroupRecord → Option KeptGroup
other_primary user files group = option_map (λ other. is_primary_of other.name)
    (find (λ other. other.gid == group.gid) (other_users user files))

-- the first reason to keep the group: members that are left; without `-f` another user whose primary group it is
abbrev pub reason_to_keep : Request → Files → GroupRecord → Option KeptGroup
reason_to_keep request files group =
    if not (is_empty (without_name (operand request) group.members)) then Some has_members else
    (if has_option (codes "f") request then None else other_primary (operand request) files group)

-- the group goes where there is no reason to keep it
abbrev pub own_group_script : Request → Files → List Setting → Script
own_group_script request files settings = elim (own_group request files settings) [
  | None ↦ no_edits
  | Some group ↦ elim (reason_to_keep request files group) [
    | None ↦ remove_group (operand request)
    | Some kept ↦ no_edits
  ]
]

-- the notice of a group that is kept
abbrev pub kept_text : List ℕ → KeptGroup → List ℕ
kept_text group has_members = codes "group " ++ group ++ codes " kept: it has members"
kept_text group (is_primary_of user) =
    codes "group " ++ group ++ codes " kept: primary group of " ++ user

-- a notice where the group is kept, and else none
abbrev pub userdel_notices : Request → Files → List Setting → List (List ℕ)
userdel_notices request files settings = elim (own_group request files settings) [
  | None ↦ []
  | Some group ↦ elim (reason_to_keep request files group) [
    | None ↦ []
    | Some kept ↦ kept_text (operand request) kept ∷ []
  ]
]

-- ---- The whole

-- the user goes, and then its group
abbrev pub userdel_script : Request → Files → List Setting → Script
userdel_script request files settings =
    in_order (remove_user (operand request) files ∷ own_group_script request files settings ∷ [])

-- what userdel does, by the tables and the settings of login.defs(5)
abbrev pub userdel : Request → Files → List Setting → Action
userdel request files settings = record {
  refusals = missing_user (operand request) files ∷ [];
  script = userdel_script request files settings;
  status = 0;
  output = [];
  notices = userdel_notices request files settings;
}
