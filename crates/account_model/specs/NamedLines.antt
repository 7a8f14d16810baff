-- Which records of the six tables a command names: users by their names, in their lines, in the lists of
-- groups and as owners of ranges, groups by theirs, and users by the primary GID that groupmod(8) gives
-- another number. No other record is touched.
use Rattle.std.specs.Prelude.{◌≡◌, ℕ, ◌≤◌, Bool, true, false, not, ◌||◌, ◌==◌, List, [], ◌∷◌, ◌++◌, map, filter, decimal, Option, Some, None, unwrap_or, if◌then◌else◌}
use Rattle.std.specs.List.{AllByRecursion, list_any}
use Rattle.acct_text.specs.declared.files.Files.{Files}
use Rattle.acct_text.specs.Lines.{Line, lines_of, texts_of}
use Rattle.account_model.specs.declared.records.PasswdRecord.{PasswdRecord}
use Rattle.account_model.specs.declared.records.ShadowRecord.{ShadowRecord}
use Rattle.account_model.specs.declared.records.GroupRecord.{GroupRecord}
use Rattle.account_model.specs.declared.records.GshadowRecord.{GshadowRecord}
use Rattle.account_model.specs.declared.records.SubidRecord.{SubidRecord}
use Rattle.account_model.specs.declared.tool.Tool.{Tool}
use Rattle.account_model.specs.declared.tool.Tool.TheVariants.{Useradd, Usermod, Userdel, Chfn, Chsh, Groupadd, Groupmod, Groupdel, Gpasswd, Groupmems, Chage, Chpasswd, Chgpasswd, Passwd, Pwconv, Pwunconv, Grpconv, Grpunconv}
use Rattle.account_model.specs.Text.{is_listed}
use Rattle.account_model.specs.Format.{Format}
use Rattle.account_model.specs.Edits.{Edit, touches}
use Rattle.account_model.specs.TouchedLines.{AreAmong, KeepsOrder}
use Rattle.account_model.specs.Records.{passwd_format, shadow_format, group_format, gshadow_format, subid_format, greatest_days}
use Rattle.account_model.specs.Tables.{Script, files_after, table_lines}
use Rattle.account_model.specs.Settings.{Setting, settings_of}
use Rattle.account_model.specs.Users.{group_named}
use Rattle.account_model.specs.Values.{given_gid}
use Rattle.account_model.specs.GivenGroups.{given_groups}
use Rattle.account_model.specs.Request.{Request, operand}
use Rattle.account_model.specs.Words.{is_batch}
use Rattle.account_model.specs.Chpasswd.{names_of_lines}
use Rattle.account_model.specs.Groupmems.{asked_group}
use Rattle.account_model.specs.Usermod.{new_name, uid_after}
use Rattle.account_model.specs.Userdel.{own_uid}
use Rattle.account_model.specs.BatchLines.{LineRequest, line_requests}
use Rattle.account_model.specs.Answer.{deed}
use Rattle.account_model.specs.DeedLines.{edits_of_deed, edits_on, times}

-- ---- What a command names

-- users, groups, the owner fields of ranges, the primary GIDs of users that follow a group, and whether
-- each line of users or of groups is named (pwconv(8))
pub record Named : Type 0 where
  pub users : List (List ℕ)
  pub groups : List (List ℕ)
  pub owners : List (List ℕ)
  pub gids : List ℕ
  pub all_users : Bool
  pub all_groups : Bool

-- nothing
abbrev pub names_nothing : Named
names_nothing = record {
  users = [];
  groups = [];
  owners = [];
  gids = [];
  all_users = false;
  all_groups = false;
}

-- what two commands name
abbrev pub named_by_both : Named → Named → Named
named_by_both one other = record {
  users = one.users ++ other.users;
  groups = one.groups ++ other.groups;
  owners = one.owners ++ other.owners;
  gids = one.gids ++ other.gids;
  all_users = one.all_users || other.all_users;
  all_groups = one.all_groups || other.all_groups;
}

-- the owner fields of a user's ranges: the name, and the UID in digits, where it is known (subuid(5))
abbrev pub owner_fields : List ℕ → Option ℕ → List (List ℕ)
owner_fields user None = user ∷ []
owner_fields user (Some uid) = user ∷ decimal uid ∷ []

-- the names of the groups of `-G`
abbrev pub names_of_given : Request → Files → List (List ℕ)
names_of_given request files = map (λ group. group.name) (given_groups request files)

-- the GID that `-g` of groupmod changes: the users of that primary group follow
abbrev pub changed_gids : Request → Files → List ℕ
changed_gids request files = elim (given_gid request) [
  | None ↦ []
  | Some gid ↦ elim (group_named (operand request) files) [
    | None ↦ []
    | Some old ↦ old.gid ∷ []
  ]
]

-- what a command names on these files, by its tool
abbrev pub named_by : Tool → Request → List ℕ → Files → Named
named_by Useradd request input files = record names_nothing {
  users = operand request ∷ [];
  groups = operand request ∷ names_of_given request files;
}
named_by Usermod request input files = record names_nothing {
  users = operand request ∷ [];
  groups = names_of_given request files;
  owners = operand request ∷ owner_fields (new_name request) (uid_after request files);
}
named_by Userdel request input files = record names_nothing {
  users = operand request ∷ [];
  groups = operand request ∷ [];
  owners = owner_fields (operand request) (own_uid (operand request) files);
}
named_by Chfn request input files = record names_nothing { users = operand request ∷ [] }
named_by Chsh request input files = record names_nothing { users = operand request ∷ [] }
named_by Groupadd request input files =
    record names_nothing { groups = operand request ∷ [] }
named_by Groupmod request input files = record names_nothing {
  groups = operand request ∷ [];
  gids = changed_gids request files;
}
named_by Groupdel request input files =
    record names_nothing { groups = operand request ∷ [] }
named_by Gpasswd request input files =
    record names_nothing { groups = operand request ∷ [] }
named_by Groupmems request input files =
    record names_nothing { groups = asked_group request ∷ [] }
named_by Chage request input files = record names_nothing { users = operand request ∷ [] }
named_by Chpasswd request input files =
    record names_nothing { users = names_of_lines (lines_of input) }
named_by Chgpasswd request input files =
    record names_nothing { groups = names_of_lines (lines_of input) }
named_by Passwd request input files = record names_nothing { users = operand request ∷ [] }
named_by Pwconv request input files = record names_nothing { all_users = true }
named_by Pwunconv request input files = record names_nothing { all_users = true }
named_by Grpconv request input files = record names_nothing { all_groups = true }
named_by Grpunconv request input files = record names_nothing { all_groups = true }
named_by tool request input files = names_nothing

-- what the commands of a batch name, each on the files that those before it leave
abbrev pub named_by_lines : List LineRequest → ℕ → List Setting → Files → Named
named_by_lines [] day settings files = names_nothing
named_by_lines (line ∷ rest) day settings files =
    named_by_both (named_by line.request.tool line.request [] files)
    (named_by_lines rest day settings
    (files_after (edits_on line.request [] day files settings) files))

-- what the command of a deed names
abbrev pub named_by_deed : Request → List ℕ → ℕ → Files → Option (List ℕ) → Named
named_by_deed request input day files defs = if is_batch request.tool
    then named_by_lines (line_requests input) day (settings_of (unwrap_or defs [])) files
    else named_by request.tool request input files

-- ---- The records that are named

-- one of the names is among the others
abbrev pub lists_any : List (List ℕ) → List (List ℕ) → Bool
lists_any names others = list_any (λ name. is_listed name others) names

-- a line of passwd: by its user, or by the primary GID
abbrev pub names_passwd : Named → PasswdRecord → Bool
names_passwd named r = is_listed r.name named.users
    || (list_any (λ gid. r.gid == gid) named.gids || named.all_users)

-- a line of shadow, by its user
abbrev pub names_shadow : Named → ShadowRecord → Bool
names_shadow named r = is_listed r.name named.users || named.all_users

-- a line of group: by its group, or by a member
abbrev pub names_group : Named → GroupRecord → Bool
names_group named r = is_listed r.name named.groups
    || (lists_any r.members named.users || named.all_groups)

-- a line of gshadow: by its group, by a member, or by an administrator
abbrev pub names_gshadow : Named → GshadowRecord → Bool
names_gshadow named r = is_listed r.name named.groups
    || (lists_any r.members named.users
    || (lists_any r.administrators named.users || named.all_groups))

-- a line of subuid or subgid, by its owner
abbrev pub names_subid : Named → SubidRecord → Bool
names_subid named r = is_listed r.owner named.owners

-- the edits touch no record that isn't named
pub record TouchNamed (named : Named) (edits : Script) : Type 0 where
  pub passwd : (r : PasswdRecord) → names_passwd named r ≡ false
      → touches passwd_format edits.passwd r ≡ false
  pub shadow : (r : ShadowRecord) → names_shadow named r ≡ false
      → touches shadow_format edits.shadow r ≡ false
  pub group : (r : GroupRecord) → names_group named r ≡ false
      → touches group_format edits.group r ≡ false
  pub gshadow : (r : GshadowRecord) → names_gshadow named r ≡ false
      → touches gshadow_format edits.gshadow r ≡ false
  pub subuid : (r : SubidRecord) → names_subid named r ≡ false
      → touches subid_format edits.subuid r ≡ false
  pub subgid : (r : SubidRecord) → names_subid named r ≡ false
      → touches subid_format edits.subgid r ≡ false

-- so it is with the edits of each deed
abbrev pub DeedsTouchNamed : Type 0
DeedsTouchNamed = (request : Request) (input : List ℕ) (day : ℕ) (old : Files)
    (defs : Option (List ℕ))
    → TouchNamed (named_by_deed request input day old defs)
    (edits_of_deed request input day old defs)

-- ---- The lines that stay

-- the line is other text, or its record isn't named
abbrev pub is_unnamed : {R : Type 0} → Format R → (R → Bool) → Line → Bool
is_unnamed format names line =
    elim (format.read line.text) [ None ↦ true | Some r ↦ not (names r) ]

-- the texts of the lines that aren't named, in order
abbrev pub unnamed_texts : {R : Type 0} → Format R → (R → Bool) → List Line → List (List ℕ)
unnamed_texts format names lines =
    map (λ line. line.text) (filter (is_unnamed format names) lines)

-- Of the old lines of a table those that aren't named stay byte for byte: each text stands as often as it
-- did, and where no edit sorts, all in their old order.
pub record LeavesUnnamed {R : Type 0} (format : Format R) (names : R → Bool)
    (edits : List (Edit R)) (old new : List Line) : Type 0 where
  pub stay : (text : List ℕ)
      → times text (unnamed_texts format names old) ≤ times text (texts_of new)
  pub in_order : AllByRecursion KeepsOrder edits
      → AreAmong (unnamed_texts format names old) (texts_of new)

-- so it is in each table
pub record LeaveUnnamed (named : Named) (edits : Script) (old new : Files) : Type 0 where
  pub passwd : LeavesUnnamed passwd_format (names_passwd named) edits.passwd
      (table_lines old.passwd) (table_lines new.passwd)
  pub shadow : LeavesUnnamed shadow_format (names_shadow named) edits.shadow
      (table_lines old.shadow) (table_lines new.shadow)
  pub group : LeavesUnnamed group_format (names_group named) edits.group
      (table_lines old.group) (table_lines new.group)
  pub gshadow : LeavesUnnamed gshadow_format (names_gshadow named) edits.gshadow
      (table_lines old.gshadow) (table_lines new.gshadow)
  pub subuid : LeavesUnnamed subid_format (names_subid named) edits.subuid
      (table_lines old.subuid) (table_lines new.subuid)
  pub subgid : LeavesUnnamed subid_format (names_subid named) edits.subgid
      (table_lines old.subgid) (table_lines new.subgid)

-- each deed leaves the lines that its command doesn't name, on a day that shadow(5) holds
abbrev pub DeedsLeaveUnnamed : Type 0
DeedsLeaveUnnamed = (request : Request) (input : List ℕ) (day : ℕ) (old : Files)
    (defs : Option (List ℕ)) (new : Files) → day ≤ greatest_days
    → deed request input day old defs ≡ Some new
    → LeaveUnnamed (named_by_deed request input day old defs)
    (edits_of_deed request input day old defs) old new
