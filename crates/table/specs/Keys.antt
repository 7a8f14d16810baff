-- The keys of records, by which an index tells where they are, and what changes do to them (passwd(5),
-- shadow(5), group(5), gshadow(5), subuid(5), subgid(5)). The first key of each record is that of its own name.
use Rattle.std.specs.Prelude.{◌≡◌, ℕ, ◌+◌, ◌%◌, ◌^◌, ◌||◌, Contains, true, false, List, [], ◌∷◌, ◌++◌, map, refl, Option, None, Some}
use Rattle.std.proofs.Common.{ap}
use Rattle.std.proofs.lemmas.Bool.{eq-eqb}
use Rattle.std.specs.List.{cons_option}
use Rattle.account_model.specs.declared.records.GroupRecord.{GroupRecord}
use Rattle.account_model.specs.declared.records.GshadowRecord.{GshadowRecord}
use Rattle.account_model.specs.declared.records.PasswdRecord.{PasswdRecord}
use Rattle.account_model.specs.declared.records.ShadowRecord.{ShadowRecord}
use Rattle.account_model.specs.declared.records.SubidRecord.{SubidRecord}
use Rattle.account_model.specs.Format.{Format}
use Rattle.acct_tables.specs.NameHashes.{name_hash}
use Rattle.line_edits.specs.declared.group_changes.GroupAct.{GroupAct}
use Rattle.line_edits.specs.declared.group_changes.GroupAct.TheVariants.{AddMember as GroupAddMember, Rename as GroupRename, RemoveMember as GroupRemoveMember, SetMembers as GroupSetMembers, SetMembership as GroupSetMembership}
use Rattle.line_edits.specs.declared.gshadow_changes.GshadowAct.{GshadowAct}
use Rattle.line_edits.specs.declared.gshadow_changes.GshadowAct.TheVariants.{Rename as GshadowRename, SetAdministrators as GshadowSetAdministrators, AddMember as GshadowAddMember, SetMembers as GshadowSetMembers, RemoveUser as GshadowRemoveUser, SetMembership as GshadowSetMembership}
use Rattle.line_edits.specs.declared.memberships.Membership.{Membership}
use Rattle.line_edits.specs.declared.passwd_changes.PasswdAct.{PasswdAct}
use Rattle.line_edits.specs.declared.passwd_changes.PasswdAct.TheVariants.{SetGid, SetFields}
use Rattle.line_edits.specs.declared.group_changes.GroupChange.{GroupChange}
use Rattle.line_edits.specs.declared.group_changes.GroupChange.TheVariants.{All as AllGroups, Named as NamedGroup, Remove as RemoveGroup}
use Rattle.line_edits.specs.declared.gshadow_changes.GshadowChange.{GshadowChange}
use Rattle.line_edits.specs.declared.gshadow_changes.GshadowChange.TheVariants.{All as AllGshadows, Named as NamedGshadow, Remove as RemoveGshadow}
use Rattle.line_edits.specs.declared.passwd_changes.PasswdChange.{PasswdChange}
use Rattle.line_edits.specs.declared.passwd_changes.PasswdChange.TheVariants.{Named as NamedUser, OfGroup, Remove as RemoveUser}
use Rattle.line_edits.specs.declared.shadow_changes.ShadowAct.{ShadowAct}
use Rattle.line_edits.specs.declared.shadow_changes.ShadowAct.TheVariants.{SetFields as ShadowSetFields}
use Rattle.line_edits.specs.declared.shadow_changes.ShadowChange.{ShadowChange}
use Rattle.line_edits.specs.declared.shadow_changes.ShadowChange.TheVariants.{Named as NamedShadow, Remove as RemoveShadow}
use Rattle.line_edits.specs.declared.subid_changes.SubidChange.{SubidChange}
use Rattle.line_edits.specs.declared.subid_changes.SubidChange.TheVariants.{Cut as CutRanges, Remove as RemoveOwner, Rename as RenameOwner}
use Rattle.line_edits.specs.Memberships.{joins}
use Rattle.acct_tables.specs.KeyPlaces.{has_key}

-- ---- Whose keys they are

-- that of a record by its own name: another one than that of the same name in a list
abbrev pub own_key : List ℕ → ℕ
own_key name = (name_hash name + 1) % 2 ^ 64

-- those of names in a list: their hashes
abbrev pub name_keys : List (List ℕ) → List ℕ
name_keys names = map name_hash names

-- those of a user: its own, and the GID of the primary group
abbrev pub user_keys : PasswdRecord → List ℕ
user_keys user = own_key user.name ∷ user.gid ∷ []

-- that of a record of shadow
abbrev pub shadow_keys : ShadowRecord → List ℕ
shadow_keys user = own_key user.name ∷ []

-- that of a range of subordinate IDs, whose name is its owner
abbrev pub subid_keys : SubidRecord → List ℕ
subid_keys range = own_key range.owner ∷ []

-- those of a group: its own, and its members
abbrev pub group_keys : GroupRecord → List ℕ
group_keys group = own_key group.name ∷ name_keys group.members

-- those of a record of gshadow: its own, its administrators and its members
abbrev pub gshadow_keys : GshadowRecord → List ℕ
gshadow_keys group =
    own_key group.name ∷ name_keys group.administrators ++ name_keys group.members

-- the keys of a record, where there is one
abbrev pub keys_in : {R : Type 0} → (R → List ℕ) → Option R → List ℕ
keys_in keys_of None = []
keys_in keys_of (Some r) = keys_of r

-- keys have the first of them
pub first-has : (key : ℕ) (rest : List ℕ) → has_key key (key ∷ rest) ≡ true
first-has key rest = ap (λ test. test || has_key key rest) (eq-eqb key key refl)

-- each record has the key of its own name
abbrev pub HaveOwnKeys : {R : Type 0} → Format R → (R → List ℕ) → Type 0
HaveOwnKeys {R = R} format keys_of =
    (r : R) → has_key (own_key (format.name r)) (keys_of r) ≡ true

-- ---- What changes bring

-- the key of a name, where one is given
abbrev pub own_given : Option (List ℕ) → List ℕ
own_given None = []
own_given (Some name) = own_key name ∷ []

-- the keys that an act gives users
abbrev pub user_given : PasswdAct → List ℕ
user_given (SetGid gid) = gid ∷ []
user_given (SetFields fields) = own_given fields.name ++ cons_option fields.gid []
user_given _ = []

-- the keys that a change may bring to users
abbrev pub user_brought : PasswdChange → List ℕ
user_brought (NamedUser name act) = user_given act
user_brought (OfGroup gid act) = user_given act
user_brought (RemoveUser name) = []

-- the key that an act gives records of shadow
abbrev pub shadow_given : ShadowAct → List ℕ
shadow_given (ShadowSetFields fields) = own_given fields.name
shadow_given _ = []

-- the key that a change may bring to records of shadow
abbrev pub shadow_brought : ShadowChange → List ℕ
shadow_brought (NamedShadow name act) = shadow_given act
shadow_brought (RemoveShadow name) = []

-- the key that a change may bring to ranges of subordinate IDs
abbrev pub subid_brought : SubidChange → List ℕ
subid_brought (RenameOwner old new) = own_key new ∷ []
subid_brought (RemoveOwner user uid) = []
subid_brought (CutRanges cut) = []

-- the names that a membership may bring into a list
abbrev pub either_name : Membership → List (List ℕ)
either_name membership = membership.user ∷ membership.new_name ∷ []

-- the names that an act may bring into the list of a group
abbrev pub joining_group : GroupAct → List (List ℕ)
joining_group (GroupAddMember user) = user ∷ []
joining_group (GroupSetMembers members) = members
joining_group (GroupSetMembership membership) = either_name membership
joining_group _ = []

-- the keys that an act gives groups
abbrev pub group_given : GroupAct → List ℕ
group_given (GroupRename name) = own_key name ∷ []
group_given act = name_keys (joining_group act)

-- the keys that a change may bring to groups
abbrev pub group_brought : GroupChange → List ℕ
group_brought (NamedGroup name act) = group_given act
group_brought (AllGroups act) = group_given act
group_brought (RemoveGroup name) = []

-- the names that an act may bring into a list of a record of gshadow
abbrev pub joining_gshadow : GshadowAct → List (List ℕ)
joining_gshadow (GshadowSetAdministrators administrators) = administrators
joining_gshadow (GshadowAddMember user) = user ∷ []
joining_gshadow (GshadowSetMembers members) = members
joining_gshadow (GshadowSetMembership membership) = either_name membership
joining_gshadow _ = []

-- the keys that an act gives records of gshadow
abbrev pub gshadow_given : GshadowAct → List ℕ
gshadow_given (GshadowRename name) = own_key name ∷ []
gshadow_given act = name_keys (joining_gshadow act)

-- the keys that a change may bring to records of gshadow
abbrev pub gshadow_brought : GshadowChange → List ℕ
gshadow_brought (NamedGshadow name act) = gshadow_given act
gshadow_brought (AllGshadows act) = gshadow_given act
gshadow_brought (RemoveGshadow name) = []

-- the key is that of the user, who joins no group
pub record IsLeaver (membership : Membership) (key : ℕ) : Type 0 where
  pub user : key ≡ name_hash membership.user
  pub joins_none : (group : List ℕ) → joins membership.groups group ≡ false

-- the key is that of the user without whom the act leaves a group
abbrev pub IsGroupLeaver : GroupAct → ℕ → Type 0
IsGroupLeaver (GroupRemoveMember user) key = key ≡ name_hash user
IsGroupLeaver (GroupSetMembership membership) key = IsLeaver membership key
IsGroupLeaver _ key = ⊥

-- the key is that of the user without whom the act leaves a record of gshadow
abbrev pub IsGshadowLeaver : GshadowAct → ℕ → Type 0
IsGshadowLeaver (GshadowRemoveUser user) key = key ≡ name_hash user
IsGshadowLeaver (GshadowSetMembership membership) key = IsLeaver membership key
IsGshadowLeaver _ key = ⊥

-- ---- What changes do to keys

-- f leaves each record without the key
abbrev pub Needs : {R : Type 0} → (R → List ℕ) → (R → List R) → ℕ → Type 0
Needs {R = R} keys_of f key = (r : R) → has_key key (keys_of r) ≡ false → f r ≡ r ∷ []

-- a record that f makes of another has only these keys, and keys of that one
abbrev pub BringsOnly : {R : Type 0} → (R → List ℕ) → (R → List R) → List ℕ → Type 0
BringsOnly {R = R} keys_of f keys = (r s : R) → Contains (f r) s → (key : ℕ)
    → has_key key (keys_of s) ≡ true
    → (has_key key keys || has_key key (keys_of r)) ≡ true
