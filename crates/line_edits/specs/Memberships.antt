-- What becomes of a user in the lists of all groups (usermod(8), `-G`, `-a` and `-l`).
use Rattle.std.specs.Prelude.{◌≡◌, ℕ, Bool, false, List, [], ◌∷◌, ◌++◌, map, if◌then◌else◌}
use Rattle.std.specs.Vec.{vec_items}
use Rattle.account_model.specs.declared.records.GroupRecord.{GroupRecord}
use Rattle.account_model.specs.declared.records.GshadowRecord.{GshadowRecord}
use Rattle.account_model.specs.Members.{with_name, without_name, renamed_in}
use Rattle.acct_text.specs.Bytes.{is_empty}
use Rattle.account_model.specs.Text.{is_listed}
use Rattle.acct_tables.specs.declared.marks.Marks.{Marks}
use Rattle.line_edits.specs.declared.memberships.Membership.{Membership}
use Rattle.line_edits.specs.declared.memberships.UserGroups.{UserGroups}
use Rattle.line_edits.specs.declared.memberships.UserGroups.TheVariants.{Kept, Also, Only}

-- the members of a group once the user has joined or left it (usermod(8), `-G` and `-a`)
abbrev pub members_with : UserGroups → List ℕ → List ℕ → List (List ℕ) → List (List ℕ)
members_with Kept user group members = members
members_with (Also groups) user group members =
    if is_listed group groups then with_name user members else members
members_with (Only groups) user group members =
    if is_listed group groups then with_name user members else without_name user members

-- whether the group is one of those that the user joins
abbrev pub joins : UserGroups → List ℕ → Bool
joins Kept group = false
joins (Also groups) group = is_listed group groups
joins (Only groups) group = is_listed group groups

-- the marks are the user and the groups that it joins
pub record AreMarksIn (membership : Membership) (marks : Marks) : Type 0 where
  pub user : marks.first.now ≡ membership.user
  pub joined : (group : List ℕ)
      → is_listed group (map vec_items marks.others.now) ≡ joins membership.groups group

-- the members of a group in which the user then has the new name (usermod(8), `-l`)
abbrev pub members_by : Membership → List ℕ → List (List ℕ) → List (List ℕ)
members_by membership group members = renamed_in membership.user membership.new_name
    (members_with membership.groups membership.user group members)

-- a record of group
abbrev pub group_by : Membership → GroupRecord → GroupRecord
group_by membership r = record r { members = members_by membership r.name r.members }

-- a record of gshadow, of which the administrators get the new name alone
abbrev pub gshadow_by : Membership → GshadowRecord → GshadowRecord
gshadow_by membership r = record r {
  administrators = renamed_in membership.user membership.new_name r.administrators;
  members = members_by membership r.name r.members;
}

-- the user keeps its name, and joins or leaves none but these groups
pub record ChangesOnlyIn (membership : Membership) (groups : List (List ℕ)) : Type 0 where
  pub name : membership.user ≡ membership.new_name
  pub others : (group : List ℕ) (members : List (List ℕ)) → is_listed group groups ≡ false
      → members_with membership.groups membership.user group members ≡ members

-- the user keeps its name, and goes behind the members of the group
pub record Adds (membership : Membership) (group : List ℕ) (members : List (List ℕ)) : Type 0 where
  pub some : is_empty membership.user ≡ false
  pub name : membership.user ≡ membership.new_name
  pub behind : members_by membership group members ≡ members ++ membership.user ∷ []
