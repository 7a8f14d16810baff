-- The members and administrators of groups (group(5), gshadow(5)).
use Rattle.std.specs.Prelude.{ℕ, ◌&&◌, not, List, [], ◌∷◌, ◌++◌, filter, map, bytes_eq, if◌then◌else◌}
use Rattle.account_model.specs.declared.records.GroupRecord.{GroupRecord}
use Rattle.account_model.specs.declared.records.GshadowRecord.{GshadowRecord}
use Rattle.account_model.specs.Text.{is_listed}
use Rattle.account_model.specs.Format.{is_named}
use Rattle.account_model.specs.Edits.{each_where}
use Rattle.account_model.specs.Records.{group_format, gshadow_format}
use Rattle.account_model.specs.Tables.{Script, no_edits}

-- ---- Lists of names

-- the names with one more at the end, where it isn't among them
abbrev pub with_name : List ℕ → List (List ℕ) → List (List ℕ)
with_name name names = if is_listed name names then names else names ++ name ∷ []

-- the names without this one
abbrev pub without_name : List ℕ → List (List ℕ) → List (List ℕ)
without_name name names = filter (λ other. not (bytes_eq other name)) names

-- the names with this one once: its first place stays
abbrev pub name_once : List ℕ → List (List ℕ) → List (List ℕ)
name_once name [] = []
name_once name (other ∷ rest) =
    if bytes_eq other name then other ∷ without_name name rest else other ∷ name_once name rest

-- the new name at each place of the old one
abbrev pub in_place_of : List ℕ → List ℕ → List (List ℕ) → List (List ℕ)
in_place_of old new names = map (λ name. if bytes_eq name old then new else name) names

-- A list with the new name once, in the place of the old one; a list without the old one stays (usermod(8), `-l`).
abbrev pub renamed_in : List ℕ → List ℕ → List (List ℕ) → List (List ℕ)
renamed_in old new names = if is_listed old names && not (bytes_eq old new)
    then name_once new (in_place_of old new names) else names

-- the group with the member renamed
abbrev pub group_renamed : List ℕ → List ℕ → GroupRecord → GroupRecord
group_renamed old new r = record r { members = renamed_in old new r.members }

-- the group with the administrator and the member renamed
abbrev pub gshadow_renamed : List ℕ → List ℕ → GshadowRecord → GshadowRecord
gshadow_renamed old new r = record r {
  administrators = renamed_in old new r.administrators;
  members = renamed_in old new r.members;
}

-- ---- Members of a group

-- the members of a group become what f gives, in group and in gshadow
abbrev pub each_members : List ℕ → (List (List ℕ) → List (List ℕ)) → Script
each_members group f = record no_edits {
  group =
      each_where (is_named group_format group) (λ r. record r { members = f r.members }) ∷ [];
  gshadow =
      each_where (is_named gshadow_format group) (λ r. record r { members = f r.members }) ∷ [];
}

-- the user is added to the members of the group
abbrev pub add_to_group : List ℕ → List ℕ → Script
add_to_group group user = each_members group (with_name user)

-- the user is removed from the members of the group
abbrev pub remove_from_group : List ℕ → List ℕ → Script
remove_from_group group user = each_members group (without_name user)
