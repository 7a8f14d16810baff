-- Which ID a new user or group gets (useradd(8), groupadd(8), login.defs(5); the rule of choice is this profile's own).
use Rattle.std.specs.Prelude.{◌≡◌, ℕ, ◌+◌, ◌-◌, ◌≤◌, Bool, ◌&&◌, not, List, ◌∷◌, map, filter, max, min, nat_le, ◌==◌, Option, Some, None, if◌then◌else◌, Contains}
use Rattle.std.specs.List.{list_any, reduce}
use Rattle.account_model.specs.declared.settings.Kind.{Kind}
use Rattle.account_model.specs.declared.settings.Kind.TheVariants.{Regular, System}
use Rattle.acct_text.specs.declared.files.Files.{Files}
use Rattle.account_model.specs.Tables.{passwd_records, group_records}

-- the UIDs of all users
abbrev pub used_uids : Files → List ℕ
used_uids files = map (λ user. user.uid) (passwd_records files)

-- the GIDs of all groups
abbrev pub used_gids : Files → List ℕ
used_gids files = map (λ group. group.gid) (group_records files)

-- whether an ID is used
abbrev pub is_used : List ℕ → ℕ → Bool
is_used used id = list_any (λ other. other == id) used

-- ---- The choice, as conditions on sets

-- an ID of the range that is used
pub record UsedIn (low high : ℕ) (used : List ℕ) (id : ℕ) : Type 0 where
  pub not_below : low ≤ id
  pub not_above : id ≤ high
  pub taken : Contains used id

-- an ID of the range that isn't used
pub record FreeIn (low high : ℕ) (used : List ℕ) (id : ℕ) : Type 0 where
  pub not_below : low ≤ id
  pub not_above : id ≤ high
  pub free : Contains used id → ⊥

-- a member of a set with none below it
pub record IsLeast (Member : ℕ → Type 0) (id : ℕ) : Type 0 where
  pub member : Member id
  pub least : (other : ℕ) → Member other → id ≤ other

-- a member of a set with none above it
pub record IsGreatest (Member : ℕ → Type 0) (id : ℕ) : Type 0 where
  pub member : Member id
  pub greatest : (other : ℕ) → Member other → other ≤ id

-- From a regular range: the minimum where no ID of the range is used; else the greatest used one plus one, where that is
-- in the range; else the least free one; none where every ID is used or the range is empty.
pub data RegularChoice (low high : ℕ) (used : List ℕ) : Option ℕ → Type 0 where
  FirstOfUnused : low ≤ high → ((id : ℕ) → UsedIn low high used id → ⊥)
      → RegularChoice low high used (Some low)
  AfterGreatest : {id : ℕ} → IsGreatest (UsedIn low high used) id → id + 1 ≤ high
      → RegularChoice low high used (Some (id + 1))
  LeastFree : {id : ℕ} → UsedIn low high used high → IsLeast (FreeIn low high used) id
      → RegularChoice low high used (Some id)
  NoneFree : ((id : ℕ) → FreeIn low high used id → ⊥) → RegularChoice low high used None

-- From a system range the same from the other end: the maximum, the least used one minus one, the greatest free one.
pub data SystemChoice (low high : ℕ) (used : List ℕ) : Option ℕ → Type 0 where
  LastOfUnused : low ≤ high → ((id : ℕ) → UsedIn low high used id → ⊥)
      → SystemChoice low high used (Some high)
  BeforeLeast : {id : ℕ} → IsLeast (UsedIn low high used) (id + 1) → low ≤ id
      → SystemChoice low high used (Some id)
  GreatestFree : {id : ℕ} → UsedIn low high used low → IsGreatest (FreeIn low high used) id
      → SystemChoice low high used (Some id)
  NoneLeft : ((id : ℕ) → FreeIn low high used id → ⊥) → SystemChoice low high used None

-- the choice from a range that may be empty
abbrev pub IsChosenId : Kind → Option (ℕ × ℕ) → List ℕ → Option ℕ → Type 0
IsChosenId kind None used choice = choice ≡ None
IsChosenId Regular (Some range) used choice = RegularChoice range.0 range.1 used choice
IsChosenId System (Some range) used choice = SystemChoice range.0 range.1 used choice

-- ---- computed

-- whether the ID lies in the range
abbrev pub in_range : ℕ → ℕ → ℕ → Bool
in_range low high id = nat_le low id && nat_le id high

-- the least of these IDs
abbrev pub least_of : List ℕ → Option ℕ
least_of ids = reduce min ids

-- the greatest of these IDs
abbrev pub greatest_of : List ℕ → Option ℕ
greatest_of ids = reduce max ids

-- the free ones among these IDs that lie in the range
abbrev pub free_of : ℕ → ℕ → List ℕ → List ℕ → List ℕ
free_of low high used ids = filter (λ id. in_range low high id && not (is_used used id)) ids

-- the least free ID of the range: the minimum, or one that follows a used one
abbrev pub least_free : ℕ → ℕ → List ℕ → Option ℕ
least_free low high used = least_of (free_of low high used (low ∷ map (λ id. id + 1) used))

-- the greatest free ID of the range: the maximum, or one before a used one
abbrev pub greatest_free : ℕ → ℕ → List ℕ → Option ℕ
greatest_free low high used = greatest_of (free_of low high used (high ∷ map (λ id. id - 1) used))

-- the choice from a regular range that isn't empty
abbrev pub regular_id : ℕ → ℕ → List ℕ → Option ℕ
regular_id low high used = elim (greatest_of (filter (in_range low high) used)) [
  | None ↦ Some low
  | Some id ↦ if nat_le (id + 1) high then Some (id + 1) else least_free low high used
]

-- the choice from a system range that isn't empty
abbrev pub system_id : ℕ → ℕ → List ℕ → Option ℕ
system_id low high used = elim (least_of (filter (in_range low high) used)) [
  | None ↦ Some high
  | Some id ↦ if nat_le (low + 1) id then Some (id - 1) else greatest_free low high used
]

-- the choice from a range that isn't empty
abbrev pub id_between : Kind → ℕ → ℕ → List ℕ → Option ℕ
id_between Regular low high used = regular_id low high used
id_between System low high used = system_id low high used

-- the ID from a range, and none from an empty one
abbrev pub chosen_id : Kind → Option (ℕ × ℕ) → List ℕ → Option ℕ
chosen_id kind None used = None
chosen_id kind (Some range) used =
    if nat_le range.0 range.1 then id_between kind range.0 range.1 used else None
