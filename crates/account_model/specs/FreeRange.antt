-- Where a new range of subordinate IDs begins (useradd(8), subuid(5), subgid(5), login.defs(5)).
use Rattle.std.specs.Prelude.{ℕ, ◌+◌, ◌-◌, ◌≤◌, Bool, ◌&&◌, not, List, ◌∷◌, map, filter, nat_le, Option, Some, None}
use Rattle.std.specs.List.{list_any, AllByRecursion}
use Rattle.account_model.specs.declared.records.SubidRecord.{SubidRecord}
use Rattle.account_model.specs.Records.{last_id}
use Rattle.account_model.specs.Ids.{least_of, IsLeast}

-- a record's range and the numbers from first to last have a number in common
pub record Meeting (first last : ℕ) (r : SubidRecord) : Type 0 where
  pub begins_before : r.first ≤ last
  pub ends_behind : first ≤ last_id r

-- a place for count IDs from start on: within the bounds, and meeting no range of the file
pub record FitsAt (low high count : ℕ) (records : List SubidRecord) (start : ℕ) : Type 0 where
  pub not_below : low ≤ start
  pub not_above : start + count - 1 ≤ high
  pub apart : AllByRecursion (λ r. Meeting start (start + count - 1) r → ⊥) records

-- the least such place, or none where there is none
abbrev pub IsFreeRange : ℕ → ℕ → ℕ → List SubidRecord → Option ℕ → Type 0
IsFreeRange low high count records None = (start : ℕ) → FitsAt low high count records start → ⊥
IsFreeRange low high count records (Some start) = IsLeast (FitsAt low high count records) start

-- ---- computed

-- whether they have one
abbrev pub meets : ℕ → ℕ → SubidRecord → Bool
meets first last r = nat_le r.first last && nat_le first (last_id r)

-- whether the place fits
abbrev pub fits_at : ℕ → ℕ → ℕ → List SubidRecord → ℕ → Bool
fits_at low high count records start = nat_le low start && nat_le (start + count - 1) high
    && not (list_any (meets start (start + count - 1)) records)

-- the least place that fits: the minimum, or one behind a range of the file
abbrev pub free_range : ℕ → ℕ → ℕ → List SubidRecord → Option ℕ
free_range low high count records =
    least_of (filter (fits_at low high count records) (low ∷ map (λ r. last_id r + 1) records))
