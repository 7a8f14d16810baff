-- Whose a line of subuid or subgid is, and what is left of it (subuid(5), subgid(5)).
use Rattle.std.specs.Prelude.{◌≡◌, ◌≤◌, ◌⊎◌, ℕ, ◌+◌, ◌-◌, Bool, ◌||◌, nat_lt, min, max, if◌then◌else◌, List, [], ◌∷◌, ◌++◌, bytes_eq, decimal, Option, Some, None}
use Rattle.account_model.specs.declared.records.SubidRecord.{SubidRecord}
use Rattle.account_model.specs.Records.{last_id}

-- the owner field is the name of the user, or the decimal text of the UID, where it is known
abbrev pub is_owned : List ℕ → Option ℕ → SubidRecord → Bool
is_owned user None r = bytes_eq r.owner user
is_owned user (Some uid) r = bytes_eq r.owner user || bytes_eq r.owner (decimal uid)

-- a number of a range
pub record IsInRange (number : ℕ) (r : SubidRecord) : Type 0 where
  pub low : r.first ≤ number
  pub high : number ≤ last_id r

-- a number of some of these ranges
abbrev pub IsInSome : ℕ → List SubidRecord → Type 0
IsInSome number [] = ⊥
IsInSome number (r ∷ rest) = IsInRange number r ⊎ IsInSome number rest

-- a range of the same owner, with a number at least
pub record IsPieceOf (r piece : SubidRecord) : Type 0 where
  pub owner : piece.owner ≡ r.owner
  pub some : 1 ≤ piece.count

-- the numbers of a range below `first`
abbrev pub left_below : ℕ → SubidRecord → List SubidRecord
left_below first r = if nat_lt r.first first
    then record r { count = min (last_id r + 1) first - r.first } ∷ []
    else []

-- the numbers of a range above `last`
abbrev pub left_above : ℕ → SubidRecord → List SubidRecord
left_above last r = if nat_lt last (last_id r)
    then record r {
      first = max r.first (last + 1);
      count = last_id r + 1 - max r.first (last + 1);
    } ∷ []
    else []

-- what is left of a range without the numbers from first to last: none, one or two
abbrev pub left_without : ℕ → ℕ → SubidRecord → List SubidRecord
left_without first last r = left_below first r ++ left_above last r
