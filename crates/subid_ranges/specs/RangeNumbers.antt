-- What is known of the numbers of ranges while ranges come and go (useradd(8), userdel(8), subuid(5),
-- subgid(5)).
use Rattle.std.specs.Prelude.{ℕ, ◌≤◌, ◌↔◌, IsTrue, List, ◌∷◌, ◌++◌}
use Rattle.std.specs.List.{count_by}
use Rattle.account_model.specs.declared.records.SubidRecord.{SubidRecord}
use Rattle.account_model.specs.FreeRange.{meets}
use Rattle.subid_ranges.specs.Taken.{TakesThoseOf}
use Rattle.subid_ranges.specs.declared.range_numbers.RangeNumbers.{RangeNumbers}

-- no two of the ranges have a number in common: each number lies in one at most
abbrev pub AreApart : List SubidRecord → Type 0
AreApart ranges = (number : ℕ) → count_by (meets number number) ranges ≤ 1

-- the numbers are those that the ranges take, and it is known whether ranges share some
pub record AreNumbersOf (ranges : List SubidRecord) (numbers : RangeNumbers) : Type 0 where
  pub taken : TakesThoseOf ranges numbers.taken
  pub apart : IsTrue numbers.are_apart ↔ AreApart ranges

-- whatever ranges the old numbers are those of, the new ones are those without this one of them
abbrev pub LosesRange : SubidRecord → RangeNumbers → RangeNumbers → Type 0
LosesRange range old new =
    (before behind : List SubidRecord)
    → AreNumbersOf (before ++ range ∷ behind) old
    → AreNumbersOf (before ++ behind) new

-- whatever other ranges there are, the new numbers are those of the others without these
abbrev pub LosesRanges : List SubidRecord → RangeNumbers → RangeNumbers → Type 0
LosesRanges gone old new =
    (kept : List SubidRecord)
    → AreNumbersOf (gone ++ kept) old
    → AreNumbersOf kept new
