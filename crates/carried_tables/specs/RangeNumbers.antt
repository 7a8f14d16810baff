-- What is known of the ranges of a file while edits change it (subuid(5), subgid(5)), and which edits
-- it follows (useradd(8), userdel(8), usermod(8), `-l`, `-V` and `-W`).
use Rattle.std.specs.Prelude.{◌≡◌, ℕ, Bool, false, List, [], ◌∷◌, ◌++◌, bytes_eq, decimal, filter, IfSome, Option, None, Some}
use Rattle.account_model.specs.Edits.Edit.{Become}
use Rattle.account_model.specs.Records.{subid_format}
use Rattle.account_model.specs.Tables.{table_records}
use Rattle.account_model.specs.declared.records.SubidRecord.{SubidRecord}
use Rattle.account_model.specs.SubidOwner.{is_owned}
use Rattle.line_edits.specs.declared.edit.Edit.{Edit}
use Rattle.line_edits.specs.declared.subid_changes.RangeCut.{RangeCut}
use Rattle.line_edits.specs.declared.subid_changes.SubidChange.{SubidChange}
use Rattle.line_edits.specs.declared.subid_changes.SubidChange.TheVariants.{Cut}
use Rattle.line_edits.specs.SeenEdits.{seen_edits}
use Rattle.line_edits.specs.SubidChanges.{subid_becomes}
use Rattle.subid_ranges.specs.RangeNumbers.{AreNumbersOf}
use Rattle.subid_ranges.specs.declared.range_numbers.RangeNumbers.{RangeNumbers}

-- the numbers are those of the file's ranges
abbrev pub AreNumbersIn : Option (List ℕ) → RangeNumbers → Type 0
AreNumbersIn file numbers = AreNumbersOf (table_records subid_format file) numbers

-- the edits are one alone, by a change that takes these IDs out of ranges
pub record IsCutBy (change : SubidChange) (cut : RangeCut) (edits : List
    (Edit SubidRecord SubidChange))
    : Type 0 where
  pub alone : seen_edits subid_becomes edits ≡ Become (subid_becomes change) ∷ []
  pub cuts : change ≡ Cut cut

-- whether the owner is the decimal text of the UID, where it is known
abbrev pub is_numbered : Option ℕ → SubidRecord → Bool
is_numbered None r = false
is_numbered (Some uid) r = bytes_eq r.owner (decimal uid)

-- the range is the only one whose owner is the name or the text of the UID, and has the name
pub record IsOnlyOf (name : List ℕ) (uid : Option ℕ) (ranges : List SubidRecord)
    (only : SubidRecord)
    : Type 0 where
  pub alone : filter (is_owned name uid) ranges ≡ only ∷ []
  pub named : only.owner ≡ name

-- whatever other ranges are, what was known of them is known with one more, if any
abbrev pub FollowsGain : SubidRecord → Option RangeNumbers → Option RangeNumbers → Type 0
FollowsGain r known gained =
    (others : List SubidRecord)
    → IfSome known (AreNumbersOf others)
    → IfSome gained (AreNumbersOf (others ++ r ∷ []))
