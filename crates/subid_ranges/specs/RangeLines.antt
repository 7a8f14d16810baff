-- The lines of a file of subordinate IDs, and what comes into them or goes out of them (useradd(8),
-- usermod(8), `-v`, `-V`, `-w` and `-W`; subuid(5), subgid(5)).
use Rattle.std.specs.Prelude.{ℕ, Bool, false, ◌&&◌, not, List, nat_le, Option, Some, None}
use Rattle.std.specs.List.{position_from}
use Rattle.acct_text.specs.Lines.{Line}
use Rattle.account_model.specs.declared.records.SubidRecord.{SubidRecord}
use Rattle.account_model.specs.Edits.{edited, Add}
use Rattle.account_model.specs.Format.{records_of}
use Rattle.account_model.specs.FreeRange.{meets}
use Rattle.account_model.specs.Records.{greatest_id, subid_format}
use Rattle.account_model.specs.SubidOwner.{is_owned}
use Rattle.account_model.specs.UsermodRanges.{IdRange, RangeOwner, cut_range, lies_in, line_meets}

-- the ranges of the lines, in their order
abbrev pub ranges_of : List Line → List SubidRecord
ranges_of lines = records_of subid_format lines

-- ---- IDs from a first to a last

-- there are none, or the last is no ID that a user can have
abbrev pub is_bad : ℕ → ℕ → Bool
is_bad first last = not (nat_le first last && nat_le last greatest_id)

-- the IDs as the value of an option names them
abbrev pub ids_from : ℕ → ℕ → IdRange
ids_from first last = record { first = first; last = last }

-- what is found at a place is a range with one of these IDs
abbrev pub meets_at : ℕ → ℕ → Option SubidRecord → Bool
meets_at first last found = elim found [ None ↦ false | Some r ↦ meets first last r ]

-- the number of the first line, counted from 1, whose range has one of these IDs
abbrev pub meeting_line : ℕ → ℕ → List Line → Option ℕ
meeting_line first last lines = position_from (line_meets (ids_from first last)) 1 lines

-- what is found at a place is a range of the owner with all these IDs
abbrev pub holds_at : List ℕ → Option ℕ → ℕ → ℕ → Option SubidRecord → Bool
holds_at name uid first last found =
    elim found [ None ↦ false | Some r ↦ is_owned name uid r && lies_in (ids_from first last) r ]

-- ---- A range that comes

-- a range of an owner
abbrev pub new_range : List ℕ → ℕ → ℕ → SubidRecord
new_range owner first count = record { owner = owner; first = first; count = count }

-- the lines with one more of such a range
abbrev pub with_range : List ℕ → ℕ → ℕ → List Line → List Line
with_range owner first count lines =
    edited subid_format lines (Add (new_range owner first count))

-- ---- IDs that go

-- the owner by a name and a UID
abbrev pub owner_of : List ℕ → Option ℕ → RangeOwner
owner_of name uid = record { old_name = name; new_name = name; uid = uid }

-- the lines when these IDs of an owner go
abbrev pub without_range : List ℕ → Option ℕ → ℕ → ℕ → List Line → List Line
without_range name uid first last lines =
    edited subid_format lines (cut_range (owner_of name uid) (ids_from first last))
