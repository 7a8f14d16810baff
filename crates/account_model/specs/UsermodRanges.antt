-- The subordinate IDs that usermod removes and adds (usermod(8), `-v`, `-V`, `-w` and `-W`; subuid(5), subgid(5)).
use Rattle.std.specs.Prelude.{ℕ, ◌+◌, ◌-◌, Bool, false, not, ◌&&◌, List, [], ◌∷◌, ◌++◌, map, filter_map, bytes_eq, nat_le, Option, Some, None, is_some, option_and_then, unwrap_or, if◌then◌else◌}
use Rattle.std.specs.List.{list_any, position_from}
use Rattle.acct_text.specs.declared.Tab.{Tab}
use Rattle.account_model.specs.declared.records.SubidRecord.{SubidRecord}
use Rattle.account_model.specs.declared.refusal.Refusal.{Refusal}
use Rattle.account_model.specs.declared.refusal.Refusal.TheVariants.{Meets}
use Rattle.acct_text.specs.Lines.{Line, lines_of}
use Rattle.acct_text.specs.Pieces.{cut_at}
use Rattle.account_model.specs.Text.{hyphen}
use Rattle.account_model.specs.Format.{is_named, records_of}
use Rattle.account_model.specs.Edits.{Edit, each_where, edit_if, edited, edited_by}
use Rattle.account_model.specs.Edits.Edit.{Add, Become}
use Rattle.account_model.specs.Records.{last_id, subid_format, read_id}
use Rattle.account_model.specs.FreeRange.{meets}
use Rattle.account_model.specs.Request.{Request, values_of}
use Rattle.account_model.specs.SubidOwner.{is_owned, left_without}

-- ---- The values

-- FIRST-LAST, two IDs of which the first isn't above the last
pub record IdRange : Type 0 where
  pub first : ℕ
  pub last : ℕ

-- the range of two IDs
abbrev pub range_of_ids : Option ℕ → Option ℕ → Option IdRange
range_of_ids (Some first) (Some last) =
    if nat_le first last then Some (record { first = first; last = last }) else None
range_of_ids first last = None

-- the range of a text that was cut at its hyphens
abbrev pub range_of_pieces : List (List ℕ) → Option IdRange
range_of_pieces (first ∷ last ∷ []) = range_of_ids (read_id first) (read_id last)
range_of_pieces pieces = None

-- the range that a value names
abbrev pub range_value : List ℕ → Option IdRange
range_value text = range_of_pieces (cut_at hyphen text)

-- whether a value names a range
abbrev pub is_range : List ℕ → Bool
is_range text = is_some (range_value text)

-- the ranges of an option, each of which counts, in order
abbrev pub ranges_given : List ℕ → Request → List IdRange
ranges_given letter request = filter_map range_value (values_of letter request)

-- whether all numbers of the range are those of a line
abbrev pub lies_in : IdRange → SubidRecord → Bool
lies_in ids r = nat_le r.first ids.first && nat_le ids.last (last_id r)

-- ---- The edits

-- whose ranges they are: LOGIN as it was, the name as it becomes, and the UID as it becomes
pub record RangeOwner : Type 0 where
  pub old_name : List ℕ
  pub new_name : List ℕ
  pub uid : Option ℕ

-- what one of the tables is asked for: the ranges that go, and those that come
pub record RangeChange : Type 0 where
  pub removed : List IdRange
  pub added : List IdRange

-- what an option removes, and what another adds
abbrev pub change_asked : List ℕ → List ℕ → Request → RangeChange
change_asked removing adding request = record {
  removed = ranges_given removing request;
  added = ranges_given adding request;
}

-- the owner field follows the name
abbrev pub rename_owner : RangeOwner → Edit SubidRecord
rename_owner owner =
    each_where (is_named subid_format owner.old_name) (λ r. record r { owner = owner.new_name })

-- an owner that gets another name is renamed
abbrev pub renaming : RangeOwner → List (Edit SubidRecord)
renaming owner =
    edit_if (not (bytes_eq owner.old_name owner.new_name)) (rename_owner owner)

-- the numbers of a range go out of every line that the user owns
abbrev pub cut_range : RangeOwner → IdRange → Edit SubidRecord
cut_range owner ids = Become (λ r.
    if is_owned owner.new_name owner.uid r then left_without ids.first ids.last r else r ∷ [])

-- the line `LOGIN:FIRST:COUNT` is appended
abbrev pub add_range : RangeOwner → IdRange → Edit SubidRecord
add_range owner ids =
    Add (record { owner = owner.new_name; first = ids.first; count = ids.last + 1 - ids.first })

-- the owner is renamed, and then the ranges are removed
abbrev pub edits_before_adding : RangeOwner → RangeChange → List (Edit SubidRecord)
edits_before_adding owner change = renaming owner ++ map (cut_range owner) change.removed

-- and then ranges are added
abbrev pub range_edits : RangeOwner → RangeChange → List (Edit SubidRecord)
range_edits owner change = edits_before_adding owner change ++ map (add_range owner) change.added

-- ---- The ranges that come

-- whether a line that the user owns has all numbers of the range
abbrev pub has_range : RangeOwner → IdRange → List Line → Bool
has_range owner ids lines = list_any (λ r. is_owned owner.new_name owner.uid r && lies_in ids r)
    (records_of subid_format lines)

-- the ranges that the user lacks, as the lines stand when the turn of each comes
abbrev pub new_ranges : RangeOwner → List IdRange → List Line → List IdRange
new_ranges owner [] lines = []
new_ranges owner (ids ∷ rest) lines = if has_range owner ids lines
    then new_ranges owner rest lines
    else ids ∷ new_ranges owner rest (edited subid_format lines (add_range owner ids))

-- a change as the table's file has it: no range is added that the user has after the renaming and all removals, or by
-- one that is added before it
abbrev pub change_in : Option (List ℕ) → RangeOwner → RangeChange → RangeChange
change_in bytes owner change = record change {
  added = new_ranges owner change.added
      (edited_by subid_format (edits_before_adding owner change) (lines_of (unwrap_or bytes [])));
}

-- ---- The refusal

-- whether a line's range has a number in common with these
abbrev pub line_meets : IdRange → Line → Bool
line_meets ids line =
    elim (subid_format.read line.text) [ None ↦ false | Some r ↦ meets ids.first ids.last r ]

-- the first added range that meets a line, and the number of the first such line, as the lines stand then
abbrev pub first_meeting : Tab → RangeOwner → List IdRange → List Line → Option Refusal
first_meeting table owner [] lines = None
first_meeting table owner (ids ∷ rest) lines = elim (position_from (line_meets ids) 1 lines) [
  | Some number ↦ Some (Meets ids.first ids.last table number)
  | None ↦ first_meeting table owner rest (edited_by subid_format (add_range owner ids ∷ []) lines)
]

-- the first added range that meets a line of the table, as it stands after the renaming and all removals
abbrev pub meeting_in : Tab → RangeOwner → RangeChange → Option (List ℕ) → Option Refusal
meeting_in table owner change bytes = option_and_then
    (λ text. first_meeting table owner change.added
    (edited_by subid_format (edits_before_adding owner change) (lines_of text)))
    bytes
