-- The lines of a diff as account_model has them, and where they stand. Places count from 0.
use Rattle.std.specs.List.{range_with_len}
use Rattle.std.specs.Prelude.{◌≡◌, ℕ, ◌+◌, ◌-◌, ◌≤◌, Bool, true, false, List, [], ◌∷◌, length, map, take, count_by, nat_le, slice_get, bytes_eq, Option, None, Some, IsSomeAnd}
use Rattle.std.specs.HashMap.{get_by}
use Rattle.acct_text.specs.Bytes.{Bytes}
use Rattle.acct_text.specs.Lines.{Line}
use Rattle.acct_tables.specs.SeenLines.{seen_line}
use Rattle.acct_tables.specs.declared.lines.FileLine.{FileLine}
use Rattle.account_model.specs.declared.fate.Fate.{Fate}
use Rattle.account_model.specs.declared.fate.Fate.TheVariants.{Kept, Gone, New}
use Rattle.account_model.specs.Format.{Format}
use Rattle.account_model.specs.PlanDiff.{DiffLine, hunk_text, is_new, is_old}
use Rattle.account_model.specs.PlanJson.{new_record}
use Rattle.plan_tool.specs.declared.diff.DiffLine.{DiffLine as SomeLine}
use Rattle.plan_tool.specs.declared.hunks.Point.{Point}
use Rattle.plan_tool.specs.declared.line_places.LinePlaces.{LinePlaces}

-- the lines of a file
abbrev pub seen_lines : List FileLine → List Line
seen_lines lines = map seen_line lines

-- a line of a diff
abbrev pub seen_diff_line : SomeLine → DiffLine
seen_diff_line line = record { fate = line.fate; line = seen_line line.line }

-- the lines of a diff
abbrev pub seen_diff : List SomeLine → List DiffLine
seen_diff lines = map seen_diff_line lines

-- how many of the new lines that are left an old one passes by that is found at a place among them
abbrev pub passed_by : Option ℕ → ℕ
passed_by None = 0
passed_by (Some place) = place + 1

-- ---- Last places

-- what places tell of each text
abbrev pub place_told : LinePlaces → Bytes → Option ℕ
place_told places text = get_by (λ key. bytes_eq text key.now) places.places

-- a text has a place, and it is this one or behind it
abbrev pub reaches : ℕ → Option ℕ → Bool
reaches from None = false
reaches from (Some place) = nat_le from place

-- of each line's text a place is told that is the line's or behind it
abbrev pub Knows : List Line → (Bytes → Option ℕ) → Type 0
Knows lines told = (place : ℕ) (line : Line) → slice_get lines place ≡ Some line
    → IsSomeAnd (told line.text) (λ last. place ≤ last)

-- ---- Points

-- the point in front of all lines
abbrev pub first_point : Point
first_point = record { place = 0; old = 0; new = 0 }

-- whether a line that becomes this is gone or new
abbrev pub changes_line : Fate → Bool
changes_line Kept = false
changes_line Gone = true
changes_line New = true

-- how many lines a line is in the old file
abbrev pub lines_in_old : Fate → ℕ
lines_in_old Kept = 1
lines_in_old Gone = 1
lines_in_old New = 0

-- how many it is in the new file
abbrev pub lines_in_new : Fate → ℕ
lines_in_new Kept = 1
lines_in_new Gone = 0
lines_in_new New = 1

-- the point behind one line more
abbrev pub point_behind : Point → DiffLine → Point
point_behind point line = record {
  place = point.place + 1;
  old = point.old + lines_in_old line.fate;
  new = point.new + lines_in_new line.fate;
}

-- the point says how many lines of both files stand in front of its place
pub record IsPointOf (lines : List DiffLine) (point : Point) : Type 0 where
  pub inside : point.place ≤ length lines
  pub old : point.old ≡ count_by is_old (take point.place lines)
  pub new : point.new ≡ count_by is_new (take point.place lines)

-- the hunk of the lines from a place up to another
abbrev pub hunk_between : List DiffLine → ℕ → ℕ → Bytes
hunk_between lines start end = hunk_text lines (range_with_len start (end - start))

-- ---- Records

-- the object of a record, where there is one
abbrev pub object_of : {R : Type 0} → (R → Bytes) → Option R → List Bytes
object_of object None = []
object_of object (Some found) = object found ∷ []

-- that of a line that is new
abbrev pub objects_of : {R : Type 0} → Format R → (R → Bytes) → DiffLine → List Bytes
objects_of format object line = object_of object (new_record format line)
