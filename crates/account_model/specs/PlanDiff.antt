-- The unified diff of the old and the new file of a table, in the form of diff(1) with `-u`: which lines are
-- gone, new or kept, and which of the kept ones are shown beside them. patch(1) with `-p1`, in the folder
-- above `etc`, makes the new file of the old one.
use Rattle.std.specs.Prelude.{◌≡◌, ℕ, ◌+◌, ◌-◌, Bool, true, false, ◌&&◌, not, ◌==◌, List, [], ◌∷◌, ◌++◌, length, map, filter, flat_map, count_by, take, drop, position, codes, decimal, bytes_eq, Option, None, Some, if◌then◌else◌}
use Rattle.std.specs.List.{list_any, slice_split, range_with_len}
use Rattle.acct_text.specs.Bytes.{Bytes, newline}
use Rattle.acct_text.specs.Lines.{Line, lines_of}
use Rattle.acct_text.specs.Tables.{table_name}
use Rattle.account_model.specs.declared.fate.Fate.{Fate}
use Rattle.account_model.specs.declared.fate.Fate.TheVariants.{Kept, Gone, New}
use Rattle.account_model.specs.PlanChanges.{TableChange}

-- ---- What becomes of the lines

-- a line of one file or of both, and what becomes of it
pub record DiffLine : Type 0 where
  pub fate : Fate
  pub line : Line

-- a line that is gone, new or kept
abbrev pub fated : Fate → Line → DiffLine
fated fate line = record { fate = fate; line = line }

-- whether it stands in the old file, as what is kept and gone does
abbrev pub is_old : DiffLine → Bool
is_old line = elim line.fate [ Kept ↦ true | Gone ↦ true | New ↦ false ]

-- whether it stands in the new file, as what is kept and new does
abbrev pub is_new : DiffLine → Bool
is_new line = elim line.fate [ Kept ↦ true | Gone ↦ false | New ↦ true ]

-- the lines of these that pass a test
abbrev pub lines_that : (DiffLine → Bool) → List DiffLine → List Line
lines_that test lines = map (λ line. line.line) (filter test lines)

-- the lines tell how one file becomes the other
pub record IsDiff (old new : Bytes) (lines : List DiffLine) : Type 0 where
  -- those that are kept and gone are the old file's, in order
  pub old_side : lines_that is_old lines ≡ lines_of old
  -- those that are kept and new are the new file's, in order
  pub new_side : lines_that is_new lines ≡ lines_of new

-- whether two lines have the same bytes
abbrev pub same_line : Line → Line → Bool
same_line line other =
    bytes_eq line.text other.text && (if line.ended then other.ended else not other.ended)

-- what becomes of an old line that is found at this place among the new ones, and of those in front of
-- it: it is kept and they are new; one that isn't found is gone
abbrev pub lines_until : Line → Option ℕ → List Line → List DiffLine
lines_until old None news = fated Gone old ∷ []
lines_until old (Some place) news = map (fated New) (take place news) ++ fated Kept old ∷ []

-- the new lines that are left behind that
abbrev pub lines_left : Option ℕ → List Line → List Line
lines_left None news = news
lines_left (Some place) news = drop (place + 1) news

-- what becomes of the old lines, one after another, each among the new ones that are left; in the end
-- all that are left are new
abbrev pub lines_between : List Line → List Line → List DiffLine
lines_between [] news = map (fated New) news
lines_between (old ∷ olds) news = let found = position (same_line old) news in
    lines_until old found news ++ lines_between olds (lines_left found news)

-- what becomes of the lines of a file
abbrev pub diff_lines : Bytes → Bytes → List DiffLine
diff_lines old new = lines_between (lines_of old) (lines_of new)

-- it tells how one file becomes the other, for any two files
abbrev pub DiffsAreExact : Type 0
DiffsAreExact = (old new : Bytes) → IsDiff old new (diff_lines old new)

-- ---- Which lines are shown

-- whether the line is gone or new
abbrev pub is_change : DiffLine → Bool
is_change line = elim line.fate [ Kept ↦ false | Gone ↦ true | New ↦ true ]

-- whether the line at a place is shown: one that is gone or new stands at most three places away
abbrev pub is_shown : List DiffLine → ℕ → Bool
is_shown lines place = list_any is_change (drop (place - 3) (take (place + 4) lines))

-- the hunks, each as the places of its lines: all places, cut at each whose line isn't shown
abbrev pub hunks : List DiffLine → List (List ℕ)
hunks lines = slice_split (λ place. not (is_shown lines place)) (range_with_len 0 (length lines))

-- ---- Their texts

-- in front of each line stands what becomes of it
abbrev pub mark_of : Fate → Bytes
mark_of Kept = codes " "
mark_of Gone = codes "-"
mark_of New = codes "+"

-- what stands behind a line: a last one without a newline says so
abbrev pub end_text : Bool → Bytes
end_text true = newline ∷ []
end_text false = codes "\n\\ No newline at end of file\n"

-- a line with its mark
abbrev pub diff_line_text : DiffLine → Bytes
diff_line_text line = mark_of line.fate ++ line.line.text ++ end_text line.line.ended

-- how many lines of both files stand in front of a place
pub record Point : Type 0 where
  pub old : ℕ
  pub new : ℕ

-- how many of these lines do, at a place that counts from 0
abbrev pub point_at : List DiffLine → ℕ → Point
point_at lines place = record {
  old = count_by is_old (take place lines);
  new = count_by is_new (take place lines);
}

-- the lines of one file from a point to another: the number of the first, from 1, and how many they
-- are where that isn't one; where there are none, the number of the line in front
abbrev pub range_text : ℕ → ℕ → Bytes
range_text start end =
    decimal (if end == start then start else start + 1)
    ++ (if end == start + 1 then [] else codes "," ++ decimal (end - start))

-- the head of a hunk
abbrev pub hunk_head : Point → Point → Bytes
hunk_head start end = codes "@@ -" ++ range_text start.old end.old
    ++ codes " +" ++ range_text start.new end.new ++ codes " @@\n"

-- the lines from a place up to another
abbrev pub lines_within : List DiffLine → ℕ → ℕ → List DiffLine
lines_within lines start end = take (end - start) (drop start lines)

-- a hunk: nothing without lines, else its head and its lines
abbrev pub hunk_text : List DiffLine → List ℕ → Bytes
hunk_text lines [] = []
hunk_text lines (start ∷ rest) = let end = start + length (start ∷ rest) in
    hunk_head (point_at lines start) (point_at lines end)
    ++ flat_map diff_line_text (lines_within lines start end)

-- the hunks of the lines, one behind the other
abbrev pub hunks_text : List DiffLine → Bytes
hunks_text lines = flat_map (hunk_text lines) (hunks lines)

-- the diff of a table that changes: both files by their names, and the hunks
abbrev pub diff_text : TableChange → Bytes
diff_text change =
    codes "--- a/etc/" ++ table_name change.table
    ++ codes "\n+++ b/etc/" ++ table_name change.table ++ codes "\n"
    ++ hunks_text (diff_lines change.old change.new)
