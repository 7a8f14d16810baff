-- How the cells of a file are kept: the file's bytes, what was put into places of it, and the lines
-- that were added (passwd(5), and likewise the other five tables).
use Rattle.std.specs.Prelude.{◌≡◌, ◌≢◌, ℕ, ◌+◌, ◌^◌, ◌<◌, ◌≤◌, ◌-◌, ◌==◌, nat_le, get_or, Bool, true, false, ◌||◌, List, [], ◌∷◌, ◌++◌, length, map, Option, None, Some, nat_eq}
use Rattle.std.specs.HashMap.{HashMap, get}
use Rattle.acct_text.specs.Bytes.{newline}
use Rattle.acct_text.specs.Lines.{Line, file_bytes, lines_of}
use Rattle.account_model.specs.Ids.{is_used}
use Rattle.acct_tables.specs.SeenLines.{seen_line}
use Rattle.acct_tables.specs.declared.lines.FileLine.{FileLine}
use Rattle.acct_tables.specs.declared.cell.Cell.{Cell}
use Rattle.acct_tables.specs.declared.patch.Patch.{Patch}
use Rattle.acct_tables.specs.declared.text_between.Cut.{Cut}
use Rattle.acct_tables.specs.Cells.{cells_from}

-- ---- What was put into places

-- what was put into each place, if anything was
abbrev pub Patches : Type 0
Patches = ℕ → Option Patch

-- those that a map has
abbrev pub patches_of : {S : Type 0} → HashMap ℕ Patch S → Patches
patches_of patched place = get nat_eq patched place

-- the texts in a place into which this was put, or nothing
abbrev pub texts_by : Option Patch → List (List ℕ) → List (List ℕ)
texts_by None texts = texts
texts_by (Some patch) texts = patch.texts.items

-- whether they got an end by what was put there
abbrev pub is_ended_by : Option Patch → Bool
is_ended_by None = false
is_ended_by (Some patch) = patch.ended

-- what stands in the place of a line
abbrev pub shown_cell : Bool → Option Patch → Cell → Cell
shown_cell are_ended patch cell = record {
  place = cell.place;
  texts = texts_by patch cell.texts;
  ended = (cell.ended || is_ended_by patch) || are_ended;
}

-- these texts were put into a place, where several have an end each, and nothing into another
pub record IsPut (place : ℕ) (texts : List (List ℕ)) (old new : Patches) : Type 0 where
  pub patch : Patch
  pub here : new place ≡ Some patch
  pub has : patch.texts.items ≡ texts
  pub ended : patch.ended ≡ (is_ended_by (old place) || nat_le 2 (length texts))
  pub others : (other : ℕ) → place ≢ other → new other ≡ old other

-- ---- All cells

-- that of an added line into whose place these texts were put
abbrev pub added_texts_cell : ℕ → List (List ℕ) → Cell
added_texts_cell place texts = record { place = place; texts = texts; ended = true }

-- the cells of added lines, the first in this place
abbrev pub added_from : ℕ → List (List (List ℕ)) → List Cell
added_from place [] = []
added_from place (texts ∷ rest) = added_texts_cell place texts ∷ added_from (place + 1) rest

-- those of a file with these bytes
abbrev pub cells_kept : List ℕ → Bool → Patches → List (List (List ℕ)) → List Cell
cells_kept text are_ended patches added =
    map (λ cell. shown_cell are_ended (patches cell.place) cell) (cells_from 0 (lines_of text))
    ++ added_from (length text) added

-- those that are left of a file, the first in this place, which lines of it and added ones have
abbrev pub cells_left : ℕ → List Line → Bool → Patches → List (List (List ℕ)) → List Cell
cells_left place lines are_ended patches added =
    map (λ cell. shown_cell are_ended (patches cell.place) cell) (cells_from place lines)
    ++ added_from (place + length (file_bytes lines)) added

-- a `usize` holds all their places
abbrev pub IsRoom : {X : Type 0} → ℕ → List Line → List X → Type 0
IsRoom place lines added = (place + length (file_bytes lines)) + length added < 2 ^ 64

-- ---- One line

-- the cell of a line of the file
abbrev pub line_cell : ℕ → FileLine → Cell
line_cell place line =
    record { place = place; texts = line.text.now ∷ []; ended = line.ended }

-- whether a byte of a file with these bytes is the first one, or stands behind an end
abbrev pub begins_line : ℕ → List ℕ → Bool
begins_line place text = place == 0 || get_or text (place - 1) 0 == newline

-- ---- The places into which texts were put

-- each from this place on is one of these
abbrev pub AreTold : Patches → ℕ → List ℕ → Type 0
AreTold patches from places =
    (place : ℕ) → from ≤ place → is_used places place ≡ false → patches place ≡ None

-- a text whose first line is at a place, cut where a line begins at another
pub record IsCutAt (first place : ℕ) (text : List ℕ) (cut : Cut) : Type 0 where
  -- the lines in front
  pub front : List Line
  pub lines : lines_of text ≡ front ++ seen_line cut.line ∷ lines_of cut.behind.now
  pub bytes : cut.front.now ≡ file_bytes front
  pub place_is : first + length (file_bytes front) ≡ place
