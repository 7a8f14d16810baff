-- The lines of a table's file, with what stands in the place of each while edits change them
-- (passwd(5), and likewise the other five tables). A place is the offset of the first byte of a line
-- in the file; that of an added line is behind the file.
use Rattle.std.specs.Prelude.{◌≡◌, ℕ, ◌+◌, ◌<◌, ◌==◌, ◌||◌, false, true, nat_le, AllPairs, List, [], ◌∷◌, ◌++◌, find, flat_map, length, map, Option, if◌then◌else◌}
use Rattle.std.specs.List.{AllByRecursion}
use Rattle.acct_text.specs.Lines.{Line, line_bytes}
use Rattle.account_model.specs.Ids.{is_used}
use Rattle.acct_tables.specs.Marks.{IsWithoutAll}
use Rattle.acct_tables.specs.declared.cell.Cell.{Cell}

-- its lines
abbrev pub cell_lines : Cell → List Line
cell_lines cell = map (λ text. record { text = text; ended = cell.ended }) cell.texts

-- the lines that stand now
abbrev pub lines_now : List Cell → List Line
lines_now cells = flat_map cell_lines cells

-- each line of a file in its place, the first at this one
abbrev pub cells_from : ℕ → List Line → List Cell
cells_from place [] = []
cells_from place (line ∷ rest) =
    record { place = place; texts = line.text ∷ []; ended = line.ended }
    ∷ cells_from (place + length (line_bytes line)) rest

-- what stands in the place
abbrev pub cell_at : ℕ → List Cell → Option Cell
cell_at place cells = find (λ cell. cell.place == place) cells

-- with these texts in place of its own, of which several have an end each
abbrev pub with_texts : List (List ℕ) → Cell → Cell
with_texts texts cell =
    record cell { texts = texts; ended = cell.ended || nat_le 2 (length texts) }

-- with these texts in the place
abbrev pub texts_put : ℕ → List (List ℕ) → List Cell → List Cell
texts_put place texts cells =
    map (λ cell. if cell.place == place then with_texts texts cell else cell) cells

-- with an end
abbrev pub ended_cell : Cell → Cell
ended_cell cell = record cell { ended = true }

-- with one more line, which has an end, behind the others, each of which gets one
abbrev pub text_added : ℕ → List ℕ → List Cell → List Cell
text_added place text cells =
    map ended_cell cells ++ record { place = place; texts = text ∷ []; ended = true } ∷ []

-- the places go up
abbrev pub ArePlaced : List Cell → Type 0
ArePlaced cells = AllPairs (λ earlier later. earlier.place < later.place) cells

-- the texts of a cell in another place than these have none of the marks
abbrev pub IsMarkless : List (List ℕ) → List ℕ → Cell → Type 0
IsMarkless marks places cell =
    is_used places cell.place ≡ false → AllByRecursion (IsWithoutAll marks) cell.texts

-- these places, which go up, have all texts with one of the marks
pub record AreMarked (marks : List (List ℕ)) (cells : List Cell) (places : List ℕ) : Type 0 where
  pub others : AllByRecursion (IsMarkless marks places) cells
  pub ascending : AllPairs (λ earlier later. earlier < later) places
