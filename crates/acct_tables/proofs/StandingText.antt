-- Claim: what stands in the places of lines of which a text was put into one alone are the bytes of those
-- in front, what stands in that place, and what stands behind it (`standing-cut`). Way: a line in front
-- has an end, and stands as it was (`front-stands`).
use Rattle.std.proofs.Common.{◌≡◌, ◌∙◌, ℕ, ◌+◌, ◌<◌, ◌≤◌, Bool, true, List, [], ◌∷◌, ◌++◌, length, map, suc, refl, sym, ap, ap₂, arith, append_assoc}
use Rattle.std.specs.Prelude.{◌||◌, ◌==◌, AllPairs, false, get_or, nat_eq, None}
use Rattle.std.specs.Map.{lookup}
use Rattle.std.proofs.lemmas.Bool.{eq-eqb, ne_eqb, or_from, or_parts}
use Rattle.std.specs.List.{AllByRecursion}
use Rattle.std.proofs.lemmas.Grind.{flat_map-append}
use Rattle.std.proofs.lemmas.List.{length-append, map-append}
use Rattle.acct_text.specs.Lines.{AreEnded, Line, file_bytes, line_bytes}
use Rattle.account_model.specs.Ids.{is_used}
use Rattle.acct_tables.specs.declared.cell.Cell.{Cell}
use Rattle.acct_tables.specs.Cells.{cell_lines, cells_from, lines_now}
use Rattle.acct_tables.specs.Kept.{Patches, added_from, cells_left, shown_cell}
use Rattle.acct_tables.proofs.MarkedPlaces.{GoUp}
use Rattle.acct_tables.proofs.PlacedCells.{cells-append, ended-rest, line-counted}

-- a place that isn't the key of an entry has none
pub unused-none :
    {X : Type 0} (entries : List (ℕ × X)) (place : ℕ)
    → is_used (map (λ entry. entry.0) entries) place ≡ false
    → lookup (nat_eq place) entries ≡ None
unused-none [] place unused = refl
unused-none (entry ∷ entries) place unused =
    let both = or_parts (entry.0 == place) (is_used (map
    (λ entry. entry.0) entries) place) unused in
    rw (ne_eqb place entry.0 (λ same. let is : true ≡ false =
    sym (eq-eqb entry.0 place (sym same)) ∙ both.0 in absurd cc))
    (unused-none entries place both.1)

-- lines in front of others have ends
front-ended :
    (front : List Line) (line : Line) (rest : List Line)
    → AreEnded (front ++ line ∷ rest)
    → AllByRecursion (λ line. line.ended ≡ true) front
front-ended [] line rest ended = tt
front-ended (first ∷ []) line rest ended = (ended.0, tt)
front-ended (first ∷ second ∷ front) line rest ended =
    (ended.0, front-ended (second ∷ front) line rest ended.1)

-- a line behind others has a byte
pub behind-counted :
    (front : List Line) (line : Line) (rest : List Line)
    → AreEnded (front ++ line ∷ rest)
    → 0 < length (line_bytes line)
behind-counted [] line rest ended = line-counted line rest ended
behind-counted (first ∷ front) line rest ended =
    behind-counted front line rest (ended-rest first (front ++ line ∷ rest) ended)

-- lines that have ends are lines of a file
are-ended :
    (lines : List Line) → AllByRecursion (λ line. line.ended ≡ true) lines → AreEnded lines
are-ended [] ended = tt
are-ended (line ∷ []) ended = λ without.
    let both : true ≡ false = sym ended.0 ∙ without in absurd cc
are-ended (line ∷ next ∷ lines) ended = (ended.0, are-ended (next ∷ lines) ended.1)

-- ---- Places that go up

-- one in front of all isn't one of them
pub up-unused :
    (from other : ℕ) (places : List ℕ)
    → GoUp from places
    → other < from
    → is_used places other ≡ false
up-unused from other [] up before = refl
up-unused from other (place ∷ places) up before =
    or_from (place == other) (is_used places other)
    (ne_eqb place other (λ same. omega (arith, same, up.0)))
    (up-unused (place + 1) other places up.1 (omega (arith, up.0)))

-- pairs that go up
pub up-from :
    (from : ℕ) (places : List ℕ)
    → ((i d : ℕ) → i < length places → from ≤ get_or places i d)
    → AllPairs (λ earlier later. earlier < later) places
    → GoUp from places
up-from from [] low pairs = tt
up-from from (place ∷ places) low pairs = (
  low 0 0 (omega arith),
  up-from (place + 1) places
      (λ i d inside. let below = pairs 0 (suc i) d (omega arith) (omega (arith, inside)) in
      omega (arith, below))
      (λ i j d before inside. pairs (suc i) (suc j) d (omega (arith, before)) (omega
      (arith, inside))),
)

-- ---- What stands

module _ (are_ended : Bool) (patches : Patches) where
  abbrev shown : List Cell → List Cell
  shown cells = map (λ cell. shown_cell are_ended (patches cell.place) cell) cells

  -- the bytes of cells
  abbrev bytes_in : List Cell → List ℕ
  bytes_in cells = file_bytes (lines_now cells)

  -- those of two lists of cells
  bytes-append :
      (front back : List Cell) → bytes_in (front ++ back) ≡ bytes_in front ++ bytes_in back
  bytes-append front back =
      ap file_bytes (flat_map-append cell_lines front back)
      ∙ flat_map-append line_bytes (lines_now front) (lines_now back)

  -- lines into whose places nothing was put stand as they were
  front-stands :
      (from end : ℕ) (front : List Line)
      → AllByRecursion (λ line. line.ended ≡ true) front
      → AreEnded front
      → from + length (file_bytes front) ≤ end
      → ((place : ℕ) → from ≤ place → place < end → patches place ≡ None)
      → bytes_in (shown (cells_from from front)) ≡ file_bytes front
  front-stands from end [] ended are inside none = refl
  front-stands from end (line ∷ front) ended are inside none =
      let next = from + length (line_bytes line) in
      let size = length-append (line_bytes line) (file_bytes front) in
      let some = line-counted line front are in
      let cell : Cell = record { place = from; texts = line.text ∷ []; ended = line.ended } in
      let as_one : Bool → List Line = λ ended. record { text = line.text; ended = ended } ∷ [] in
      let here : cell_lines (shown_cell are_ended (patches from) cell) ≡ line ∷ [] =
      ap (λ patch. cell_lines (shown_cell are_ended patch cell))
      (none from (omega arith) (omega (arith, inside, size, some)))
      ∙ ap (λ ended. as_one ((ended || false) || are_ended)) ended.0
      ∙ ap as_one (sym ended.0) in
      ap (λ lines. file_bytes (lines ++ lines_now (shown (cells_from next front)))) here
      ∙ ap (λ later. line_bytes line ++ later)
      (front-stands next end front ended.1 (ended-rest line front are) (omega (arith, inside, size))
      (λ place low high. none place (omega (arith, low)) high))

  -- the cells that are left, cut where a line begins
  pub standing-cut :
      (from place : ℕ) (front : List Line) (line : Line) (rest : List Line)
      (added : List (List (List ℕ)))
      → AreEnded (front ++ line ∷ rest)
      → from + length (file_bytes front) ≡ place
      → ((other : ℕ) → from ≤ other → other < place → patches other ≡ None)
      → bytes_in (cells_left from (front ++ line ∷ rest) are_ended patches added)
      ≡ file_bytes front
      ++ (file_bytes (cell_lines (shown_cell are_ended (patches place)
      (record { place = place; texts = line.text ∷ []; ended = line.ended })))
      ++ bytes_in (cells_left (place + length (line_bytes line)) rest are_ended patches added))
  standing-cut from place front line rest added ended end none =
      let cell : Cell = record { place = place; texts = line.text ∷ []; ended = line.ended } in
      let first = shown_cell are_ended (patches place) cell in
      let next = place + length (line_bytes line) in
      let last = from + length (file_bytes (front ++ line ∷ rest)) in
      let ends : last ≡ next + length (file_bytes rest) =
      omega (
        arith,
        end,
        ap length (flat_map-append line_bytes front (line ∷ rest)),
        length-append (file_bytes front) (file_bytes (line ∷ rest)),
        length-append (line_bytes line) (file_bytes rest),
      ) in
      ap (λ cells. bytes_in (cells ++ added_from last added))
      (ap shown (cells-append from front (line ∷ rest)
      ∙ ap (λ n. cells_from from front ++ cells_from n (line ∷ rest)) end)
      ∙ map-append (λ cell. shown_cell are_ended (patches cell.place) cell) (cells_from from front)
      (cells_from place (line ∷ rest)))
      ∙ ap bytes_in
      (append_assoc (shown (cells_from from front)) (first ∷ shown (cells_from next rest))
      (added_from last added))
      ∙ bytes-append (shown (cells_from from front))
      (first ∷ (shown (cells_from next rest) ++ added_from last added))
      ∙ ap₂ (λ one other. one ++ other)
      (front-stands from place front (front-ended front line rest ended)
      (are-ended front (front-ended front line rest ended)) (omega (arith, end)) none)
      (flat_map-append line_bytes (cell_lines first)
      (lines_now (shown (cells_from next rest) ++ added_from last added))
      ∙ ap (λ n. file_bytes (cell_lines first)
      ++ bytes_in (shown (cells_from next rest) ++ added_from n added)) ends)
