-- Claim: the line that begins at a place of a file is the first of the bytes from there on where the
-- place is the first or stands behind an end (`begun-found`, `taken-found`), and else none begins there
-- (`unbegun-none`). Way: a file is cut in two lists of lines behind an end (`begun-at`); all places in
-- front are lower, and each line but the first begins behind an end (`none-within`).
use Rattle.std.proofs.Common.{◌≡◌, ◌∙◌, ℕ, ◌+◌, ◌-◌, ◌<◌, ◌≤◌, Bool, true, false, inl, inr, List, [], ◌∷◌, ◌++◌, length, take, drop, get_or, refl, sym, ap, subst, arith, append_assoc}
use Rattle.std.specs.Prelude.{◌==◌, ◌||◌, Option, Some, None, MatchOption, option_map, if◌then◌else◌}
use Rattle.std.proofs.Math.Seq.{get_or-append_seam}
use Rattle.std.proofs.lemmas.Bool.{cases_order, eq-eqb, eqb-false, eqb-true, ne_eqb, true≢false}
use Rattle.std.proofs.lemmas.List.{get_or-append-add, length-append, length-drop, length-take-le}
use Rattle.acct_text.specs.Bytes.{newline}
use Rattle.acct_text.specs.Lines.{AreEnded, Line, file_bytes, line_bytes, lines_of}
use Rattle.acct_text.proofs.LinesLaws.{lines_of-are}
use Rattle.acct_tables.specs.SeenLines.{seen_line}
use Rattle.acct_tables.specs.declared.lines.FileLine.{FileLine}
use Rattle.acct_tables.proofs.MarkLemmas.{cut-there, newline-cut}
use Rattle.acct_tables.specs.declared.cell.Cell.{Cell}
use Rattle.acct_tables.specs.Cells.{cell_at, cells_from}
use Rattle.acct_tables.specs.Kept.{begins_line, line_cell}
use Rattle.acct_tables.proofs.PlacedCells.{AreElsewhere, before-elsewhere, behind-elsewhere, cells-append, ended-rest, lines-ascend, lines-below, none-elsewhere}

-- ---- A place where a line begins

-- the lines of a file are cut at a place
pub record IsBegun (text : List ℕ) (place : ℕ) : Type 0 where
  -- the lines in front
  pub front : List Line
  pub cut : lines_of text ≡ front ++ lines_of (drop place text)
  pub ended : AreEnded front
  pub size : length (file_bytes front) ≡ place

-- at the first one
first-begun : (text : List ℕ) → IsBegun text 0
first-begun text = record { front = []; cut = refl; ended = tt; size = refl }

-- behind an end
behind-begun :
    (text : List ℕ) (before : ℕ)
    → before < length text
    → get_or text before 0 ≡ newline
    → IsBegun text (before + 1)
behind-begun text before inside at =
    let front = take before text ++ newline ∷ [] in
    let are = lines_of-are front in
    let size : length (take before text) ≡ before = length-take-le before text (omega arith) in
    record {
      front = lines_of front;
      cut = ap lines_of (cut-there text before inside at)
          ∙ newline-cut (take before text) (drop (before + 1) text);
      ended = are.ended;
      size = ap length are.joined ∙ length-append (take before text) (newline ∷ [])
          ∙ ap (λ n. n + 1) size;
    }

-- by what stands in front of it
pub begun-at :
    (text : List ℕ) (place : ℕ) (is_first : Bool)
    → place < length text
    → (place == 0) ≡ is_first
    → (is_first || get_or text (place - 1) 0 == newline) ≡ true
    → IsBegun text place
begun-at text place true inside first begins =
    subst (IsBegun text) (sym (eqb-true place 0 first)) (first-begun text)
begun-at text place false inside first begins =
    let some : place ≡ 0 → ⊥ = eqb-false place 0 first in
    let back : (place - 1) + 1 ≡ place = omega (arith, some) in
    subst (IsBegun text) back
    (behind-begun text (place - 1) (omega (arith, back)) (eqb-true _ newline begins))

-- what is found at the first place of lines
first-found :
    (place : ℕ) (line : Line) (rest : List Line)
    → cell_at place (cells_from place (line ∷ rest))
    ≡ Some (record { place = place; texts = line.text ∷ []; ended = line.ended })
first-found place line rest = rw (eq-eqb place place refl) refl

-- behind cells that are elsewhere
behind-found :
    (place : ℕ) (front back : List Cell)
    → AreElsewhere place front
    → cell_at place (front ++ back) ≡ cell_at place back
behind-found place [] back elsewhere = refl
behind-found place (cell ∷ front) back elsewhere =
    rw (ne_eqb cell.place place elsewhere.0) (behind-found place front back elsewhere.1)

-- the first line of the bytes from a place on is the one that begins there
begun-found :
    (text : List ℕ) (place : ℕ) (line : Line) (rest : List Line)
    → place < length text
    → begins_line place text ≡ true
    → lines_of (drop place text) ≡ line ∷ rest
    → Some (record { place = place; texts = line.text ∷ []; ended = line.ended })
    ≡ cell_at place (cells_from 0 (lines_of text))
begun-found text place line rest inside begins taken =
    let begun = begun-at text place (place == 0) inside refl begins in
    let front = begun.front in
    let end : 0 + length (file_bytes front) ≡ place = omega (arith, begun.size) in
    let elsewhere = behind-elsewhere place (0 + length (file_bytes front)) (cells_from 0 front)
    (omega (arith, end)) (lines-below 0 front begun.ended) in
    sym (ap (λ lines. cell_at place (cells_from 0 lines)) begun.cut
    ∙ ap (cell_at place) (cells-append 0 front (lines_of (drop place text)))
    ∙ behind-found place (cells_from 0 front)
    (cells_from (0 + length (file_bytes front)) (lines_of (drop place text))) elsewhere
    ∙ ap (λ n. cell_at place (cells_from n (lines_of (drop place text)))) end
    ∙ ap (λ lines. cell_at place (cells_from place lines)) taken
    ∙ first-found place line rest)

-- of the lines that the bytes from a place on have
pub taken-found :
    (text : List ℕ) (place : ℕ) (found : Option FileLine) (left rest : List Line)
    → place < length text
    → begins_line place text ≡ true
    → left ≡ lines_of (drop place text)
    → MatchOption found (left ≡ []) (λ line. left ≡ seen_line line ∷ rest)
    → option_map (line_cell place) found ≡ cell_at place (cells_from 0 (lines_of text))
taken-found text place None left rest inside begins is none =
    let bytes : [] ≡ drop place text =
    ap file_bytes (sym none ∙ is) ∙ (lines_of-are (drop place text)).joined in
    absurd (omega (arith, length-drop place text, ap length bytes))
taken-found text place (Some line) left rest inside begins is taken =
    begun-found text place (seen_line line) rest inside begins (sym is ∙ taken)

-- ---- A place where none does

-- an end is the last byte of a line
end-there :
    (text bytes : List ℕ) (ended : Bool)
    → ended ≡ true
    → get_or ((text ++ (if ended then newline ∷ [] else [])) ++ bytes) (length text) 0 ≡ newline
end-there text bytes true is =
    ap (λ all. get_or all (length text) 0) (append_assoc text (newline ∷ []) bytes)
    ∙ get_or-append_seam text newline bytes 0
end-there text bytes false is = absurd cc

-- the length of a line with an end
end-counted :
    (text : List ℕ) (ended : Bool)
    → ended ≡ true
    → length (text ++ (if ended then newline ∷ [] else [])) ≡ length text + 1
end-counted text true is = length-append text (newline ∷ [])
end-counted text false is = absurd cc

-- behind a byte that is no end no line begins: none of those behind a line, of which it is the last byte
none-next :
    (line : Line) (rest : List Line) (place next k : ℕ)
    → AreEnded (line ∷ rest)
    → k + 1 ≡ length (line_bytes line)
    → (get_or (line_bytes line ++ file_bytes rest) k 0 == newline) ≡ false
    → cell_at place (cells_from next rest) ≡ None
none-next line [] place next k ended last other = refl
none-next line (later ∷ rest) place next k ended last other =
    let bytes = file_bytes (later ∷ rest) in
    let here : k ≡ length line.text =
    omega (arith, last, end-counted line.text line.ended ended.0) in
    let is : get_or (line_bytes line ++ bytes) k 0 ≡ newline =
    ap (λ n. get_or (line_bytes line ++ bytes) n 0) here
    ∙ end-there line.text bytes line.ended ended.0 in
    absurd (eqb-false _ newline other is)

-- nor any line
none-within :
    (from k place : ℕ) (lines : List Line)
    → AreEnded lines
    → place ≡ from + (k + 1)
    → (get_or (file_bytes lines) k 0 == newline) ≡ false
    → cell_at place (cells_from from lines) ≡ None
none-within from k place [] ended is other = refl
none-within from k place (line ∷ rest) ended is other =
    let size = length (line_bytes line) in
    let next = from + size in
    let later = ended-rest line rest ended in
    let apart : from ≡ place → ⊥ = λ same. omega (arith, same, is) in
    let rest_none : cell_at place (cells_from next rest) ≡ None =
    elim (cases_order (k + 1) size) [
      | inl last ↦ none-next line rest place next k ended last other
      | inr (inl inside) ↦ none-elsewhere place (cells_from next rest)
          (before-elsewhere place next (cells_from next rest) (omega (arith, is, inside))
          (lines-ascend next rest later))
      | inr (inr behind) ↦
          let more : size + (k - size) ≡ k = omega (arith, behind) in
          let there : get_or (line_bytes line ++ file_bytes rest) k 0
          ≡ get_or (file_bytes rest) (k - size) 0 =
          ap (λ n. get_or (line_bytes line ++ file_bytes rest) n 0) (sym more)
          ∙ get_or-append-add (line_bytes line) (file_bytes rest) (k - size) 0 in
          none-within next (k - size) place rest later (omega (arith, is, more))
          (ap (λ byte. byte == newline) (sym there) ∙ other)
    ] in
    rw (ne_eqb from place apart) rest_none

-- by what stands in front of the place
unbegun-at :
    (text : List ℕ) (place : ℕ) (is_first : Bool)
    → (place == 0) ≡ is_first
    → (is_first || get_or text (place - 1) 0 == newline) ≡ false
    → cell_at place (cells_from 0 (lines_of text)) ≡ None
unbegun-at text place true first other = absurd (true≢false other)
unbegun-at text place false first other =
    let some : place ≡ 0 → ⊥ = eqb-false place 0 first in
    let are = lines_of-are text in
    none-within 0 (place - 1) place (lines_of text) are.ended (omega (arith, some))
    (ap (λ bytes. get_or bytes (place - 1) 0 == newline) are.joined ∙ other)

-- where it is neither the first nor behind an end, no line begins
pub unbegun-none :
    (text : List ℕ) (place : ℕ)
    → begins_line place text ≡ false
    → None ≡ cell_at place (cells_from 0 (lines_of text))
unbegun-none text place other = sym (unbegun-at text place (place == 0) refl other)

-- nor does one behind the file
pub beyond-none :
    (text : List ℕ) (place : ℕ)
    → length text ≤ place
    → None ≡ cell_at place (cells_from 0 (lines_of text))
beyond-none text place behind =
    let are = lines_of-are text in
    let cells = cells_from 0 (lines_of text) in
    sym (none-elsewhere place cells
    (behind-elsewhere place (0 + length (file_bytes (lines_of text))) cells
    (omega (arith, ap length are.joined)) (lines-below 0 (lines_of text) are.ended)))
