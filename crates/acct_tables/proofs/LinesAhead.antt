-- Claim: the first line of a file's bytes is what stands in front of the first newline
-- (`line-cut`), or all where there is none (`last-cut`), and holds none (`first-lacks`); a line that
-- is appended to the bytes is the last of their lines (`appended`); and what is made of lines one
-- after another is made of all (`walked`, `walked-all`).
use Rattle.std.proofs.Common.{◌≡◌, ◌∙◌, ℕ, suc, ◌-◌, ◌<◌, Bool, true, false, List, [], ◌∷◌, ◌++◌, length, map, refl, sym, ap, subst, arith, lt_irrefl, append_assoc, append-nil}
use Rattle.std.specs.Prelude.{◌==◌, flat_map, slice_get}
use Rattle.std.specs.List.{AllByRecursion}
use Rattle.std.proofs.lemmas.Bool.{ne_eqb}
use Rattle.std.proofs.lemmas.Grind.{flat_map-append}
use Rattle.acct_text.specs.Bytes.{newline}
use Rattle.acct_text.specs.Pieces.{Lacks, cut_at}
use Rattle.acct_text.specs.Lines.{AreEnded, Line, file_bytes, line_bytes, lines_of, lines_of_pieces}
use Rattle.acct_text.proofs.Cut.{cut_at-is}
use Rattle.acct_text.proofs.LinesLaws.{lines_of-are}
use Rattle.account_model.specs.Edits.{as_ended, with_line}
use Rattle.acct_tables.specs.SeenLines.{end_for, missing_end}

-- ---- The first line

-- a piece in front of pieces is an ended line
pieces-cons :
    (text : List ℕ) (pieces : List (List ℕ))
    → 0 < length pieces
    → lines_of_pieces (text ∷ pieces)
    ≡ record { text = text; ended = true } ∷ lines_of_pieces pieces
pieces-cons text [] some = absurd (lt_irrefl 0 some)
pieces-cons text (piece ∷ pieces) some = refl

-- the first line ends at the first newline
pub line-cut :
    (text before behind : List ℕ)
    → cut_at newline text ≡ before ∷ cut_at newline behind
    → lines_of text ≡ record { text = before; ended = true } ∷ lines_of behind
line-cut text before behind is =
    ap lines_of_pieces is
    ∙ pieces-cons before (cut_at newline behind) (cut_at-is newline behind).some

-- one piece with a byte is a line without an end
last-piece :
    (text : List ℕ)
    → (length text == 0) ≡ false
    → lines_of_pieces (text ∷ []) ≡ record { text = text; ended = false } ∷ []
last-piece [] some = absurd cc
last-piece (byte ∷ text) some = refl

-- a text without a newline is a line without an end
pub last-cut :
    (text : List ℕ)
    → cut_at newline text ≡ text ∷ []
    → (length text == 0) ≡ false
    → lines_of text ≡ record { text = text; ended = false } ∷ []
last-cut text is some = ap lines_of_pieces is ∙ last-piece text some

-- no bytes have no lines
pub no-lines : (text : List ℕ) → (length text == 0) ≡ true → lines_of text ≡ []
no-lines [] none = refl
no-lines (byte ∷ text) none =
    let some : (length (byte ∷ text) == 0) ≡ false =
    ne_eqb (length (byte ∷ text)) 0 (λ same. omega (arith, same)) in
    absurd cc

-- the first line holds no newline
pub first-lacks :
    (text : List ℕ) (line : Line) (rest : List Line)
    → lines_of text ≡ line ∷ rest
    → Lacks newline line.text
first-lacks text line rest is =
    (subst (AllByRecursion (λ (l : Line). Lacks newline l.text)) is (lines_of-are text).apart).0

-- ---- A line behind the last

-- what is missing is told by the last byte
pub last-tells :
    (text : List ℕ) → end_for (slice_get text (length text - 1)) ≡ missing_end text
last-tells [] = refl
last-tells (last ∷ []) = refl
last-tells (byte ∷ next ∷ rest) =
    let more : length (byte ∷ next ∷ rest) - 1 ≡ suc (length rest) = omega arith in
    let here : length rest ≡ length (next ∷ rest) - 1 = omega arith in
    ap (λ n. end_for (slice_get (byte ∷ next ∷ rest) n)) more
    ∙ ap (λ n. end_for (slice_get (next ∷ rest) n)) here
    ∙ last-tells (next ∷ rest)

-- behind a newline the end of the rest tells
pub ends-newline :
    (text rest : List ℕ) → missing_end ((text ++ newline ∷ []) ++ rest) ≡ missing_end rest
ends-newline [] [] = refl
ends-newline [] (byte ∷ rest) = refl
ends-newline (byte ∷ []) rest = ends-newline [] rest
ends-newline (byte ∷ next ∷ text) rest = ends-newline (next ∷ text) rest

-- a text of bytes without a newline misses it
pub open-end :
    (text : List ℕ) → Lacks newline text → 0 < length text → missing_end text ≡ newline ∷ []
open-end [] lacks some = absurd (lt_irrefl 0 some)
open-end (last ∷ []) lacks some = rw (ne_eqb last newline lacks.0) refl
open-end (byte ∷ next ∷ rest) lacks some = open-end (next ∷ rest) lacks.1 (omega arith)

-- the last line, with its end
closed-last :
    (text : List ℕ) (ended : Bool)
    → Lacks newline text
    → (ended ≡ false → 0 < length text)
    → file_bytes (record { text = text; ended = true } ∷ [])
    ≡ file_bytes (record { text = text; ended = ended } ∷ [])
    ++ missing_end (file_bytes (record { text = text; ended = ended } ∷ []))
closed-last text true lacks some =
    let bytes = (text ++ newline ∷ []) ++ [] in
    sym (append-nil bytes) ∙ ap (λ end. bytes ++ end) (sym (ends-newline text []))
closed-last text false lacks some =
    let same : (text ++ []) ++ [] ≡ text = append-nil (text ++ []) ∙ append-nil text in
    append-nil (text ++ newline ∷ [])
    ∙ ap (λ end. text ++ end) (sym (open-end text lacks (some refl)))
    ∙ sym (ap (λ bytes. bytes ++ missing_end bytes) same)

-- an ended line in front of lines that got their end
closed-step :
    (text whole made : List ℕ) (ended : Bool)
    → ended ≡ true
    → made ≡ whole ++ missing_end whole
    → (text ++ newline ∷ []) ++ made
    ≡ (line_bytes (record { text = text; ended = ended }) ++ whole)
    ++ missing_end (line_bytes (record { text = text; ended = ended }) ++ whole)
closed-step text whole made true is later =
    let line = text ++ newline ∷ [] in
    ap (λ back. line ++ back) later
    ∙ sym (append_assoc line whole (missing_end whole))
    ∙ ap (λ end. (line ++ whole) ++ end) (sym (ends-newline text whole))
closed-step text whole made false is later = absurd cc

-- lines of which each gets an end
closed-lines :
    (lines : List Line)
    → AllByRecursion (λ line. Lacks newline line.text) lines
    → AreEnded lines
    → file_bytes (map as_ended lines) ≡ file_bytes lines ++ missing_end (file_bytes lines)
closed-lines [] apart ended = refl
closed-lines (line ∷ []) apart ended = closed-last line.text line.ended apart.0 ended
closed-lines (line ∷ next ∷ rest) apart ended =
    closed-step line.text (file_bytes (next ∷ rest)) (file_bytes (map as_ended (next ∷ rest)))
    line.ended ended.0 (closed-lines (next ∷ rest) apart.1 ended.1)

-- a line that is appended to the bytes of a file is the last of its lines
pub appended :
    (text line more : List ℕ)
    → more ≡ (missing_end text ++ line) ++ newline ∷ []
    → text ++ more ≡ file_bytes (with_line line (lines_of text))
appended text line more is =
    let lines = lines_of text in
    let are = lines_of-are text in
    let last : Line = record { text = line; ended = true } in
    let end = missing_end text in
    let closed : file_bytes (map as_ended lines) ≡ text ++ end =
    closed-lines lines are.apart are.ended
    ∙ ap (λ bytes. bytes ++ missing_end bytes) are.joined in
    ap (λ bytes. text ++ bytes) (is ∙ append_assoc end line (newline ∷ []))
    ∙ sym (append_assoc text end (line ++ newline ∷ []))
    ∙ ap (λ bytes. (text ++ end) ++ bytes) (sym (append-nil (line ++ newline ∷ [])))
    ∙ ap (λ bytes. bytes ++ file_bytes (last ∷ [])) (sym closed)
    ∙ sym (flat_map-append line_bytes (map as_ended lines) (last ∷ []))

-- ---- One line after another

module _ (becomes : Line → List Line) where
  -- what was made of the lines so far, with what becomes of the next
  pub walked :
      (line : Line) (left rest : List Line) (made new total : List ℕ)
      → left ≡ line ∷ rest
      → new ≡ made ++ file_bytes (becomes line)
      → made ++ file_bytes (flat_map becomes left) ≡ total
      → new ++ file_bytes (flat_map becomes rest) ≡ total
  walked line left rest made new total is pushed so_far =
      ap (λ front. front ++ file_bytes (flat_map becomes rest)) pushed
      ∙ append_assoc made (file_bytes (becomes line)) (file_bytes (flat_map becomes rest))
      ∙ ap (λ bytes. made ++ bytes)
      (sym (flat_map-append line_bytes (becomes line) (flat_map becomes rest))
      ∙ ap (λ lines. file_bytes (flat_map becomes lines)) (sym is))
      ∙ so_far

  -- behind the last line it is made of all
  pub walked-all :
      (left : List Line) (made total : List ℕ)
      → left ≡ []
      → made ++ file_bytes (flat_map becomes left) ≡ total
      → made ≡ total
  walked-all left made total none so_far =
      sym (append-nil made)
      ∙ ap (λ lines. made ++ file_bytes (flat_map becomes lines)) (sym none)
      ∙ so_far
