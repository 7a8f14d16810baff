-- Claim: the places of the lines of a file are those of its pieces, but for an empty last one
-- (`lines-kept` where it is there, `lines-all` where it isn't). Way: what a file drops from its
-- pieces, `without_empty` drops from their places (`without_empty-pieces`), and it looks at the
-- last place alone (`without_empty-last`).
use Rattle.std.proofs.Common.{◌≡◌, ◌≢◌, ℕ, ◌+◌, ◌-◌, ◌<◌, ◌≤◌, ◌==◌, List, [], ◌∷◌, ◌++◌, length, take, get_or, suc, refl, sym, ◌∙◌, ap, arith}
use Rattle.std.specs.Prelude.{if◌then◌else◌}
use Rattle.std.proofs.lemmas.Bool.{eq-eqb, ne_eqb}
use Rattle.std.proofs.lemmas.List.{take_more, take_all, append-nil}
use Rattle.acct_text.specs.Bytes.{places_from}
use Rattle.acct_text.specs.Lines.{lines_of_pieces, texts_of}

-- these places, without a last one that is empty
abbrev without_empty : List (ℕ × ℕ) → List (ℕ × ℕ)
without_empty [] = []
without_empty (last ∷ []) = if last.0 == last.1 then [] else last ∷ []
without_empty (place ∷ next ∷ places) = place ∷ without_empty (next ∷ places)

-- the places of lines are those of pieces without an empty last one
without_empty-pieces :
    (start : ℕ) (pieces : List (List ℕ))
    → without_empty (places_from start pieces)
    ≡ places_from start (texts_of (lines_of_pieces pieces))
without_empty-pieces start [] = refl
without_empty-pieces start ([] ∷ []) = rw (eq-eqb start (start + 0) (omega arith)) refl
without_empty-pieces start ((byte ∷ last) ∷ []) =
    rw (ne_eqb start (start + suc (length last)) (λ same. omega arith)) refl
without_empty-pieces start (piece ∷ next ∷ pieces) =
    ap (λ places. (start, start + length piece) ∷ places)
    (without_empty-pieces (start + length piece + 1) (next ∷ pieces))

-- whether a place is left out hangs on the last alone
without_empty-last :
    (places : List (ℕ × ℕ)) (last : ℕ × ℕ)
    → without_empty (places ++ last ∷ []) ≡ places ++ (if last.0 == last.1 then [] else last ∷ [])
without_empty-last [] last = refl
without_empty-last (place ∷ []) last = refl
without_empty-last (place ∷ next ∷ places) last =
    ap (λ rest. place ∷ rest) (without_empty-last (next ∷ places) last)

-- without any place there is no line
pub lines-none :
    (pieces : List (List ℕ)) (places : List (ℕ × ℕ))
    → places ≡ places_from 0 pieces
    → length places ≤ 0
    → places ≡ places_from 0 (texts_of (lines_of_pieces pieces))
lines-none pieces [] are none = ap without_empty are ∙ without_empty-pieces 0 pieces
lines-none pieces (place ∷ places) are none = absurd (omega arith)

module _
    (pieces : List (List ℕ))
    (places : List (ℕ × ℕ))
    (last : ℕ × ℕ)
    (are : places ≡ places_from 0 pieces)
    (some : 0 < length places)
    (ends : last ≡ get_or places (length places - 1) last) where
  -- the places are those before the last, and the last
  before-last : places ≡ take (length places - 1) places ++ last ∷ []
  before-last =
      sym (take_all (length places - 1 + 1) places (omega arith))
      ∙ take_more places (length places - 1) last (omega arith)
      ∙ ap (λ place. take (length places - 1) places ++ place ∷ []) (sym ends)

  -- the places of the lines, by the last place
  lines-by-last :
      take (length places - 1) places ++ (if last.0 == last.1 then [] else last ∷ [])
      ≡ places_from 0 (texts_of (lines_of_pieces pieces))
  lines-by-last =
      sym (without_empty-last (take (length places - 1) places) last)
      ∙ ap without_empty (sym before-last ∙ are)
      ∙ without_empty-pieces 0 pieces

  -- an empty last place goes
  pub lines-kept :
      last.0 ≡ last.1
      → take (length places - 1) places ≡ places_from 0 (texts_of (lines_of_pieces pieces))
  lines-kept empty =
      sym (append-nil (take (length places - 1) places))
      ∙ rw (eq-eqb last.0 last.1 empty) at lines-by-last

  -- with another last place all stay
  pub lines-all :
      last.0 ≢ last.1
      → places ≡ places_from 0 (texts_of (lines_of_pieces pieces))
  lines-all full = before-last ∙ rw (ne_eqb last.0 last.1 full) at lines-by-last
