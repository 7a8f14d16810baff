-- Claim: the places between the separators that memchr finds are the places of the pieces
-- (`places_to-separators`). Way: from a place of the text on, the separators to come are the ends
-- of the pieces of what is left (`places_to-rest`), byte by byte from the end of the text. The
-- first of these pieces may have begun before that place, hence `places_begun`.
use Rattle.std.proofs.Common.{◌≡◌, ℕ, zero, suc, ◌+◌, ◌-◌, ◌<◌, Bool, List, [], ◌∷◌, length, drop, slice_index, refl, sym, ◌∙◌, ap, arith, inl, inr}
use Rattle.std.proofs.lemmas.Bool.{cases_Bool}
use Rattle.std.proofs.lemmas.List.{drop_more, drop_all}
use Rattle.std.specs.List.{slice_split, onto_first}
use Rattle.std.proofs.lemmas.List.Splits.{length-slice_split}
use Rattle.memchr.specs.Find.{Passes, is_byte, places_from as separators_from, places as separators_of}
use Rattle.acct_text.specs.Bytes.{places_from}

-- the separator stands at this place of the text
abbrev pub IsSeparatorAt : ℕ → List ℕ → ℕ → Type 0
IsSeparatorAt separator text at = (at < length text) × Passes (is_byte separator) text at

-- the places from a start on, each up to one of these separators, and the last up to the end
abbrev pub places_to : ℕ → List ℕ → ℕ → List (ℕ × ℕ)
places_to start [] end = (start, end) ∷ []
places_to start (at ∷ separators) end = (start, at) ∷ places_to (at + 1) separators end

-- the places of pieces from a place on, where the first piece began at an earlier start
abbrev places_begun : ℕ → ℕ → List (List ℕ) → List (ℕ × ℕ)
places_begun start at [] = []
places_begun start at (piece ∷ pieces) =
    (start, at + length piece) ∷ places_from (at + length piece + 1) pieces

-- a first piece that begins here begins nowhere earlier
places_begun-here :
    (at : ℕ) (pieces : List (List ℕ))
    → places_begun at at pieces ≡ places_from at pieces
places_begun-here at [] = refl
places_begun-here at (piece ∷ pieces) = refl

-- a byte more of the first piece moves all that follows by one
places_begun-onto_first :
    (start at byte : ℕ) (pieces : List (List ℕ))
    → 0 < length pieces
    → places_begun start at (onto_first byte pieces) ≡ places_begun start (at + 1) pieces
places_begun-onto_first start at byte [] some = absurd (omega arith)
places_begun-onto_first start at byte (piece ∷ pieces) some =
    let same : at + suc (length piece) ≡ at + 1 + length piece = omega arith in
    ap (λ end. (start, end) ∷ places_from (end + 1) pieces) same

module _ (test : ℕ → Bool) (text : List ℕ) where
  -- the separators from a place on end the pieces of what is left
  places_to-rest :
      (left at start : ℕ)
      → at + left ≡ length text
      → places_to start (separators_from test text at left) (length text)
      ≡ places_begun start at (slice_split test (drop at text))
  unfolding separators_from
  places_to-rest zero at start all =
      rw (drop_all at text (omega arith)) (ap (λ end. (start, end) ∷ []) (sym all))
  places_to-rest (suc left) at start all =
      let byte = slice_index text at in
      let later = slice_split test (drop (at + 1) text) in
      let more : drop at text ≡ byte ∷ drop (at + 1) text = drop_more text at 0 (omega arith) in
      let count = length-slice_split test (drop (at + 1) text) in
      let some : 0 < length later = rw count (omega arith) in
      elim (cases_Bool (test byte)) [
        | inl hit ↦
            let here : at ≡ at + 0 = omega arith in
            rw (more, hit)
            (ap (λ places. (start, at) ∷ places)
            (places_to-rest left (at + 1) (at + 1) (omega arith) ∙ places_begun-here (at + 1) later)
            ∙ ap (λ end. (start, end) ∷ places_from (end + 1) later) here)
        | inr miss ↦
            rw (more, miss)
            (places_to-rest left (at + 1) start (omega arith)
            ∙ sym (places_begun-onto_first start at byte later some))
      ]

  -- all separators end all pieces
  pub places_to-separators :
      places_to 0 (separators_of test text) (length text) ≡ places_from 0 (slice_split test text)
  places_to-separators =
      places_to-rest (length text - 0) 0 0 (omega arith)
      ∙ places_begun-here 0 (slice_split test text)
