-- Claim: what `cut_at` finds are the pieces of a text between its separators (`cut_at-is`), and
-- there are no others (`cut_at-only`). Way: the found pieces joined give the text, and no byte that
-- a piece takes is a separator (`cut-apart`). The other way, pieces that lack the separator are
-- found again in the text that joins them (`cut-joined`), one by one from the front.
use Rattle.std.proofs.Common.{◌≡◌, ◌≢◌, ℕ, ◌<◌, List, [], ◌∷◌, ◌++◌, length, refl, ◌∙◌, ap, arith, eqb, lt_irrefl, subst, inl, inr}
use Rattle.std.specs.List.{join_with_byte, onto_first, AllByRecursion}
use Rattle.std.proofs.lemmas.Bool.{eq-eqb, ne_eqb}
use Rattle.std.proofs.lemmas.Bool.Decides.{eqb_tells}
use Rattle.std.proofs.lemmas.List.Splits.{join_with_byte-slice_split, slice_split-cons_yes, slice_split-cons_no, length-slice_split}
use Rattle.acct_text.specs.Pieces.{Lacks, cut_at, AreCutAt}

module _ (separator : ℕ) where
  -- a byte other than the separator, put in front of pieces that lack it
  onto_first-apart :
      (byte : ℕ)
      → byte ≢ separator
      → (pieces : List (List ℕ))
      → AllByRecursion (Lacks separator) pieces
      → AllByRecursion (Lacks separator) (onto_first byte pieces)
  onto_first-apart byte other [] apart = ((other, tt), tt)
  onto_first-apart byte other (piece ∷ rest) apart = ((other, apart.0), apart.1)

  -- no found piece has a separator
  cut-apart : (text : List ℕ) → AllByRecursion (Lacks separator) (cut_at separator text)
  cut-apart [] = (tt, tt)
  cut-apart (byte ∷ text) = elim (eqb_tells byte separator) [
    | inl at ↦
        rw (slice_split-cons_yes (λ b. eqb b separator) byte text at.0) (tt, cut-apart text)
    | inr past ↦
        rw (slice_split-cons_no (λ b. eqb b separator) byte text past.0)
        (onto_first-apart byte past.1 (cut_at separator text) (cut-apart text))
  ]

  -- the found pieces are the pieces of the text
  pub cut_at-is : (text : List ℕ) → AreCutAt separator text (cut_at separator text)
  cut_at-is text = record {
    joined = join_with_byte-slice_split separator text;
    apart = cut-apart text;
    some = rw (length-slice_split (λ b. eqb b separator) text) (omega arith);
  }

  -- a piece ends at the separator behind it
  pub cut-piece :
      (piece rest : List ℕ)
      → Lacks separator piece
      → cut_at separator (piece ++ separator ∷ rest) ≡ piece ∷ cut_at separator rest
  cut-piece [] rest lacks =
      slice_split-cons_yes (λ b. eqb b separator) separator rest (eq-eqb separator separator refl)
  cut-piece (byte ∷ piece) rest lacks =
      let other = ne_eqb byte separator lacks.0 in
      slice_split-cons_no (λ b. eqb b separator) byte (piece ++ separator ∷ rest) other
      ∙ ap (onto_first byte) (cut-piece piece rest lacks.1)

  -- a text without a separator is one piece
  pub cut-one :
      (piece : List ℕ)
      → Lacks separator piece
      → cut_at separator piece ≡ piece ∷ []
  cut-one [] lacks = refl
  cut-one (byte ∷ piece) lacks =
      slice_split-cons_no (λ b. eqb b separator) byte piece (ne_eqb byte separator lacks.0)
      ∙ ap (onto_first byte) (cut-one piece lacks.1)

  -- pieces without a separator are found in the text that joins them
  cut-joined :
      (pieces : List (List ℕ))
      → AllByRecursion (Lacks separator) pieces
      → 0 < length pieces
      → cut_at separator (join_with_byte separator pieces) ≡ pieces
  cut-joined [] apart some = absurd (lt_irrefl 0 some)
  cut-joined (piece ∷ []) apart some = cut-one piece apart.0
  cut-joined (piece ∷ next ∷ rest) apart some =
      cut-piece piece (join_with_byte separator (next ∷ rest)) apart.0
      ∙ ap (λ pieces. piece ∷ pieces) (cut-joined (next ∷ rest) apart.1 (omega arith))

  -- the pieces of a text are the found ones
  pub cut_at-only :
      (text : List ℕ) (pieces : List (List ℕ))
      → AreCutAt separator text pieces
      → cut_at separator text ≡ pieces
  cut_at-only text pieces cut =
      subst (λ t. cut_at separator t ≡ pieces) cut.joined (cut-joined pieces cut.apart cut.some)
