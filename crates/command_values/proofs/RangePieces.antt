-- Claim: a value names the IDs that its texts before and behind its first hyphen are (`range-cut`),
-- and none where it has no hyphen (`range-whole`). Way: digits have no hyphen, so a text behind the
-- first one that has another is no ID.
use Rattle.std.proofs.Common.{◌≡◌, ◌≤◌, ℕ, List, [], ◌∷◌, length, refl, sym, ◌∙◌, ap, arith, inl, inr}
use Rattle.std.specs.Prelude.{Option, Some, None, IfSome}
use Rattle.std.specs.List.{join_with_byte}
use Rattle.std.proofs.lemmas.Bool.{cases_Bool}
use Rattle.acct_text.specs.Numbers.{is_digits}
use Rattle.acct_text.specs.Pieces.{cut_at}
use Rattle.acct_text.proofs.Cut.{cut_at-is}
use Rattle.acct_text.proofs.NumberLaws.{number-is}
use Rattle.account_model.specs.Records.{greatest_id, read_id}
use Rattle.account_model.specs.Text.{hyphen}
use Rattle.account_model.specs.UsermodRanges.{range_of_ids, range_of_pieces, range_value}
use Rattle.acct_dates.proofs.DatePieces.{cut-digits}

-- two IDs of which the second is missing are no range
none-last : (first : Option ℕ) → range_of_ids first None ≡ None
none-last None = refl
none-last (Some first) = refl

-- a text in two pieces or more is no ID
id-uncut :
    (text first second : List ℕ) (rest : List (List ℕ))
    → cut_at hyphen text ≡ first ∷ second ∷ rest
    → read_id text ≡ None
id-uncut text first second rest cut = elim (cases_Bool (is_digits text)) [
  | inl digits ↦ absurd (cc (cut-digits text digits, cut))
  | inr other ↦ rw other refl
]

-- the range of a text before the first hyphen and the pieces of the text behind it
range-by :
    (first last : List ℕ) (pieces : List (List ℕ))
    → cut_at hyphen last ≡ pieces
    → range_of_ids (read_id first) (read_id last) ≡ range_of_pieces (first ∷ pieces)
range-by first last [] cut =
    let some = (cut_at-is hyphen last).some in absurd (omega (arith, some, ap length cut))
range-by first last (piece ∷ []) cut =
    let same : last ≡ piece = sym (cut_at-is hyphen last).joined ∙ ap (join_with_byte hyphen) cut in
    ap (λ text. range_of_ids (read_id first) (read_id text)) same
range-by first last (piece ∷ more ∷ rest) cut =
    ap (range_of_ids (read_id first)) (id-uncut last piece more rest cut)
    ∙ none-last (read_id first)

-- a value with a hyphen names the IDs before it and behind it
pub range-cut :
    (text first last : List ℕ)
    → cut_at hyphen text ≡ first ∷ cut_at hyphen last
    → range_of_ids (read_id first) (read_id last) ≡ range_value text
range-cut text first last cut =
    range-by first last (cut_at hyphen last) refl ∙ ap range_of_pieces (sym cut)

-- a value without a hyphen names none
pub range-whole : (text : List ℕ) → cut_at hyphen text ≡ text ∷ [] → None ≡ range_value text
range-whole text cut = ap range_of_pieces (sym cut)

-- an ID is at most the greatest
id-by : (text : List ℕ) (id : Option ℕ) → read_id text ≡ id → IfSome id (λ n. n ≤ greatest_id)
id-by text None is = tt
id-by text (Some id) is = (number-is greatest_id text id is).bounded

-- the ID that a text writes is at most the greatest
pub id-small :
    (text : List ℕ) (id : Option ℕ) → id ≡ read_id text → IfSome id (λ n. n ≤ greatest_id)
id-small text id is = id-by text id (sym is)
