-- Claim: a text has one piece more than separators (`pieces-counted`), so at least one
-- (`some-piece`). Way: both numbers are counts of the separators in the text.
use Rattle.std.proofs.Common.{◌≡◌, ◌≢◌, ℕ, ◌+◌, List, [], length, ap, sym, ◌∙◌, arith}
use Rattle.std.proofs.lemmas.List.Splits.{length-slice_split}
use Rattle.memchr.specs.Find.{is_byte, places}
use Rattle.memchr.proofs.lemmas.CallerLemmas.{length-places}
use Rattle.acct_text.specs.Pieces.{cut_at}

-- so many pieces as were counted: one more than the places of the separator
pub pieces-counted :
    (separator : ℕ) (text : List ℕ) (count : ℕ) (found : List ℕ)
    → count ≡ length found
    → found ≡ places (is_byte separator) text
    → count + 1 ≡ length (cut_at separator text)
pieces-counted separator text count found counted listed =
    ap (λ n. n + 1) (counted ∙ ap length listed ∙ length-places (is_byte separator) text)
    ∙ sym (length-slice_split (is_byte separator) text)

-- at least one piece
pub some-piece : (separator : ℕ) (text : List ℕ) → cut_at separator text ≢ []
some-piece separator text none =
    let counted = length-slice_split (is_byte separator) text in
    let empty = ap length none in
    absurd (omega (arith, counted, empty))
