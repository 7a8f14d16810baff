-- Claim: a line begins with its first field (`begins-first`), so one that begins otherwise has
-- another (`other-first`). Way: the fields, with a colon between each two, give the line.
use Rattle.std.proofs.Common.{◌≡◌, ◌∙◌, ℕ, ◌<◌, false, List, [], ◌∷◌, ◌++◌, length, refl, sym, ap, lt_irrefl, append-nil}
use Rattle.std.specs.Prelude.{◌==◌, bytes_eq}
use Rattle.std.specs.List.{join_with_byte, starts_with}
use Rattle.std.proofs.lemmas.Bool.{false_from_ne_true, true≢false}
use Rattle.std.proofs.lemmas.Bool.Decides.{Decides-eqb}
use Rattle.std.proofs.lemmas.Slice.Eq.{bytes_eq-Decides, starts_is}
use Rattle.acct_text.specs.Bytes.{colon}
use Rattle.acct_text.specs.Pieces.{fields_of}
use Rattle.acct_text.proofs.Cut.{cut_at-is}
use Rattle.account_model.specs.Faults.{field_at}
use Rattle.account_model.specs.Naming.{first_field}

-- a text of fields begins with the first
joined-first :
    (fields : List (List ℕ))
    → 0 < length fields
    → (rest : List ℕ) × (join_with_byte colon fields ≡ field_at 1 fields ++ rest)
joined-first [] some = absurd (lt_irrefl 0 some)
joined-first (field ∷ []) some = ([], sym (append-nil field))
joined-first (field ∷ next ∷ fields) some = (colon ∷ join_with_byte colon (next ∷ fields), refl)

-- a line begins with its first field
pub begins-first : (line : List ℕ) → (rest : List ℕ) × (line ≡ first_field line ++ rest)
begins-first line =
    let are = cut_at-is colon line in
    let begun = joined-first (fields_of line) are.some in
    (begun.0, sym are.joined ∙ begun.1)

-- a line that doesn't begin with the text has another first field
pub other-first :
    (line text : List ℕ)
    → starts_with (λ a b. a == b) line text ≡ false
    → false ≡ bytes_eq (first_field line) text
other-first line text other =
    let begun = begins-first line in
    sym (false_from_ne_true (bytes_eq (first_field line) text) (λ same.
    let is = (bytes_eq-Decides (first_field line) text).0 same in
    let begins = starts_is Decides-eqb line text (starts_with (λ a b. a == b) line text) refl in
    true≢false (sym (begins.1
    begun.0 (begun.1 ∙ ap (λ front. front ++ begun.0) is)) ∙ other)))
