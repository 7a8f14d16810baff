-- Claim: what is found and counted by a name among the records of a text is so among those behind
-- lines that are no records of the name (`behind-found`, `behind-counted`), as a text from the name
-- on is (`marked-behind`). Way: a record's line begins with its name
-- (`holds-name`), so a line without the name is no record of it (`unnamed`).
use Rattle.std.proofs.Common.{◌≡◌, ◌∙◌, ℕ, ◌+◌, ◌<◌, false, inl, inr, List, [], ◌∷◌, ◌++◌, length, refl, sym, ap, subst, lt_irrefl, append-nil, zero-add}
use Rattle.std.specs.Prelude.{Option, Some, None, if◌then◌else◌}
use Rattle.std.specs.List.{AllByRecursion, join_with_byte}
use Rattle.std.proofs.lemmas.Bool.{cases_Bool}
use Rattle.std.proofs.lemmas.Slice.Eq.{bytes_eq-Decides}
use Rattle.acct_text.specs.Bytes.{colon}
use Rattle.acct_text.specs.Lines.{Line, lines_of}
use Rattle.acct_text.specs.Pieces.{fields_of}
use Rattle.acct_text.proofs.Cut.{cut_at-is}
use Rattle.account_model.specs.Faults.{field_at}
use Rattle.account_model.specs.Format.{Format, count_named, find_named, is_named, records_of}
use Rattle.account_model.specs.Naming.{NamesFirst, first_field}
use Rattle.acct_tables.specs.Marks.{HoldsMark, IsBehindAll, IsFromMark, IsWithout}
use Rattle.acct_tables.specs.TableLines.{text_is_named}
use Rattle.acct_tables.proofs.BehindLines.{behind-weaker, mark-behind}
use Rattle.acct_tables.proofs.RecordLines.{counted-by, passed-by}

-- fields that are joined begin with the first
first-joined :
    (pieces : List (List ℕ))
    → 0 < length pieces
    → HoldsMark (field_at 1 pieces) (join_with_byte colon pieces)
first-joined [] some = absurd (lt_irrefl 0 some)
first-joined (piece ∷ []) some = record { before = []; behind = []; is = sym (append-nil piece) }
first-joined (piece ∷ next ∷ rest) some = record {
  before = [];
  behind = colon ∷ join_with_byte colon (next ∷ rest);
  is = refl;
}

-- a line begins with its first field
pub holds-first : (text : List ℕ) → HoldsMark (first_field text) text
holds-first text =
    let are = cut_at-is colon text in
    subst (HoldsMark (first_field text)) are.joined (first-joined (fields_of text) are.some)

module _ {R : Type 0} (format : Format R) (name : List ℕ) where
  -- the line is no record of the name
  abbrev pub IsOther : List ℕ → Type 0
  IsOther line = text_is_named format name line ≡ false

  -- others are found behind such lines as without them
  front-found :
      (front later : List Line)
      → AllByRecursion (λ line. IsOther line.text) front
      → find_named format name (records_of format (front ++ later))
      ≡ find_named format name (records_of format later)
  front-found [] later passed = refl
  front-found (line ∷ front) later passed =
      passed-by format name (format.read line.text) (records_of format (front ++ later)) passed.0
      ∙ front-found front later passed.1

  -- they count for nothing
  front-counted :
      (front later : List Line)
      → AllByRecursion (λ line. IsOther line.text) front
      → count_named format name (records_of format (front ++ later))
      ≡ count_named format name (records_of format later)
  front-counted [] later passed = refl
  front-counted (line ∷ front) later passed =
      let count = count_named format name (records_of format (front ++ later)) in
      counted-by format name (format.read line.text) (records_of format (front ++ later))
      ∙ ap (λ test. (if test then 1 else 0) + count) passed.0
      ∙ zero-add count
      ∙ front-counted front later passed.1

  module _ (text rest : List ℕ) (from : IsBehindAll IsOther text rest) where
    -- what is found behind such lines is what is found in all
    pub behind-found :
        find_named format name (records_of format (lines_of rest))
        ≡ find_named format name (records_of format (lines_of text))
    behind-found =
        sym (ap (λ lines. find_named format name (records_of format lines)) from.joined
        ∙ front-found from.front (lines_of rest) from.passed)

    -- and so with how many there are
    pub behind-counted :
        count_named format name (records_of format (lines_of rest))
        ≡ count_named format name (records_of format (lines_of text))
    behind-counted =
        sym (ap (λ lines. count_named format name (records_of format lines)) from.joined
        ∙ front-counted from.front (lines_of rest) from.passed)

module _ {R : Type 0} (format : Format R) (names_first : NamesFirst format) where
  -- a record's line has its name
  pub holds-name :
      (text : List ℕ) (r : R) → format.read text ≡ Some r → HoldsMark (format.name r) text
  holds-name text r is =
      subst (λ name. HoldsMark name text) (names_first text r is) (holds-first text)

  module _ (name : List ℕ) where
    -- by what a line without the name reads as
    unnamed-by :
        (text : List ℕ) (kept : Option R)
        → format.read text ≡ kept
        → IsWithout name text
        → (elim kept [ None ↦ false | Some r ↦ is_named format name r ]) ≡ false
    unnamed-by text None is without = refl
    unnamed-by text (Some r) is without = elim (cases_Bool (is_named format name r)) [
      | inl named ↦ absurd (without (subst (λ n. HoldsMark n text)
          ((bytes_eq-Decides (format.name r) name).0 named) (holds-name text r is)))
      | inr other ↦ other
    ]

    -- a line without the name is no record of it
    pub unnamed : (text : List ℕ) → IsWithout name text → text_is_named format name text ≡ false
    unnamed text without = unnamed-by text (format.read text) refl without

    -- a text from the name on is behind lines that are no records of it
    pub marked-behind :
        (text rest : List ℕ)
        → IsFromMark name text rest
        → IsBehindAll (IsOther format name) text rest
    marked-behind text rest from =
        behind-weaker (IsWithout name) (IsOther format name) unnamed text rest
        (mark-behind name text rest from)
