-- Claim: a text whose bytes are all digits of the radix has the number that they write
-- (`number-digits`); one that writes too much has none within the bound (`number-past`).
use Rattle.std.proofs.Common.{◌≡◌, ℕ, suc, ◌+◌, ◌*◌, ◌<◌, ◌≤◌, Bool, true, false, ◌&&◌, not, List, [], ◌∷◌, length, get_or, take, refl, sym, subst, arith, inl, inr, Some, None}
use Rattle.std.specs.Prelude.{if◌then◌else◌}
use Rattle.std.specs.List.{list_all}
use Rattle.std.specs.Char.{is_digit, digit_value}
use Rattle.std.specs.Str.Parse.{digits_value}
use Rattle.std.proofs.lemmas.Bool.{lt-ltb, le-leb, lt-leb}
use Rattle.std.proofs.lemmas.Bool.Decides.{eqb_tells}
use Rattle.std.proofs.lemmas.Int.Digits.{digits_value_more}
use Rattle.acct_text.specs.Bytes.{is_empty}
use Rattle.acct_text.proofs.NumberLaws.{empty-no}
use Rattle.account_model.specs.Settings.{radix_number, within}

-- all bytes are digits where each is
all-digits :
    (radix : ℕ) (text : List ℕ)
    → ((place : ℕ) → place < length text → digit_value (get_or text place 0) < radix)
    → list_all (λ byte. is_digit byte radix) text ≡ true
all-digits radix [] each = refl
all-digits radix (byte ∷ text) each =
    rw (lt-ltb (digit_value byte) radix (each 0 (omega arith)))
    (all-digits radix text (λ place low. each (suc place) (omega arith)))

-- the number of digits within the bound
pub number-digits :
    (greatest radix : ℕ) (text : List ℕ)
    → 0 < length text
    → ((place : ℕ) → place < length text → digit_value (get_or text place 0) < radix)
    → digits_value radix text ≤ greatest
    → within greatest (radix_number radix text) ≡ Some (digits_value radix text)
number-digits greatest radix text some each small =
    rw (empty-no text some, all-digits radix text each, le-leb _ _ small) refl

-- no number within the bound where the digits write more, or there is another byte
number-tested :
    (greatest value : ℕ) (tested : Bool)
    → greatest < value
    → within greatest (if tested then Some value else None) ≡ None
number-tested greatest value true past = rw (lt-leb value greatest past) refl
number-tested greatest value false past = refl

-- no number where the first digits write too much
pub number-past :
    (greatest radix : ℕ) (text : List ℕ)
    → greatest < digits_value radix text
    → within greatest (radix_number radix text) ≡ None
number-past greatest radix text past = number-tested greatest (digits_value radix text)
    (not (is_empty text) && list_all (λ byte. is_digit byte radix) text) past

-- one digit more
pub next-value :
    (radix value factor digit byte : ℕ) (text : List ℕ) (place : ℕ)
    → place < length text
    → value ≡ digits_value radix (take place text)
    → factor ≡ radix
    → digit ≡ digit_value byte
    → byte ≡ get_or text place 0
    → value * factor + digit ≡ digits_value radix (take (place + 1) text)
next-value radix value factor digit byte text place low before is_radix is_digit is_byte =
    rw (before, is_radix, is_digit, is_byte) (sym (digits_value_more radix text place low))

-- one byte more that is a digit
pub digits-more :
    (radix : ℕ) (text : List ℕ) (place : ℕ)
    → ((k : ℕ) → k < place → digit_value (get_or text k 0) < radix)
    → digit_value (get_or text place 0) < radix
    → (k : ℕ) → k < place + 1 → digit_value (get_or text k 0) < radix
digits-more radix text place before here k low = elim (eqb_tells k place) [
  | inl same ↦ subst (λ j. digit_value (get_or text j 0) < radix) (sym same.1) here
  | inr other ↦ let apart = other.1 in before k (omega arith)
]
