-- Claim: `number_within` finds the number that a text is within a bound (`number-found`), and what
-- it finds is that number (`number-is`). Way: its test of the digits says what `IsNumeral` says
-- (`is_digits-true`, `is_digits-numeral`), and its test of the bound is the bound.
--
-- Then `number_of` at a text of digits within the bound (`number_of-within`), past it
-- (`number_of-past`), and at a text with another byte (`number_of-other`).
use Rattle.std.proofs.Common.{◌≡◌, ℕ, ◌<◌, ◌≤◌, Bool, true, false, ◌&&◌, Ok, Err, inl, inr, List, [], ◌∷◌, length, refl, ◌∙◌, ap, subst, arith, lt_irrefl}
use Rattle.std.specs.Prelude.{Option, Some, None, nat_le, unwrap_or, if◌then◌else◌}
use Rattle.std.specs.List.{list_all}
use Rattle.std.specs.Option.{ok_or, option_map_or}
use Rattle.std.specs.Char.{is_digit, digit_value}
use Rattle.std.specs.Str.Parse.{IsNumeral, AllDigits, digits_value}
use Rattle.std.proofs.lemmas.Bool.{and_parts, ltb-true, lt-ltb, leb-true, le-leb, lt-leb, cases_Bool}
use Rattle.acct_text.specs.Bytes.{is_empty}
use Rattle.acct_text.specs.declared.numbers.NumberFault.TheVariants.{Empty, NotDigit, TooLarge}
use Rattle.acct_text.specs.Numbers.{IsNumber, is_digits, number_within, number_fault, first_other, number_of}
use Rattle.acct_text.proofs.Digits.{no_other}

-- equal options have equal values
pub some-inj : {X : Type 0} {x y : X} → ◌≡◌ {A = Option X} (Some x) (Some y) → x ≡ y
some-inj {X} {x} {y} same = ap (λ (option : Option X). unwrap_or option x) same

-- a list with an element isn't empty
pub empty-no : {X : Type 0} (xs : List X) → 0 < length xs → is_empty xs ≡ false
empty-no [] some = absurd (lt_irrefl 0 some)
empty-no (x ∷ xs) some = refl

-- a list that isn't empty has an element
pub empty-some : {X : Type 0} (xs : List X) → is_empty xs ≡ false → 0 < length xs
empty-some [] full = cc
empty-some (x ∷ xs) full = omega arith

-- ---- The number of a text

-- digits pass the test of each byte
list_all-digits :
    (text : List ℕ)
    → AllDigits 10 text
    → list_all (λ byte. is_digit byte 10) text ≡ true
list_all-digits [] all = refl
list_all-digits (byte ∷ text) all =
    rw (lt-ltb (digit_value byte) 10 all.0) (list_all-digits text all.1)

-- bytes that pass the test are digits
digits-are :
    (text : List ℕ)
    → list_all (λ byte. is_digit byte 10) text ≡ true
    → AllDigits 10 text
digits-are [] pass = tt
digits-are (byte ∷ text) pass =
    let parts = and_parts (is_digit byte 10) (list_all (λ b. is_digit b 10) text) pass in
    (ltb-true (digit_value byte) 10 parts.0, digits-are text parts.1)

-- a numeral passes the test of a text
pub is_digits-true : (text : List ℕ) → IsNumeral 10 text → is_digits text ≡ true
is_digits-true text numeral = rw (empty-no text numeral.0, list_all-digits text numeral.1) refl

-- a text that passes the test is a numeral
pub is_digits-numeral : (text : List ℕ) → is_digits text ≡ true → IsNumeral 10 text
is_digits-numeral [] pass = cc
is_digits-numeral (byte ∷ text) pass = (omega arith, digits-are (byte ∷ text) pass)

module _ (bound : ℕ) (text : List ℕ) where
  -- the number that a text is within the bound is found
  pub number-found :
      (n : ℕ)
      → IsNumber bound text n
      → number_within bound text ≡ Some n
  number-found n number =
      rw (is_digits-true text number.digits, number.value, le-leb n bound number.bounded) refl

  -- what both tests let through is that number
  found-by :
      (n : ℕ) (digits small : Bool)
      → is_digits text ≡ digits
      → nat_le (digits_value 10 text) bound ≡ small
      → (if digits && small then Some (digits_value 10 text) else None) ≡ Some n
      → IsNumber bound text n
  found-by n true true digits small found = record {
    digits = is_digits-numeral text digits;
    value = some-inj found;
    bounded = subst (λ m. m ≤ bound) (some-inj found) (leb-true (digits_value 10 text) bound small);
  }
  found-by n true false digits small found = cc
  found-by n false is_small digits small found = cc

  -- a number that is found is the number of the text within the bound
  pub number-is :
      (n : ℕ)
      → number_within bound text ≡ Some n
      → IsNumber bound text n
  number-is n found =
      found-by n (is_digits text) (nat_le (digits_value 10 text) bound) refl refl found

  -- ---- Why a text is no number

  -- digits within the bound are a number
  pub number_of-within :
      IsNumeral 10 text
      → digits_value 10 text ≤ bound
      → number_of bound text ≡ Ok (digits_value 10 text)
  number_of-within numeral small =
      let number : IsNumber bound text (digits_value 10 text) =
      record { digits = numeral; value = refl; bounded = small } in
      ap (λ n. ok_or n (number_fault text)) (number-found (digits_value 10 text) number)

  -- no number is found past the bound
  none-past :
      (value : ℕ)
      → is_digits text ≡ true
      → nat_le value bound ≡ false
      → (if is_digits text && nat_le value bound then Some value else None) ≡ None
  none-past value digits large = rw (digits, large) refl

  -- no number is found in a text with another byte
  none-other : is_digits text ≡ false → number_within bound text ≡ None
  none-other letters =
      let value = digits_value 10 text in
      ap (λ digits. if digits && nat_le value bound then Some value else None) letters

  -- the fault of a text that isn't empty hangs on its first other byte
  fault-by :
      (other : Option ℕ)
      → 0 < length text
      → first_other text ≡ other
      → number_fault text ≡ option_map_or NotDigit other TooLarge
  fault-by other some first =
      let fault = option_map_or NotDigit (first_other text) TooLarge in
      ap (λ empty. if empty then Empty else fault) (empty-no text some)
      ∙ ap (λ place. option_map_or NotDigit place TooLarge) first

  -- digits past the bound are too large
  pub number_of-past :
      IsNumeral 10 text
      → bound < digits_value 10 text
      → number_of bound text ≡ Err TooLarge
  number_of-past numeral large =
      let value = digits_value 10 text in
      let none = none-past value (is_digits-true text numeral) (lt-leb value bound large) in
      ap (λ n. ok_or n (number_fault text)) none
      ∙ ap Err (fault-by None numeral.0 (no_other text numeral.1))

  -- a text with another byte has its place for a fault
  pub number_of-other :
      (place : ℕ)
      → 0 < length text
      → first_other text ≡ Some place
      → number_of bound text ≡ Err (NotDigit place)
  number_of-other place some other = elim (cases_Bool (is_digits text)) [
    | inl digits ↦
        let none : first_other text ≡ None = no_other text (is_digits-numeral text digits).1 in
        absurd (cc (none, other))
    | inr letters ↦
        ap (λ n. ok_or n (number_fault text)) (none-other letters)
        ∙ ap Err (fault-by (Some place) some other)
  ]
