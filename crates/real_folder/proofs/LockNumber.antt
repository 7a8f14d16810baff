-- Claim: digits are read as the number of a lock exactly where they print it (`read-printed`).
-- Way: what prints such a number has a first digit, which isn't 0 (`not-empty`, `not-zero`), and is
-- read as it; and digits without a leading zero are what prints their number (`number-printed`).
use Rattle.std.proofs.Common.{◌≡◌, ◌≢◌, ℕ, ◌<◌, ◌≤◌, ◌^◌, List, length, get_or, refl, zero, suc, sym, ◌∙◌, ap, subst, arith, lt_irrefl}
use Rattle.std.specs.Prelude.{Option, Some, None, IfSome, decimal}
use Rattle.std.specs.Fmt.{digits}
use Rattle.std.specs.Option.{ok_or}
use Rattle.std.specs.Result.{result_ok}
use Rattle.std.specs.Str.Parse.{AllDigits, digits_value}
use Rattle.std.proofs.lemmas.Fmt.{decimal-digits_value, decimal_is_IsNumeral, decimal_nonempty, first_decimal}
use Rattle.std.proofs.lemmas.Str.Parse.{IsNumeralModel, numerals_by_value, tells_digits}
use Rattle.acct_text.specs.declared.numbers.NumberFault.{NumberFault}
use Rattle.acct_text.specs.Numbers.{IsNumber, OneNumber, number_within, number_fault, number_of}
use Rattle.acct_outside.specs.Contract.{IsLockNumber}
use Rattle.acct_outside.specs.Names.{greatest_lock}
use Rattle.real_folder.specs.Paths.{FindsLock}

-- the text prints no number of a lock
abbrev pub PrintsNone : List ℕ → Type 0
PrintsNone text = (number : ℕ) → IsLockNumber number → text ≡ decimal number → ⊥

-- a text without a digit prints none
pub not-empty : (text : List ℕ) → length text ≤ 0 → PrintsNone text
not-empty text empty number is printed =
    let long = decimal_nonempty number (omega (arith, is.high)) in
    lt_irrefl 0 (omega (arith, empty, ap length printed, long))

-- a text with a leading zero prints none
pub not-zero : (text : List ℕ) → 48 ≡ get_or text 0 0 → PrintsNone text
not-zero text starts number is printed =
    let first = first_decimal number (omega (arith, is.low)) (omega (arith, is.high)) in
    lt_irrefl 48 (omega (arith, starts, ap (λ other. get_or other 0 0) printed, first))

-- where none is found, none is printed
pub none-printed :
    (text : List ℕ) (found : Option ℕ)
    → found ≡ None
    → PrintsNone text
    → FindsLock decimal text found
none-printed text found none prints_none number is =
    ((λ some. absurd (cc (none, some))), (λ printed. absurd (prints_none number is printed)))

-- the digits of std are these
own : IsNumeralModel (AllDigits 10) (digits_value 10)
own = numerals_by_value (AllDigits 10) tells_digits

-- digits without a leading zero are what prints their number
number-printed :
    (text : List ℕ) (number : ℕ)
    → IsNumber greatest_lock text number
    → get_or text 0 0 ≢ 48
    → text ≡ decimal number
number-printed text number is no_zero =
    let small : digits_value 10 text < 2 ^ 64 = omega (arith, is.value, is.bounded) in
    let alone : get_or text 0 0 ≡ 48 → length text ≡ 1 = λ starts. absurd (no_zero starts) in
    sym (decimal-digits_value own text is.digits.1 is.digits.0 alone small) ∙ ap decimal is.value

-- what prints the number of a lock is read as it
printed-number :
    (number : ℕ)
    → IsLockNumber number
    → IsNumber greatest_lock (decimal number) number
printed-number number is =
    let numeral = decimal_is_IsNumeral number (omega (arith, is.high)) in
    record { digits = numeral.0; value = numeral.1; bounded = is.high }

-- 0 is printed with a leading zero
zero-printed : get_or (decimal 0) 0 0 ≡ 48
unfolding digits
zero-printed = refl

-- a reading without its fault
ok-ok_or : (read : Option ℕ) (fault : NumberFault) → result_ok (ok_or read fault) ≡ read
ok-ok_or None fault = refl
ok-ok_or (Some number) fault = refl

-- what the reading finds
found-within :
    (text : List ℕ) (found : Option ℕ)
    → found ≡ result_ok (number_of greatest_lock text)
    → found ≡ number_within greatest_lock text
found-within text found is = is ∙ ok-ok_or (number_within greatest_lock text) (number_fault text)

-- digits without a leading zero are read as a number exactly where they print it
pub read-printed :
    OneNumber
    → (text : List ℕ) (found : Option ℕ)
    → found ≡ result_ok (number_of greatest_lock text)
    → get_or text 0 0 ≢ 48
    → FindsLock decimal text found
read-printed one text found is no_zero number is_lock =
    let within = found-within text found is in
    let law = one greatest_lock text number in
    let reads : text ≡ decimal number → IsNumber greatest_lock text number = λ printed.
    subst (λ other. IsNumber greatest_lock other number) (sym printed)
    (printed-number number is_lock) in (
      (λ some. number-printed text number (law.1 (sym within ∙ some)) no_zero),
      (λ printed. within ∙ law.0 (reads printed)),
    )

-- a number that isn't 0 is one of a lock
at-least-one :
    (text : List ℕ) (number : ℕ)
    → IsNumber greatest_lock text number
    → get_or text 0 0 ≢ 48
    → 1 ≤ number
at-least-one text zero is no_zero =
    let printed = number-printed text 0 is no_zero in
    absurd (no_zero (ap (λ other. get_or other 0 0) printed ∙ zero-printed))
at-least-one text (suc number) is no_zero = omega arith

-- digits without a leading zero are read as the number of a lock
pub read-bounds :
    OneNumber
    → (text : List ℕ) (found : Option ℕ)
    → found ≡ result_ok (number_of greatest_lock text)
    → get_or text 0 0 ≢ 48
    → IfSome found IsLockNumber
read-bounds one text None is no_zero = tt
read-bounds one text (Some number) is no_zero =
    let number_is = (one greatest_lock text number).1 (sym (found-within text (Some number) is)) in
    record { low = at-least-one text number number_is no_zero; high = number_is.bounded }
