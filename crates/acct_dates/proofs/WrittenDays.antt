-- Claim: a date that `jiff` has, from 1970 on, is read as its day (`late-day`), and so many digits
-- as their number (`read-number`, `digits-below`, `unread-digits`). A text that is no number is a
-- date (`other-text`) or none (`empty-text`, `too-large`). Way: by what is found in the text.
use Rattle.std.proofs.Common.{◌≡◌, ℕ, ◌^◌, ◌<◌, ◌≤◌, Bool, true, false, List, [], ◌∷◌, length, codes, ℤ, pos, refl, sym, ◌∙◌, ap, subst, arith, inl, inr}
use Rattle.std.specs.Prelude.{Option, Some, None, Result, Ok, Err, IsErrAnd, nat_le, bytes_eq}
use Rattle.std.specs.Option.{ok_or, option_map_or}
use Rattle.std.specs.Str.Parse.{digits_value}
use Rattle.std.proofs.Math.Nat.{pow-le-pow_right}
use Rattle.std.proofs.lemmas.Bool.{cases_Bool, cases_lt, le-ltb, leb-true}
use Rattle.std.proofs.lemmas.Int.Digits.{digits_value-lt}
use Rattle.jiff.specs.Words.{IsDate, IsYmd, epoch_day}
use Rattle.jiff.specs.Types.{Date as JiffDate}
use Rattle.acct_text.specs.Pieces.{cut_at}
use Rattle.acct_text.proofs.Digits.{all_digits}
use Rattle.acct_text.specs.declared.numbers.NumberFault.TheVariants.{Empty, NotDigit, TooLarge}
use Rattle.account_model.specs.Text.{hyphen}
use Rattle.account_model.specs.Records.{greatest_days}
use Rattle.acct_text.specs.Numbers.{first_other, IsNumber, is_digits, number_of, number_within, number_fault}
use Rattle.acct_text.specs.declared.numbers.NumberFault.{NumberFault}
use Rattle.acct_text.proofs.NumberLaws.{is_digits-numeral, is_digits-true, number-is, number_of-within, number_of-past, number_of-other}
use Rattle.account_model.specs.Dates.{Date, IsCounted, day_of_written, read_day, read_date_pieces}
use Rattle.acct_dates.specs.declared.read.DateFault.{DateFault}
use Rattle.acct_dates.specs.declared.read.DateFault.TheVariants.{Shape, OutOfRange}
use Rattle.acct_dates.specs.Days.{answered}
use Rattle.acct_dates.proofs.CalendarLaws.{is-date, day-is}

-- ---- Dates

-- a date that the calendar has, from 1970 on, has its day
pub late-day :
    (date : Date) (civil : JiffDate) (year month day : ℤ)
    → year ≡ pos date.year
    → month ≡ pos date.month
    → day ≡ pos date.day
    → IsDate year month day
    → IsYmd year month day civil
    → 1970 ≤ date.year
    → Ok (epoch_day civil) ≡ answered (day_of_written date)
late-day date civil year month day same_year same_month same_day is parts late =
    let dated = is-date date (rw (same_year, same_month, same_day) at is)
    in let counted : IsCounted date = record { is = dated; late = late }
    in let civil_year : civil.year ≡ pos date.year = cc
    in let civil_month : civil.month ≡ date.month = cc
    in let civil_day : civil.day ≡ date.day = cc
    in rw (dated, le-ltb date.year 1970 late, civil_year, civil_month, civil_day)
    (ap Ok (day-is date counted))

-- ---- What `?` passes on

-- the fault that a part of a date had is the fault of the whole
pub passed-on :
    (result : Result ℤ DateFault) (fault : DateFault) (wanted : Result ℤ DateFault)
    → IsErrAnd result (λ other. other ≡ fault)
    → Err fault ≡ wanted
    → result ≡ wanted
passed-on (Ok day) fault wanted told e = absurd told
passed-on (Err other) fault wanted told e = ap Err told ∙ e

-- ---- Numbers of so many digits

-- a number that is found is one
found-number :
    (bound : ℕ) (text : List ℕ) (number : ℕ) (found : Option ℕ)
    → number_within bound text ≡ found
    → ok_or found (number_fault text) ≡ Ok number
    → IsNumber bound text number
found-number bound text number None e is = absurd (cc)
found-number bound text number (Some value) e is =
    number-is bound text number (e ∙ ap Some (let same : value ≡ number = cc in same))

-- a number that is read is one
pub read-number :
    (bound : ℕ) (text : List ℕ) (number : ℕ)
    → Ok number ≡ number_of bound text
    → IsNumber bound text number
read-number bound text number e =
    found-number bound text number (number_within bound text) refl (sym e)

-- so many digits are below ten to that power
pub digits-below :
    (text : List ℕ) (count : ℕ)
    → is_digits text ≡ true
    → length text ≡ count
    → digits_value 10 text < 10 ^ count
digits-below text count digits long =
    let below = digits_value-lt 10 text (is_digits-numeral text digits).1
    in subst (λ count. digits_value 10 text < 10 ^ count) long below

-- a text of at most four bytes that isn't read is no number
pub unread-digits :
    (text : List ℕ) (count : ℕ) (fault : NumberFault)
    → length text ≡ count
    → count ≤ 4
    → Err fault ≡ number_of 9999 text
    → is_digits text ≡ false
unread-digits text count fault long short e = elim (cases_Bool (is_digits text)) [
  | inl digits ↦
      let most : 10 ^ count ≤ 10 ^ 4 = pow-le-pow_right (omega arith) short
      in let below : digits_value 10 text < 10 ^ count = digits-below text count digits long
      in let small : digits_value 10 text ≤ 9999 = omega (arith, most, below)
      in let read = number_of-within 9999 text (is_digits-numeral text digits) small
      in absurd (cc (e, read))
  | inr letters ↦ letters
]

-- ---- Why a text is no number of a day

-- digits have no fault but that they are too large
digits-fault :
    (bound : ℕ) (text : List ℕ) (fault : NumberFault)
    → is_digits text ≡ true
    → Err fault ≡ number_of bound text
    → fault ≡ TooLarge
digits-fault bound text fault digits e =
    let numeral = is_digits-numeral text digits
    in elim (cases_lt bound (digits_value 10 text)) [
      | inl past ↦ let large = number_of-past bound text numeral past in cc (e, large)
      | inr within ↦
          let read = number_of-within bound text numeral within
          in absurd (cc (e, read))
    ]

-- a text with another byte is read as a date
pub other-text :
    (text : List ℕ) (place : ℕ)
    → bytes_eq text (codes "-1") ≡ false
    → Err (NotDigit place) ≡ number_of greatest_days text
    → read_day text ≡ read_date_pieces (cut_at hyphen text)
other-text text place minus e = elim (cases_Bool (is_digits text)) [
  | inl digits ↦
      let wrong = digits-fault greatest_days text (NotDigit place) digits e
      in absurd (cc)
  | inr letters ↦ rw (minus, letters) refl
]

-- only the empty text has that fault
empty-fault : (text : List ℕ) (other : Option ℕ) → option_map_or NotDigit other TooLarge ≡ Empty → ⊥
empty-fault text None e = cc
empty-fault text (Some place) e = cc

-- an empty text is none
empty-by :
    (bound : ℕ) (text : List ℕ) (found : Option ℕ)
    → Err Empty ≡ ok_or found (number_fault text)
    → text ≡ []
empty-by bound text (Some number) e = absurd (cc)
empty-by bound [] None e = refl
empty-by bound (byte ∷ text) None e =
    let same : Empty ≡ number_fault (byte ∷ text) = cc
    in absurd (empty-fault text (first_other (byte ∷ text)) (sym same))

-- the empty text has no shape of a day
pub empty-text :
    (text : List ℕ)
    → Err Empty ≡ number_of greatest_days text
    → Err Shape ≡ answered (read_day text)
empty-text text e =
    let none = empty-by greatest_days text (number_within greatest_days text) e
    in rw none refl

-- a text with another byte has another fault
letters-fault :
    (bound byte : ℕ) (text : List ℕ) (other : Option ℕ)
    → first_other (byte ∷ text) ≡ other
    → is_digits (byte ∷ text) ≡ false
    → Err TooLarge ≡ number_of bound (byte ∷ text)
    → ⊥
letters-fault bound byte text None all letters e =
    let digits = is_digits-true (byte ∷ text) (omega arith, all_digits (byte ∷ text) all)
    in cc (digits, letters)
letters-fault bound byte text (Some place) other letters e =
    let read = number_of-other bound (byte ∷ text) place (omega arith) other
    in cc (e, read)

-- a text that is too large is digits past the bound
too-large-by :
    (bound : ℕ) (text : List ℕ) (digits within : Bool)
    → is_digits text ≡ digits
    → nat_le (digits_value 10 text) bound ≡ within
    → Err TooLarge ≡ number_of bound text
    → (is_digits text ≡ true) × (nat_le (digits_value 10 text) bound ≡ false)
too-large-by bound text true false all past e = (all, past)
too-large-by bound text true true all within e =
    let small = leb-true (digits_value 10 text) bound within
    in let read = number_of-within bound text (is_digits-numeral text all) small
    in absurd (cc (e, read))
too-large-by bound [] false within letters past e = absurd (cc)
too-large-by bound (byte ∷ text) false within letters past e =
    absurd (letters-fault bound byte text (first_other (byte ∷ text)) refl letters e)

-- a number past the greatest day is out of range
pub too-large :
    (text : List ℕ)
    → bytes_eq text (codes "-1") ≡ false
    → Err TooLarge ≡ number_of greatest_days text
    → Err OutOfRange ≡ answered (read_day text)
too-large text minus e =
    let within = nat_le (digits_value 10 text) greatest_days
    in let past = too-large-by greatest_days text (is_digits text) within refl refl e
    in rw (minus, past.0, past.1) refl
