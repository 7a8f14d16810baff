-- Claim: a text is a date where it has three pieces between hyphens, of four, two and two digits
-- (`date-read`), and else none (`month-missing`, `day-missing`). Way: digits have no hyphen, so they
-- are one piece (`cut-digits`).
use Rattle.std.proofs.Common.{◌≡◌, ℕ, ◌<◌, Bool, true, false, List, [], ◌∷◌, length, ℤ, refl, sym, ◌∙◌, ap, subst, arith}
use Rattle.std.specs.Prelude.{Result, Ok, Err, ◌==◌, ◌&&◌, if◌then◌else◌}
use Rattle.std.specs.Char.{digit_value}
use Rattle.std.specs.List.{join_with_byte}
use Rattle.std.specs.Str.Parse.{AllDigits, digits_value}
use Rattle.acct_text.specs.Pieces.{cut_at, Lacks}
use Rattle.acct_text.specs.Numbers.{is_digits}
use Rattle.acct_text.proofs.Cut.{cut_at-is, cut-one}
use Rattle.acct_text.proofs.NumberLaws.{is_digits-numeral}
use Rattle.account_model.specs.Text.{hyphen}
use Rattle.account_model.specs.Dates.{are_digits, written_date, day_of_written, read_date_pieces, no_day_shape}
use Rattle.account_model.proofs.DateTextLaws.{both_true}
use Rattle.acct_dates.specs.Days.{answered}
use Rattle.acct_dates.specs.declared.read.DateFault.{DateFault}
use Rattle.acct_dates.specs.declared.read.DateFault.TheVariants.{Shape}

-- ---- Digits are one piece

-- a digit is no hyphen
digit-no-hyphen : (byte : ℕ) → digit_value byte < 10 → byte ≡ hyphen → ⊥
digit-no-hyphen byte low same =
    let wrong : digit_value hyphen < 10 = subst (λ byte. digit_value byte < 10) same low
    in omega (arith, wrong)

-- digits lack the hyphen
digits-lack : (text : List ℕ) → AllDigits 10 text → Lacks hyphen text
digits-lack [] all = tt
digits-lack (byte ∷ text) all =
    (digit-no-hyphen byte all.0, digits-lack text all.1)

-- so they are one piece
pub cut-digits : (text : List ℕ) → is_digits text ≡ true → cut_at hyphen text ≡ text ∷ []
cut-digits text digits =
    cut-one hyphen text (digits-lack text (is_digits-numeral text digits).1)

-- a text of one piece is that piece
one-piece : (text piece : List ℕ) → cut_at hyphen text ≡ piece ∷ [] → text ≡ piece
one-piece text piece e =
    sym (cut_at-is hyphen text).joined ∙ ap (join_with_byte hyphen) e

-- ---- The pieces of a date

-- the tests of three pieces, where the second fails
second-fails : (first third : Bool) → (first && false && third) ≡ false
second-fails true third = refl
second-fails false third = refl

-- and where the third fails
third-fails : (first second : Bool) → (first && second && false) ≡ false
third-fails true true = refl
third-fails true false = refl
third-fails false second = refl

-- the second piece isn't a month
pub no-month :
    (year month : List ℕ) (rest : List (List ℕ))
    → are_digits 2 month ≡ false
    → read_date_pieces (year ∷ month ∷ rest) ≡ Err no_day_shape
no-month year month [] e = refl
no-month year month (day ∷ []) e =
    rw (e, second-fails (are_digits 4 year) (are_digits 2 day)) refl
no-month year month (day ∷ more ∷ rest) e = refl

-- what follows the month isn't a day
no-day-by :
    (year month day : List ℕ) (pieces : List (List ℕ))
    → cut_at hyphen day ≡ pieces
    → are_digits 2 day ≡ false
    → read_date_pieces (year ∷ month ∷ pieces) ≡ Err no_day_shape
no-day-by year month day [] cut e = refl
no-day-by year month day (piece ∷ []) cut e =
    let fails : are_digits 2 piece ≡ false = ap (are_digits 2) (sym (one-piece day piece cut)) ∙ e
    in rw (fails, third-fails (are_digits 4 year) (are_digits 2 month)) refl
no-day-by year month day (piece ∷ more ∷ rest) cut e = refl

-- what follows the month isn't a day
pub no-day :
    (year month day : List ℕ)
    → are_digits 2 day ≡ false
    → read_date_pieces (year ∷ month ∷ cut_at hyphen day) ≡ Err no_day_shape
no-day year month day e = no-day-by year month day (cut_at hyphen day) refl e

-- three pieces of digits write a date
pub date-pieces :
    (year month day : List ℕ)
    → are_digits 4 year ≡ true
    → are_digits 2 month ≡ true
    → are_digits 2 day ≡ true
    → read_date_pieces (year ∷ month ∷ cut_at hyphen day)
    ≡ day_of_written (written_date year month day)
date-pieces year month day is_year is_month is_day =
    let digits = (both_true (is_digits day) (length day == 2) is_day).0
    in rw (cut-digits day digits, is_year, is_month, is_day) refl

-- ---- What the number of a piece says

-- where it is there, the piece is digits
number-is :
    (digits : Bool) (number value : ℕ)
    → ◌≡◌ {A = Result ℕ DateFault} (Ok number) (if digits then Ok value else Err Shape)
    → (digits ≡ true) × (number ≡ value)
number-is true number value e = (refl, cc)
number-is false number value e = absurd (cc)

-- and where it isn't, it's none
number-not :
    (digits : Bool) (fault : DateFault) (value : ℕ)
    → ◌≡◌ {A = Result ℕ DateFault} (Err fault) (if digits then Ok value else Err Shape)
    → (digits ≡ false) × (fault ≡ Shape)
number-not true fault value e = absurd (cc)
number-not false fault value e = (refl, cc)

module _
    (text year month day : List ℕ)
    (cut : cut_at hyphen text ≡ year ∷ month ∷ cut_at hyphen day) where
  -- without a month the text is no date
  pub month-missing :
      (fault : DateFault)
      → ◌≡◌ {A = Result ℕ DateFault} (Err fault)
      (if are_digits 2 month then Ok (digits_value 10 month) else Err Shape)
      → ◌≡◌ {A = Result ℤ DateFault} (Err fault) (answered (read_date_pieces (cut_at hyphen text)))
  month-missing fault e =
      let not = number-not (are_digits 2 month) fault (digits_value 10 month) e
      in rw (cut, no-month year month (cut_at hyphen day) not.0) (ap Err not.1)

  -- nor without a day
  pub day-missing :
      (fault : DateFault)
      → ◌≡◌ {A = Result ℕ DateFault} (Err fault)
      (if are_digits 2 day then Ok (digits_value 10 day) else Err Shape)
      → ◌≡◌ {A = Result ℤ DateFault} (Err fault) (answered (read_date_pieces (cut_at hyphen text)))
  day-missing fault e =
      let not = number-not (are_digits 2 day) fault (digits_value 10 day) e
      in rw (cut, no-day year month day not.0) (ap Err not.1)

  -- with all three numbers it is their date
  pub date-read :
      (year_number month_number day_number : ℕ)
      → ◌≡◌ {A = Result ℕ DateFault} (Ok year_number)
      (if are_digits 4 year then Ok (digits_value 10 year) else Err Shape)
      → ◌≡◌ {A = Result ℕ DateFault} (Ok month_number)
      (if are_digits 2 month then Ok (digits_value 10 month) else Err Shape)
      → ◌≡◌ {A = Result ℕ DateFault} (Ok day_number)
      (if are_digits 2 day then Ok (digits_value 10 day) else Err Shape)
      → answered (day_of_written
      (record { year = year_number; month = month_number; day = day_number }))
      ≡ answered (read_date_pieces (cut_at hyphen text))
  date-read year_number month_number day_number year_read month_read day_read =
      let is_year = number-is (are_digits 4 year) year_number (digits_value 10 year) year_read
      in let is_month =
      number-is (are_digits 2 month) month_number (digits_value 10 month) month_read
      in let is_day = number-is (are_digits 2 day) day_number (digits_value 10 day) day_read
      in let dated = date-pieces year month day is_year.0 is_month.0 is_day.0
      in rw (cut, dated, is_year.1, is_month.1, is_day.1) refl
