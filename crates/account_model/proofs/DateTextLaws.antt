-- A day that is printed is read again.
use Rattle.std.proofs.Common.{◌≡◌, ℕ, zero, suc, ◌+◌, ◌-◌, ◌≤◌, ◌<◌, Bool, true, false, not, ◌&&◌, ◌==◌, List, [], ◌∷◌, ◌++◌, length, refl, ap, sym, subst, ◌∙◌, arith, inl, inr, lit<, append_assoc, length-append, Some, None, Ok, Err, codes}
use Rattle.std.specs.Prelude.{nat_lt, nat_le, decimal, bytes_eq, if◌then◌else◌}
use Rattle.std.specs.Fmt.{digits}
use Rattle.std.specs.Str.Parse.{digits_value}
use Rattle.std.proofs.lemmas.Bool.{cases_Bool, false_from_ne_true, not-true, eqb-true, ltb-true, ltb-false, leb-true}
use Rattle.std.proofs.lemmas.Bool.Decides.{nat_tests}
use Rattle.std.proofs.Math.Bool.{and-false}
use Rattle.std.proofs.lemmas.Slice.Eq.{bytes_eq-Decides}
use Rattle.std.specs.List.{list_all}
use Rattle.std.specs.Char.{is_digit}
use Rattle.acct_text.specs.Bytes.{is_empty}
use Rattle.acct_text.specs.Pieces.{Lacks, cut_at}
use Rattle.acct_text.specs.Numbers.{is_digits, number_within}
use Rattle.account_model.specs.Text.{hyphen, has_byte}
use Rattle.acct_text.specs.Limits.{last_day}
use Rattle.account_model.specs.Dates.{Date, is_date, IsCounted, days_in_month, days_of_years, days_of_months, day_of, date_of, two_digits, print_date, print_day, no_such_day, day_out_of_range, are_digits, read_date_pieces, read_day}
use Rattle.account_model.specs.Records.{greatest_days}
use Rattle.acct_text.proofs.Cut.{cut-piece, cut-one}
use Rattle.account_model.proofs.SpelledIsRead.{both_false}
use Rattle.acct_text.proofs.NumberLaws.{number-found}
use Rattle.account_model.proofs.WrittenLaws.{decimal-number}
use Rattle.account_model.proofs.DatesLaws.{date_parts, years_grow, day_of_date_of, date_of_is_date}

-- a test of each number below a bound
abbrev pub all_below : (ℕ → Bool) → ℕ → Bool
all_below test zero = true
all_below test (suc bound) = test bound && all_below test bound

-- two tests that pass
pub both_true : (a b : Bool) → (a && b) ≡ true → (a ≡ true) × (b ≡ true)
both_true true true e = (refl, refl)
both_true true false e = absurd (cc)
both_true false b e = absurd (cc)

-- a test that passes for all numbers below a bound passes for each
pub passes_below :
    (test : ℕ → Bool) (bound n : ℕ)
    → all_below test bound ≡ true
    → n < bound
    → test n ≡ true
passes_below test zero n all below = absurd (omega arith)
passes_below test (suc bound) n all below =
    let parts = both_true (test bound) (all_below test bound) all in
    elim (cases_Bool (n == bound)) [
      | inl same ↦ subst (λ m. test m ≡ true) (sym (eqb-true n bound same)) parts.0
      | inr other ↦ passes_below test bound n parts.1 (lower n bound below other)
    ]
  where
    lower : (n bound : ℕ) → n < suc bound → (n == bound) ≡ false → n < bound
    lower n bound below other = grind (arith, nat_tests)

-- a number of this many digits, as it is printed
abbrev pub is_printed : ℕ → List ℕ → ℕ → Bool
is_printed count text n =
    are_digits count text && (digits_value 10 text == n) && not (has_byte hyphen text)

-- the numbers below 100 are printed in two digits
pub two_digits_are_printed : all_below (λ n. is_printed 2 (two_digits n) n) 100 ≡ true
unfolding digits
two_digits_are_printed = refl

-- the years from 1970 to 9999 are printed in four
pub years_are_printed : all_below (λ n. is_printed 4 (decimal (1970 + n)) (1970 + n)) 8030 ≡ true
unfolding digits
years_are_printed = refl

-- ---- Dates

-- a text that hasn't a hyphen lacks it
pub no_hyphen : (text : List ℕ) → has_byte hyphen text ≡ false → Lacks hyphen text
no_hyphen [] none = tt
no_hyphen (b ∷ text) none =
    let parts = both_false (b == hyphen) (has_byte hyphen text) none in
    (λ same. cc (ap (λ n. n == hyphen) same, parts.0), no_hyphen text parts.1)

-- a text with a hyphen isn't all digits
pub not_all_digits :
    (before after : List ℕ)
    → list_all (λ b. is_digit b 10) (before ++ hyphen ∷ after) ≡ false
not_all_digits [] after = refl
not_all_digits (b ∷ before) after =
    ap (λ rest. is_digit b 10 && rest) (not_all_digits before after) ∙ and-false (is_digit b 10)

-- and so is no number
pub no_digits : (before after : List ℕ) → is_digits (before ++ hyphen ∷ after) ≡ false
no_digits before after = ap (λ all. not (is_empty (before ++ hyphen ∷ after)) && all)
    (not_all_digits before after) ∙ and-false (not (is_empty (before ++ hyphen ∷ after)))

-- a part of a date, as it is printed
pub record IsPart (count : ℕ) (text : List ℕ) (n : ℕ) : Type 0 where
  pub all : are_digits count text ≡ true
  pub value : digits_value 10 text ≡ n
  pub lacks : Lacks hyphen text

-- a number that is printed in so many digits is a part of a date
pub part_of :
    (count : ℕ) (text : List ℕ) (n : ℕ)
    → is_printed count text n ≡ true
    → IsPart count text n
part_of count text n printed =
    let outer = both_true (are_digits count text && (digits_value 10 text == n))
    (not (has_byte hyphen text)) printed in
    let inner = both_true (are_digits count text) (digits_value 10 text == n) outer.0 in
    record {
      all = inner.0;
      value = eqb-true (digits_value 10 text) n inner.1;
      lacks = no_hyphen
          text (not-true (has_byte hyphen text) outer.1);
    }

-- a month has at most 31 days
pub short_month : (year month : ℕ) → days_in_month year month ≤ 31
short_month year month = grind (arith, nat_tests)

-- the text of a date in its three parts
abbrev pub in_parts : List ℕ → List ℕ → List ℕ → List ℕ
in_parts year month day = year ++ hyphen ∷ (month ++ hyphen ∷ day)

-- a printed date has three parts
pub print_date_parts :
    (date : Date)
    → print_date date ≡ in_parts (decimal date.year) (two_digits date.month) (two_digits date.day)
print_date_parts date = simp append_assoc

-- it is cut into them
pub cut_parts :
    (year month day : List ℕ)
    → Lacks hyphen year
    → Lacks hyphen month
    → Lacks hyphen day
    → cut_at hyphen (in_parts year month day) ≡ year ∷ month ∷ day ∷ []
cut_parts year month day no_year no_month no_day =
    cut-piece hyphen year (month ++ hyphen ∷ day) no_year
    ∙ ap (λ rest. year ∷ rest) (cut-piece hyphen month day no_month)
    ∙ ap (λ rest. year ∷ month ∷ rest) (cut-one hyphen day no_day)

-- three parts are no `-1`
pub no_minus_one :
    (year month day : List ℕ)
    → length year ≡ 4
    → bytes_eq (in_parts year month day) (codes "-1") ≡ false
no_minus_one year month day long =
    false_from_ne_true (bytes_eq (in_parts year month day) (codes "-1")) (λ same.
    let e : in_parts year month day ≡ codes "-1" =
    (bytes_eq-Decides (in_parts year month day) (codes "-1")).0 same in
    let two : length (in_parts year month day) ≡ 2 = ap length e in
    let sum : length (in_parts year month day)
    ≡ length year + length (hyphen ∷ (month ++ hyphen ∷ day)) =
    length-append year (hyphen ∷ (month ++ hyphen ∷ day)) in
    omega arith)

-- a part has its length
pub length_of_part : {count n : ℕ} {text : List ℕ} → IsPart count text n → length text ≡ count
length_of_part {count = count} {text = text} part =
    eqb-true (length text) count (both_true (is_digits text) (length text == count) part.all).1

-- the pieces of a date are read
pub pieces_are_read :
    (year month day : List ℕ) (date : Date)
    → IsPart 4 year date.year
    → IsPart 2 month date.month
    → IsPart 2 day date.day
    → IsCounted date
    → read_date_pieces (year ∷ month ∷ day ∷ []) ≡ Ok (Some (day_of date))
pieces_are_read year month day date is_year is_month is_day counted =
    let late : nat_lt date.year 1970 ≡ false = false_from_ne_true (nat_lt date.year 1970) (λ early.
    let before : date.year < 1970 = ltb-true date.year 1970 early in
    let after : 1970 ≤ date.year = counted.late in omega arith) in
    rw (is_year.all, is_month.all, is_day.all, is_year.value, is_month.value, is_day.value)
    (written date (is_date date) (nat_lt date.year 1970) counted.is late)
  where
    written :
        (date : Date) (is early : Bool)
        → is ≡ true
        → early ≡ false
        → (if not is then Err no_such_day else (if early then Err day_out_of_range
        else Ok (Some (day_of date)))) ≡ Ok (Some (day_of date))
    written date is early e f = rw (e, f) refl

-- three parts are read as their date
pub parts_are_read :
    (year month day : List ℕ) (date : Date)
    → IsPart 4 year date.year
    → IsPart 2 month date.month
    → IsPart 2 day date.day
    → IsCounted date
    → read_day (in_parts year month day) ≡ Ok (Some (day_of date))
parts_are_read year month day date is_year is_month is_day counted =
    rw (
      no_minus_one year month day (length_of_part is_year),
      no_digits year
          (month ++ hyphen ∷ day),
      cut_parts year month day is_year.lacks is_month.lacks is_day.lacks,
    )
    (pieces_are_read year month day date is_year is_month is_day counted)

-- a printed date is read
pub printed_date_is_read :
    (date : Date)
    → IsCounted date
    → date.year < 10000
    → read_day (print_date date) ≡ Ok (Some (day_of date))
printed_date_is_read date counted four =
    let parts = date_parts date counted.is in
    let late : 1970 ≤ date.year = counted.late in
    let last : date.month ≤ 12 = parts.last_month in
    let last_day : date.day ≤ days_in_month date.year date.month = parts.last_day in
    let short : days_in_month date.year date.month ≤ 31 = short_month date.year date.month in
    let this : 1970 + (date.year - 1970) ≡ date.year = omega arith in
    let printed : is_printed 4 (decimal (1970 + (date.year - 1970)))
    (1970 + (date.year - 1970)) ≡ true =
    passes_below (λ n. is_printed 4 (decimal (1970 + n)) (1970 + n)) 8030 (date.year - 1970)
    years_are_printed (omega arith) in
    let is_year : IsPart 4 (decimal date.year) date.year = part_of 4 (decimal date.year) date.year
    (subst (λ y. is_printed 4 (decimal y) y ≡ true) this printed) in
    let is_month : IsPart 2 (two_digits date.month) date.month =
    part_of 2 (two_digits date.month) date.month
    (passes_below (λ n. is_printed 2 (two_digits n) n) 100 date.month
    two_digits_are_printed (omega arith)) in
    let is_day : IsPart 2 (two_digits date.day) date.day = part_of 2 (two_digits date.day) date.day
    (passes_below (λ n. is_printed 2 (two_digits n) n) 100 date.day
    two_digits_are_printed (omega arith)) in
    ap read_day (print_date_parts date) ∙ parts_are_read (decimal date.year) (two_digits date.month)
    (two_digits date.day) date is_year is_month is_day counted

-- ---- Days

-- 10000-01-01 is the day behind 9999-12-31
pub days_before_10000 : days_of_years 8030 ≡ 2932897
days_before_10000 = refl

-- a day up to 9999-12-31 lies in a year of four digits
pub year_has_four_digits : (day : ℕ) → day ≤ last_day → (date_of day).year < 10000
year_has_four_digits day small = elim (cases_Bool (nat_lt (date_of day).year 10000)) [
  | inl below ↦ ltb-true (date_of day).year 10000 below
  | inr above ↦
      let late : 10000 ≤ (date_of day).year = ltb-false (date_of day).year 10000 above in
      let grown : days_of_years 8030 ≤ days_of_years (8030 + ((date_of day).year - 1970 - 8030)) =
      years_grow 8030 ((date_of day).year - 1970 - 8030) in
      let same : 8030 + ((date_of day).year - 1970 - 8030)
      ≡ (date_of day).year - 1970 = omega arith in
      let all : days_of_years 8030 ≤ days_of_years ((date_of day).year - 1970) =
      subst (λ n. days_of_years 8030 ≤ days_of_years n) same grown in
      let first : 2932897 ≤ days_of_years ((date_of day).year - 1970) =
      subst (λ n. n ≤ days_of_years ((date_of day).year - 1970)) days_before_10000 all in
      let is : day_of (date_of day) ≡ day = day_of_date_of day in
      absurd (too_late (days_of_years ((date_of day).year - 1970))
      (days_of_months (date_of day).year ((date_of day).month - 1))
      ((date_of day).day - 1) day first is small)
]
  where
    too_late :
        (years months days day : ℕ)
        → 2932897 ≤ years
        → years + months + days ≡ day
        → day ≤ 2932896
        → ⊥
    too_late years months days day first is small = omega arith

-- a number is read
pub number_parts :
    (text : List ℕ) (n : ℕ)
    → number_within greatest_days text ≡ Some n
    → (is_digits text ≡ true) × (nat_le (digits_value 10 text) greatest_days ≡ true)
    × (digits_value 10 text ≡ n)
number_parts text n found =
    by_tests (is_digits text) (nat_le (digits_value 10 text) greatest_days) refl refl found
  where
    by_tests :
        (digits small : Bool)
        → is_digits text ≡ digits
        → nat_le (digits_value 10 text) greatest_days ≡ small
        → (if digits && small then Some (digits_value 10 text) else None) ≡ Some n
        → (is_digits text ≡ true) × (nat_le (digits_value 10 text) greatest_days ≡ true)
        × (digits_value 10 text ≡ n)
    by_tests true true e f found = (e, f, cc)
    by_tests true false e f found = absurd (cc)
    by_tests false small e f found = absurd (cc)

-- the number of a day is read
pub number_is_read :
    (text : List ℕ) (n : ℕ)
    → number_within greatest_days text ≡ Some n
    → read_day text ≡ Ok (Some n)
number_is_read text n found =
    let parts = number_parts text n found in
    let digits = parts.0 in
    let small = parts.1 in
    let value = parts.2 in
    let no_minus : bytes_eq text (codes "-1") ≡ false =
    false_from_ne_true (bytes_eq text (codes "-1")) (λ same.
    let e : text ≡ codes "-1" = (bytes_eq-Decides text (codes "-1")).0 same in
    let wrong : number_within greatest_days (codes "-1") ≡ Some n =
    subst (λ t. number_within greatest_days t ≡ Some n) e found in
    let none : number_within greatest_days (codes "-1") ≡ None = refl in cc (wrong, none)) in
    read_tests (bytes_eq text (codes "-1")) (is_digits text)
    (nat_le (digits_value 10 text) greatest_days) no_minus digits small
    ∙ ap (λ v. Ok (Some v)) value
  where
    read_tests :
        (minus digits small : Bool)
        → minus ≡ false
        → digits ≡ true
        → small ≡ true
        → (if minus then Ok None else (if digits then (if small
        then Ok (Some (digits_value 10 text)) else Err day_out_of_range)
        else read_date_pieces (cut_at hyphen text))) ≡ Ok (Some (digits_value 10 text))
    read_tests minus digits small e f g = rw (e, f, g) refl

-- A day that is printed is read again.
pub printed_day_is_read : (day : ℕ) → day ≤ greatest_days → read_day (print_day day) ≡ Ok (Some day)
printed_day_is_read day within = by_size (nat_le day last_day) refl
  where
    by_size :
        (small : Bool)
        → nat_le day last_day ≡ small
        → read_day (if small then print_date (date_of day) else decimal day) ≡ Ok (Some day)
    by_size true small = printed_date_is_read (date_of day) (date_of_is_date day)
        (year_has_four_digits day (leb-true day last_day small))
        ∙ ap (λ d. Ok (Some d)) (day_of_date_of day)
    by_size false large = number_is_read (decimal day) day
        (number-found greatest_days (decimal day) day
        (decimal-number greatest_days day (lit< tt) within))
