-- Claim: the text that `jiff` writes for the date of a day is the printed day (`added-text`). Way:
-- dates of one day are the same, and so are the texts of their years, months and days, one by one.
use Rattle.std.proofs.Common.{◌≡◌, ℕ, ◌+◌, ◌-◌, ◌/◌, ◌%◌, ◌<◌, ◌≤◌, Bool, true, List, [], ◌∷◌, ◌++◌, ℤ, pos, neg_ℤ, ◌+ℤ◌, ◌≤ℤ◌, refl, sym, ◌∙◌, subst, arith}
use Rattle.std.specs.Prelude.{Result, Ok, Err, IsOk, IfOk, MatchOption, decimal, bytes_eq, codes}
use Rattle.std.specs.Fmt.{digits}
use Rattle.std.proofs.lemmas.Bool.{le-leb}
use Rattle.std.proofs.lemmas.Slice.Eq.{bytes_eq-Decides}
use Rattle.std.specs.Result.{result_ok}
use Rattle.std.proofs.lemmas.Result.{IfOk-weaker}
use Rattle.jiff.specs.Words.{epoch_day, date_text, date_add, CanAddToDate, IsDate, IsOnly, IsYmd, Error}
use Rattle.jiff.specs.Types.{Date as JiffDate, Span, Day}
use Rattle.jiff.proofs.Family.{epoch_day_injective}
use Rattle.jiff.proofs.SpanFacts.{signed_arith, date_add-days, can_add-days}
use Rattle.acct_text.specs.Limits.{last_day}
use Rattle.account_model.specs.Dates.{Date, IsCounted, date_of, two_digits, print_date, print_day}
use Rattle.account_model.proofs.DatesLaws.{date_parts, date_of_is_date}
use Rattle.account_model.proofs.DateTextLaws.{all_below, passes_below, short_month, year_has_four_digits}
use Rattle.acct_dates.proofs.CalendarLaws.{first-day, day-of-date, date-is}

-- ---- The texts of numbers, as `jiff` writes them

-- a number below 100, in two digits
abbrev pub pad2 : ℕ → List ℕ
pad2 number = (48 + number / 10) ∷ (48 + number % 10) ∷ []

-- a number below 10000, in four
abbrev pub pad4 : ℕ → List ℕ
pad4 number = pad2 (number / 100) ++ pad2 (number % 100)

-- whether a number has the same two digits
abbrev pub same_pair : ℕ → Bool
same_pair number = bytes_eq (pad2 number) (two_digits number)

-- numbers below 100 have the same two digits
two-digits : all_below same_pair 100 ≡ true
unfolding digits
two-digits = refl

-- whether a year from 1970 on has the text of its number
abbrev pub same_year : ℕ → Bool
same_year number = bytes_eq (pad4 (1970 + number)) (decimal (1970 + number))

-- years from 1970 to 9999 have the same four
four-digits : all_below same_year 8030 ≡ true
unfolding digits
four-digits = refl

-- a month or a day
pub pad2-is : (number : ℕ) → number < 100 → pad2 number ≡ two_digits number
pad2-is number small =
    let same = passes_below same_pair 100 number two-digits small
    in (bytes_eq-Decides (pad2 number) (two_digits number)).0 same

-- a year
pub pad4-is : (year : ℕ) → 1970 ≤ year → year < 10000 → pad4 year ≡ decimal year
pad4-is year late four =
    let number = year - 1970
    in let this : 1970 + number ≡ year = omega (arith, late)
    in let same = passes_below same_year 8030 number four-digits (omega (arith, late, four))
    in let text = (bytes_eq-Decides (pad4 (1970 + number)) (decimal (1970 + number))).0 same
    in subst (λ year. pad4 year ≡ decimal year) this text

-- ---- The text of a date

-- a date of ours as one of `jiff`
pub as_jiff : (date : Date) → IsDate (pos date.year) (pos date.month) (pos date.day) → JiffDate
as_jiff date is = record {
  year = pos date.year;
  month = date.month;
  day = date.day;
  year_in = is.0;
  month_in = (omega (arith, signed_arith, is.1.0), omega (arith, signed_arith, is.1.1));
  day_in = (omega (arith, signed_arith, is.2.0), omega (arith, signed_arith, is.2.1));
}

-- the texts of a year, a month and a day with hyphens between them, part by part
same-parts :
    (year month day year_text month_text day_text : List ℕ)
    → year ≡ year_text
    → month ≡ month_text
    → day ≡ day_text
    → year ++ 45 ∷ [] ++ month ++ 45 ∷ [] ++ day
    ≡ year_text ++ codes "-" ++ month_text ++ codes "-" ++ day_text
same-parts year month day year_text month_text day_text same_year same_month same_day =
    rw (same_year, same_month, same_day) refl

-- dates of `jiff` with the parts of ours have its text
date-text :
    (date : Date) (civil : JiffDate)
    → IsCounted date
    → date.year < 10000
    → (civil.year ≡ pos date.year) × (civil.month ≡ date.month) × (civil.day ≡ date.day)
    → date_text civil ≡ print_date date
date-text date civil counted four parts =
    let are = date_parts date counted.is
    in let short = short_month date.year date.month
    in let year = pad4-is date.year counted.late four
    in let month = pad2-is date.month (omega (arith, are.last_month))
    in let day = pad2-is date.day (omega (arith, are.last_day, short))
    in rw (parts.0, parts.1, parts.2) (same-parts
    (pad4 date.year)
    (pad2 date.month)
    (pad2 date.day)
    (decimal date.year)
    (two_digits date.month)
    (two_digits date.day)
    year
    month
    day)

-- the text of the date of a day is the printed day
text-is :
    (civil : JiffDate) (day : ℕ)
    → day ≤ last_day
    → epoch_day civil ≡ pos day
    → date_text civil ≡ print_day day
unfolding as_jiff
text-is civil day within is =
    let date = date_of day
    in let counted = date_of_is_date day
    in let four = year_has_four_digits day within
    in let own = as_jiff date (date-is date four counted.is)
    in let same = epoch_day_injective civil own (is ∙ sym (day-of-date day))
    in rw (le-leb day last_day within) (date-text date civil counted four same)

-- the date that is found for a day up to the last has its text
found-text :
    (found : Result JiffDate Error) (day : ℕ)
    → day ≤ last_day
    → IsOk found
    → IfOk found (λ civil. epoch_day civil ≡ pos day)
    → MatchOption (result_ok found) (last_day < day) (λ civil. date_text civil ≡ print_day day)
found-text (Ok civil) day within ok is = text-is civil day within is
found-text (Err error) day within ok is = absurd (cc)

-- 1970-01-01 is day 0
start-day : (start : JiffDate) → IsYmd (pos 1970) (pos 1) (pos 1) start → epoch_day start ≡ pos 0
start-day start parts =
    let month : start.month ≡ 1 = cc
    in let day : start.day ≡ 1 = cc
    in rw (parts.0, month, day) first-day

-- the date that lies so many days behind 1970-01-01 has the text of that day
pub added-text :
    (start : JiffDate) (span : Span) (found : Result JiffDate Error) (day : ℕ)
    → day ≤ last_day
    → IsYmd (pos 1970) (pos 1) (pos 1) start
    → IsOnly Day (pos day) span
    → (CanAddToDate start span → IsOk found)
    → IfOk found (λ civil. epoch_day civil ≡ date_add start span)
    → MatchOption (result_ok found) (last_day < day) (λ civil. date_text civil ≡ print_day day)
added-text start span found day within starts only adds value =
    let first : epoch_day start ≡ pos 0 = start-day start starts
    in let sum : epoch_day start +ℤ pos day ≡ pos day = omega (arith, signed_arith, first)
    in let least : neg_ℤ (pos 4_371_587) ≤ℤ (epoch_day start +ℤ pos day) =
    omega (arith, signed_arith, first)
    in let most : (epoch_day start +ℤ pos day) ≤ℤ pos 2_932_896 =
    omega (arith, signed_arith, first, within)
    in let can = (can_add-days start (pos day) span only).1 (least, most)
    in let added = date_add-days start (pos day) span only
    in let is = IfOk-weaker found _ _ (λ civil e. e ∙ added ∙ sum) value
    in found-text found day within (adds can) is
