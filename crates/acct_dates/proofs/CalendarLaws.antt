-- Claim: the calendar of `jiff` has the dates that ours has (`date-is`, `is-date`), and counts the
-- days of each from 1970 on as ours does (`day-is`). Way: both tests of a date are the same. Both
-- calendars give the next date the next number (`next-day`), and 1970-01-01 is day 0, so they agree
-- day by day.
use Rattle.std.proofs.Common.{◌≡◌, zero, suc, ℕ, ◌+◌, ◌-◌, ◌<◌, ◌≤◌, true, ℤ, pos, ◌+ℤ◌, refl, sym, ◌∙◌, ap, arith, inl, inr}
use Rattle.std.specs.Prelude.{nat_le, nat_lt}
use Rattle.std.proofs.lemmas.Bool.{cases_Bool, le-leb, ltb-false}
use Rattle.jiff.specs.Words.{IsDate}
use Rattle.jiff.proofs.Family.{days_from_civil-day, days_from_civil-next_month, days_from_civil-next_year}
use Rattle.jiff.proofs.SpanFacts.{signed_arith}
use Rattle.jiff.proofs.OnLiterals.{jiff_on_literals}
use Rattle.jiff_core.specs.Calendar.{days_from_civil}
use Rattle.account_model.specs.Dates.{Date, days_in_month, is_date, IsCounted, next_date, day_of, date_of}
use Rattle.account_model.proofs.DatesLaws.{AreDateParts, date_parts, all_four, date_of_is_date, day_of_date_of, date_of_day_of}
use Rattle.account_model.proofs.CountedLaws.{next-counted, days-count}

-- the day that `jiff` counts for a date
abbrev pub civil_day : Date → ℤ
civil_day date = days_from_civil (pos date.year) date.month date.day

-- ---- The same dates

-- a date of ours is one of `jiff`
pub date-is :
    (date : Date)
    → date.year < 10000
    → is_date date ≡ true
    → IsDate (pos date.year) (pos date.month) (pos date.day)
date-is date four is =
    let parts : AreDateParts date = date_parts date is
    in (
      (omega (arith, signed_arith), omega (arith, signed_arith, four)),
      (
        omega (arith, signed_arith, parts.first_month),
        omega (arith, signed_arith, parts.last_month),
      ),
      (omega (arith, signed_arith, parts.first_day), omega (arith, signed_arith, parts.last_day)),
    )

-- and a date of `jiff` is one of ours
pub is-date :
    (date : Date)
    → IsDate (pos date.year) (pos date.month) (pos date.day)
    → is_date date ≡ true
is-date date is =
    all_four
    (nat_le 1 date.month)
    (nat_le date.month 12)
    (nat_le 1 date.day)
    (nat_le date.day (days_in_month date.year date.month))
    (le-leb 1 date.month (omega (arith, signed_arith, is.1.0)))
    (le-leb date.month 12 (omega (arith, signed_arith, is.1.1)))
    (le-leb 1 date.day (omega (arith, signed_arith, is.2.0)))
    (le-leb date.day (days_in_month date.year date.month) (omega (arith, signed_arith, is.2.1)))

-- ---- The same days

-- 1970-01-01 is day 0
pub first-day : days_from_civil (pos 1970) 1 1 ≡ pos 0
unfolding jiff_on_literals
first-day = refl

-- the next day of a month
within-month :
    (year month day : ℕ)
    → 1 ≤ day
    → days_from_civil (pos year) month (day + 1) ≡ days_from_civil (pos year) month day +ℤ pos 1
within-month year month day some =
    let apart = days_from_civil-day (pos year) month day (day + 1) some (omega arith)
    in omega (arith, signed_arith, apart)

-- 1 January behind 31 December
behind-december :
    (year month day : ℕ)
    → month ≡ 12
    → day ≡ 31
    → days_from_civil (pos (year + 1)) 1 1 ≡ days_from_civil (pos year) month day +ℤ pos 1
behind-december year month day twelve last =
    let next = days_from_civil-next_year
    (pos year)
    (pos (year + 1))
    (omega (arith, signed_arith))
    (omega (arith, signed_arith))
    in rw (twelve, last) next

-- `jiff` gives the next date the next number
next-day : (date : Date) → IsCounted date → civil_day (next_date date) ≡ civil_day date +ℤ pos 1
next-day date counted =
    let parts : AreDateParts date = date_parts date counted.is
    in let most = days_in_month date.year date.month
    in elim (cases_Bool (nat_lt date.day most)) [
      | inl within ↦ rw within (within-month date.year date.month date.day parts.first_day)
      | inr ends ↦
          let last : date.day ≡ most =
          omega (arith, parts.last_day, ltb-false date.day most ends)
          in elim (cases_Bool (nat_lt date.month 12)) [
            | inl within ↦
                let next = days_from_civil-next_month
                (pos date.year)
                date.month
                date.day
                parts.first_month
                last
                in rw (ends, within) next
            | inr december ↦
                let twelve : date.month ≡ 12 =
                omega (arith, parts.last_month, ltb-false date.month 12 december)
                in let full : date.day ≡ 31 = last ∙ ap (days_in_month date.year) twelve
                in rw (ends, december) (behind-december date.year date.month date.day twelve full)
          ]
    ]

-- the next date of the date of a day is the date of the next day
next-date : (day : ℕ) → next_date (date_of day) ≡ date_of (suc day)
next-date day =
    let counted = date_of_is_date day
    in let next = days-count.next (date_of day) counted ∙ ap suc (day_of_date_of day)
    in sym (date_of_day_of (next_date (date_of day)) (next-counted (date_of day) counted))
    ∙ ap date_of next

-- the date of a day has that day
pub day-of-date : (day : ℕ) → civil_day (date_of day) ≡ pos day
day-of-date zero = first-day
day-of-date (suc day) =
    let next = next-day (date_of day) (date_of_is_date day)
    in ap civil_day (sym (next-date day))
    ∙ next
    ∙ ap (λ before. before +ℤ pos 1) (day-of-date day)
    ∙ (omega (arith, signed_arith))

-- a date from 1970 on has the day that ours counts
pub day-is : (date : Date) → IsCounted date → civil_day date ≡ pos (day_of date)
day-is date counted =
    ap civil_day (sym (date_of_day_of date counted)) ∙ day-of-date (day_of date)
