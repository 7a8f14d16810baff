-- Claim: days count the dates of the calendar one after another from 1970-01-01 on (`days-count`), and nothing else
-- counts them so (`counts-alone`). Way: the day of the next date is one more (`next-day`), so the next date of the date
-- of a day is the date of the next day (`next-date`), and two numberings agree day by day.
use Rattle.std.proofs.Common.{◌≡◌, zero, suc, ℕ, ◌+◌, ◌-◌, ◌<◌, ◌≤◌, refl, sym, ◌∙◌, ap, arith, inl, inr}
use Rattle.std.specs.Prelude.{nat_le, nat_lt}
use Rattle.std.proofs.lemmas.Bool.{cases_Bool, le-leb, ltb-true, ltb-false}
use Rattle.account_model.specs.Dates.{Date, days_in_year, days_in_month, days_of_years, days_of_months, IsCounted, CountsDays, next_date, day_of, date_of}
use Rattle.account_model.proofs.DatesLaws.{AreDateParts, date_parts, all_four, one_more_month, one_more_year, days_of_twelve_months, date_of_is_date, day_of_date_of, date_of_day_of}

-- each month has a day
month-has-days : (year month : ℕ) → 1 ≤ days_in_month year month
month-has-days year month = grind (arith)

-- a date of these parts
date-of-parts :
    (year month day : ℕ)
    → 1970 ≤ year
    → 1 ≤ month
    → month ≤ 12
    → 1 ≤ day
    → day ≤ days_in_month year month
    → IsCounted (record { year = year; month = month; day = day })
date-of-parts year month day late first_month last_month first_day last_day = record {
  is = all_four (nat_le 1 month) (nat_le month 12) (nat_le 1 day)
      (nat_le day (days_in_month year month))
      (le-leb 1 month first_month) (le-leb month 12 last_month) (le-leb 1 day first_day)
      (le-leb day (days_in_month year month) last_day);
  late = late;
}

-- the next date is counted as well
pub next-counted : (date : Date) → IsCounted date → IsCounted (next_date date)
next-counted date counted =
    let parts : AreDateParts date = date_parts date counted.is
    in elim (cases_Bool (nat_lt date.day (days_in_month date.year date.month))) [
      | inl within ↦
          let less : date.day < days_in_month date.year date.month =
          ltb-true date.day (days_in_month date.year date.month) within
          in rw within (date-of-parts date.year date.month (date.day + 1) counted.late
          parts.first_month parts.last_month
          (omega arith) (omega (arith, less)))
      | inr last ↦ elim (cases_Bool (nat_lt date.month 12)) [
        | inl within ↦
            let less : date.month < 12 = ltb-true date.month 12 within
            in rw (last, within) (date-of-parts date.year (date.month + 1) 1 counted.late
            (omega arith) (omega (arith, less))
            (omega arith) (month-has-days date.year (date.month + 1)))
        | inr december ↦ rw (last, december) (date-of-parts (date.year + 1) 1 1
            (omega (arith, counted.late)) (omega arith)
            (omega arith) (omega arith) (month-has-days (date.year + 1) 1))
      ]
    ]

-- the day of the next date is one more
next-day : (date : Date) → IsCounted date → day_of (next_date date) ≡ suc (day_of date)
next-day date counted =
    let parts : AreDateParts date = date_parts date counted.is
    in let first_day : 1 ≤ date.day = parts.first_day
    in let first_month : 1 ≤ date.month = parts.first_month
    in let last_day : date.day ≤ days_in_month date.year date.month = parts.last_day
    in let last_month : date.month ≤ 12 = parts.last_month
    in elim (cases_Bool (nat_lt date.day (days_in_month date.year date.month))) [
      | inl within ↦ rw within (omega arith)
      | inr last ↦
          let full : days_in_month date.year date.month ≤ date.day =
          ltb-false date.day (days_in_month date.year date.month) last
          in let month : days_of_months date.year date.month
          ≡ days_of_months date.year (date.month - 1) + days_in_month date.year date.month =
          one_more_month date.year date.month first_month
          in elim (cases_Bool (nat_lt date.month 12)) [
            | inl within ↦
                let same : date.month + 1 - 1 ≡ date.month = omega arith
                in rw (last, within, same) (omega arith)
            | inr december ↦
                let twelve : date.month ≡ 12 = let late =
                ltb-false date.month 12 december in omega arith
                in let whole : days_of_months date.year date.month ≡ days_in_year date.year =
                ap (λ m. days_of_months date.year m) twelve ∙ days_of_twelve_months date.year
                in let next : date.year + 1 ≡ suc date.year = omega arith
                in let year : days_of_years (suc date.year - 1970)
                ≡ days_of_years (date.year - 1970) + days_in_year date.year =
                one_more_year date.year counted.late
                in rw (last, december, next) (omega arith)
          ]
    ]

-- days count the dates one after another
pub days-count : CountsDays day_of
days-count = record { first = refl; next = next-day }

-- the next date of the date of a day is the date of the next day
next-is : (day : ℕ) → next_date (date_of day) ≡ date_of (suc day)
next-is day =
    sym (date_of_day_of (next_date (date_of day))
    (next-counted (date_of day) (date_of_is_date day)))
    ∙ ap date_of (next-day (date_of day) (date_of_is_date day) ∙ ap suc (day_of_date_of day))

-- a numbering gives the date of a day the day
counts-by-day : (count : Date → ℕ) → CountsDays count → (day : ℕ) → count (date_of day) ≡ day
counts-by-day count counts zero = counts.first
counts-by-day count counts (suc day) =
    ap count (sym (next-is day)) ∙ counts.next (date_of day) (date_of_is_date day)
    ∙ ap suc (counts-by-day count counts day)

-- nothing else counts the dates so
pub counts-alone :
    (count : Date → ℕ) (date : Date)
    → CountsDays count
    → IsCounted date
    → count date ≡ day_of date
counts-alone count date counts counted =
    ap count (sym (date_of_day_of date counted)) ∙ counts-by-day count counts (day_of date)
