-- The date of a day is a date of the calendar from 1970 on, and its day is that day.
use Rattle.std.proofs.Common.{◌≡◌, ℕ, zero, suc, ◌+◌, ◌-◌, ◌≤◌, ◌<◌, Bool, true, ◌&&◌, refl, ap, sym, subst, ◌∙◌, arith, inl, inr}
use Rattle.std.specs.Prelude.{nat_lt, nat_le}
use Rattle.std.proofs.lemmas.Bool.{cases_Bool, ltb-true, ltb-false, leb-true, le-leb}
use Rattle.account_model.specs.Dates.{Date, is_date, IsCounted, is_leap_year, days_in_year, days_in_month, days_of_years, days_of_months, day_of, date_in_month, date_in_year, date_of}

-- dates with equal parts are equal
pub same_date :
    (year month day : ℕ) (date : Date)
    → year ≡ date.year
    → month ≡ date.month
    → day ≡ date.day
    → (let made : Date = record { year = year; month = month; day = day } in made) ≡ date
same_date year month day date e f g = rw (e, f, g) refl

-- four tests that pass
pub all_four :
    (a b c d : Bool)
    → a ≡ true
    → b ≡ true
    → c ≡ true
    → d ≡ true
    → (a && b && c && d) ≡ true
all_four a b c d e f g h = rw (e, f, g, h) refl

-- a year has the days of its twelve months, and at least 365
pub days_of_twelve_months : (year : ℕ) → days_of_months year 12 ≡ days_in_year year
days_of_twelve_months year =
    elim (cases_Bool (is_leap_year year)) [ inl leap ↦ rw leap refl | inr plain ↦ rw plain refl ]

-- a year has at least 365 days
pub year_is_long : (year : ℕ) → 365 ≤ days_in_year year
year_is_long year = elim (cases_Bool (is_leap_year year))
    [ inl leap ↦ rw leap (omega arith) | inr plain ↦ rw plain (omega arith) ]

-- the days of months and years up to one more
pub one_more_month :
    (year month : ℕ)
    → 1 ≤ month
    → days_of_months year month ≡ days_of_months year (month - 1) + days_in_month year month
one_more_month year zero some = absurd (omega arith)
one_more_month year (suc month) some = let e : suc month - 1 ≡ month = omega arith in rw e refl

-- the days of one year more
pub one_more_year :
    (year : ℕ)
    → 1970 ≤ year
    → days_of_years (suc year - 1970) ≡ days_of_years (year - 1970) + days_in_year year
one_more_year year late =
    let next : suc year - 1970 ≡ suc (year - 1970) = omega arith in
    let this : 1970 + (year - 1970) ≡ year = omega arith in
    rw next (ap (λ y. days_of_years (year - 1970) + days_in_year y) this)

-- the day of the date that lies so many days after the first of a month
pub day_of_date_in_month :
    (most year month n : ℕ)
    → month + most ≡ 13
    → 1 ≤ month
    → days_of_months year (month - 1) + n < days_of_months year 12
    → day_of (date_in_month most year month n)
    ≡ days_of_years (year - 1970) + (days_of_months year (month - 1) + n)
day_of_date_in_month zero year month n count some within =
    let last : month - 1 ≡ 12 = omega arith in
    let beyond = rw last at within in absurd (omega arith)
day_of_date_in_month (suc most) year month n count some within =
    elim (cases_Bool (nat_lt n (days_in_month year month))) [
      | inl inside ↦ rw (inside, date_in_month) (omega arith)
      | inr behind ↦
          let enough : days_in_month year month ≤ n =
          ltb-false n (days_in_month year month) behind in
          let this : suc month - 1 ≡ month = omega arith in
          let sum : days_of_months year month ≡ days_of_months year (month - 1) + days_in_month year
          month = one_more_month year month some in
          let rest : days_of_months year (suc month - 1) + (n - days_in_month year month) <
          days_of_months year 12 = rw this (omega arith) in
          let found = day_of_date_in_month most year (suc month) (n - days_in_month year month)
          (omega arith) (omega arith) rest in
          let found' = rw this at found in
          rw (behind, date_in_month) (found' ∙ (omega arith))
    ]

-- the day of the date that lies so many days after 1 January
pub day_of_date_in_year :
    (most year n : ℕ)
    → n ≤ most
    → 1970 ≤ year
    → day_of (date_in_year most year n) ≡ days_of_years (year - 1970) + n
day_of_date_in_year zero year n within late =
    let long : 365 ≤ days_in_year year = year_is_long year in
    let few : days_of_months year (1 - 1) + n < days_of_months year 12 =
    rw (days_of_twelve_months year) (omega arith) in
    day_of_date_in_month 12 year 1 n refl (omega arith) few ∙ (omega arith)
day_of_date_in_year (suc most) year n within late =
    elim (cases_Bool (nat_lt n (days_in_year year))) [
      | inl inside ↦
          let few : n < days_in_year year = ltb-true n (days_in_year year) inside in
          let fits : days_of_months year (1 - 1) + n < days_of_months year 12 =
          rw (days_of_twelve_months year) (omega arith) in
          rw (inside, date_in_year) (day_of_date_in_month 12 year 1 n refl (omega arith)
          fits ∙ (omega arith))
      | inr behind ↦
          let long : 365 ≤ days_in_year year = year_is_long year in
          let enough : days_in_year year ≤ n = ltb-false n (days_in_year year) behind in
          let found : day_of (date_in_year most (suc year) (n - days_in_year year))
          ≡ days_of_years (suc year - 1970) + (n - days_in_year year) =
          day_of_date_in_year most (suc year) (n - days_in_year year) (omega arith) (omega arith) in
          let sum : days_of_years (suc year - 1970)
          ≡ days_of_years (year - 1970) + days_in_year year = one_more_year year late in
          rw (behind, date_in_year) (found ∙ (omega arith))
    ]

-- the day of the date of a day
pub day_of_date_of : (day : ℕ) → day_of (date_of day) ≡ day
day_of_date_of day = day_of_date_in_year day 1970 day (omega arith) (omega arith) ∙ (omega arith)

-- the date that lies so many days after the first of a month is one of the calendar
pub date_in_month_is_date :
    (most year month n : ℕ)
    → month + most ≡ 13
    → 1 ≤ month
    → 1970 ≤ year
    → days_of_months year (month - 1) + n < days_of_months year 12
    → IsCounted (date_in_month most year month n)
date_in_month_is_date zero year month n count some late within =
    let last : month - 1 ≡ 12 = omega arith in
    let beyond = rw last at within in absurd (omega arith)
date_in_month_is_date (suc most) year month n count some late within =
    elim (cases_Bool (nat_lt n (days_in_month year month))) [
      | inl inside ↦
          let low : nat_le 1 month ≡ true = le-leb 1 month some in
          let high : nat_le month 12 ≡ true = le-leb month 12 (omega arith) in
          let first : nat_le 1 (n + 1) ≡ true = le-leb 1 (n + 1) (omega arith) in
          let few : n < days_in_month year month = ltb-true n (days_in_month year month) inside in
          let last : nat_le (n + 1) (days_in_month year month) ≡ true =
          le-leb (n + 1) (days_in_month year month) (omega arith) in
          let all : (nat_le 1 month && nat_le month 12 && nat_le 1 (n + 1)
          && nat_le (n + 1) (days_in_month year month)) ≡ true =
          all_four (nat_le 1 month) (nat_le month 12) (nat_le 1 (n + 1))
          (nat_le (n + 1) (days_in_month year month)) low high first last in
          rw (inside, date_in_month) (record { is = all; late = late })
      | inr behind ↦
          let enough : days_in_month year month ≤ n =
          ltb-false n (days_in_month year month) behind in
          let this : suc month - 1 ≡ month = omega arith in
          let sum : days_of_months year month ≡ days_of_months year (month - 1) + days_in_month year
          month = one_more_month year month some in
          let rest : days_of_months year (suc month - 1) + (n - days_in_month year month) <
          days_of_months year 12 = rw this (omega arith) in
          rw (behind, date_in_month) (date_in_month_is_date most year (suc month)
          (n - days_in_month year month) (omega arith) (omega arith) late rest)
    ]

-- and so is the one that lies so many days after 1 January
pub date_in_year_is_date :
    (most year n : ℕ)
    → n ≤ most
    → 1970 ≤ year
    → IsCounted (date_in_year most year n)
date_in_year_is_date zero year n within late =
    let long : 365 ≤ days_in_year year = year_is_long year in
    let few : days_of_months year (1 - 1) + n < days_of_months year 12 =
    rw (days_of_twelve_months year) (omega arith) in
    date_in_month_is_date 12 year 1 n refl (omega arith) late few
date_in_year_is_date (suc most) year n within late =
    elim (cases_Bool (nat_lt n (days_in_year year))) [
      | inl inside ↦
          let few : n < days_in_year year = ltb-true n (days_in_year year) inside in
          let fits : days_of_months year (1 - 1) + n < days_of_months year 12 =
          rw (days_of_twelve_months year) (omega arith) in
          rw (inside, date_in_year) (date_in_month_is_date 12 year 1 n refl (omega arith) late fits)
      | inr behind ↦
          let long : 365 ≤ days_in_year year = year_is_long year in
          let enough : days_in_year year ≤ n = ltb-false n (days_in_year year) behind in
          rw (behind, date_in_year) (date_in_year_is_date most (suc year) (n - days_in_year year)
          (omega arith) (omega arith))
    ]

-- the date of a day is a date of the calendar, from 1970 on
pub date_of_is_date : (day : ℕ) → IsCounted (date_of day)
date_of_is_date day = date_in_year_is_date day 1970 day (omega arith) (omega arith)

-- ---- The day of a date has that date

-- the days of fewer months or years are no more
pub months_grow :
    (year fewer more : ℕ)
    → days_of_months year fewer ≤ days_of_months year (fewer + more)
months_grow year fewer zero = let same : fewer + 0 ≡ fewer = omega arith in rw same (omega arith)
months_grow year fewer (suc more) =
    let less : days_of_months year fewer ≤ days_of_months year (fewer + more) =
    months_grow year fewer more in
    let same : fewer + suc more ≡ suc (fewer + more) = omega arith in rw same (omega arith)

-- the days of fewer years are no more
pub years_grow : (fewer more : ℕ) → days_of_years fewer ≤ days_of_years (fewer + more)
years_grow fewer zero = let same : fewer + 0 ≡ fewer = omega arith in rw same (omega arith)
years_grow fewer (suc more) =
    let less : days_of_years fewer ≤ days_of_years (fewer + more) = years_grow fewer more in
    let same : fewer + suc more ≡ suc (fewer + more) = omega arith in rw same (omega arith)

-- a later month: the days up to the first month's end are no more than those before the later month
pub month_is_past :
    (year month later : ℕ)
    → 1 ≤ month
    → month < later
    → days_of_months year (month - 1) + days_in_month year month ≤ days_of_months year (later - 1)
month_is_past year month later some before =
    let sum : days_of_months year month ≡ days_of_months year (month - 1) + days_in_month year
    month = one_more_month year month some in
    let less : days_of_months year month ≤ days_of_months year (month + (later - 1 - month)) =
    months_grow year month (later - 1 - month) in
    let same : month + (later - 1 - month) ≡ later - 1 = omega arith in
    let reached : days_of_months year month ≤ days_of_months year (later - 1) =
    rw same at less in omega arith

-- a date is found from the first of an earlier month
pub found_in_month :
    (most year month n : ℕ) (date : Date)
    → month + most ≡ 13
    → 1 ≤ month
    → month ≤ date.month
    → date.month ≤ 12
    → 1 ≤ date.day
    → date.day ≤ days_in_month year date.month
    → date.year ≡ year
    → days_of_months year (month - 1) + n ≡ days_of_months year (date.month - 1) + (date.day - 1)
    → date_in_month most year month n ≡ date
found_in_month zero year month n date count some before high first last here sum =
    absurd (omega arith)
found_in_month (suc most) year month n date count some before high first last here sum =
    elim (cases_Bool (nat_lt n (days_in_month year month))) [
      | inl inside ↦ elim (cases_Bool (nat_lt month date.month)) [
        | inl earlier ↦
            let few : n < days_in_month year month = ltb-true n (days_in_month year month) inside in
            let past : days_of_months year (month - 1) + days_in_month year month ≤ days_of_months
            year (date.month - 1) =
            month_is_past year month date.month some (ltb-true month date.month earlier) in
            absurd (omega arith)
        | inr now ↦
            let not_later : date.month ≤ month = ltb-false month date.month now in
            let same : month ≡ date.month = omega arith in
            let sum' : days_of_months year (date.month - 1) + n
            ≡ days_of_months year (date.month - 1) + (date.day - 1) = rw same at sum in
            let day : n + 1 ≡ date.day = omega arith in
            let year_is : year ≡ date.year = sym here in
            rw (inside, date_in_month) (same_date year month (n + 1) date year_is same day)
      ]
      | inr behind ↦
          let enough : days_in_month year month ≤ n =
          ltb-false n (days_in_month year month) behind in
          elim (cases_Bool (nat_lt month date.month)) [
            | inl earlier ↦
                let later : month < date.month = ltb-true month date.month earlier in
                let this : suc month - 1 ≡ month = omega arith in
                let step : days_of_months year month ≡ days_of_months year (month - 1) +
                days_in_month year month = one_more_month year month some in
                let rest : days_of_months year (suc month - 1) + (n - days_in_month year month)
                ≡ days_of_months year (date.month - 1) + (date.day - 1) =
                rw this (omega arith) in
                rw (behind, date_in_month) (found_in_month most year (suc month)
                (n - days_in_month year month) date (omega arith) (omega arith) (omega arith)
                high first last here rest)
            | inr now ↦
                let not_later : date.month ≤ month = ltb-false month date.month now in
                let same : date.month ≡ month = omega arith in
                let last' : date.day ≤ days_in_month year month =
                subst (λ m. date.day ≤ days_in_month year m) same last in
                let sum' : days_of_months year (month - 1) + n
                ≡ days_of_months year (month - 1) + (date.day - 1) =
                subst (λ m. days_of_months year (month - 1) + n
                ≡ days_of_months year (m - 1) + (date.day - 1)) same sum in
                absurd (omega arith)
          ]
    ]

-- a later year: the days up to the first year's end are no more than those before the later year
pub year_is_past :
    (year later : ℕ)
    → 1970 ≤ year
    → year < later
    → days_of_years (year - 1970) + days_in_year year ≤ days_of_years (later - 1970)
year_is_past year later late before =
    let sum : days_of_years (suc year - 1970) ≡ days_of_years (year - 1970) + days_in_year year =
    one_more_year year late in
    let less : days_of_years (suc year - 1970) ≤ days_of_years
    ((suc year - 1970) + (later - suc year)) =
    years_grow (suc year - 1970) (later - suc year) in
    let same : (suc year - 1970) + (later - suc year) ≡ later - 1970 = omega arith in
    let reached : days_of_years (suc year - 1970) ≤ days_of_years (later - 1970) =
    rw same at less in omega arith

-- what `is_date` tests
pub record AreDateParts (date : Date) : Type 0 where
  pub first_month : 1 ≤ date.month
  pub last_month : date.month ≤ 12
  pub first_day : 1 ≤ date.day
  pub last_day : date.day ≤ days_in_month date.year date.month

-- of four tests that pass each does
pub four_of :
    (a b c d : Bool)
    → (a && b && c && d) ≡ true
    → (a ≡ true) × (b ≡ true) × (c ≡ true) × (d ≡ true)
four_of true true true true e = (refl, refl, refl, refl)
four_of a b c d e = absurd (cc)

-- a date passes the tests
pub date_parts : (date : Date) → is_date date ≡ true → AreDateParts date
date_parts date is =
    let parts = four_of (nat_le 1 date.month) (nat_le date.month 12) (nat_le 1 date.day)
    (nat_le date.day (days_in_month date.year date.month)) is in
    record {
      first_month = leb-true 1 date.month parts.0;
      last_month = leb-true date.month 12 parts.1;
      first_day = leb-true 1 date.day parts.2;
      last_day = leb-true date.day (days_in_month date.year date.month) parts.3;
    }

-- a date lies in its year
pub within_year :
    (date : Date)
    → AreDateParts date
    → days_of_months date.year (date.month - 1) + (date.day - 1) < days_in_year date.year
within_year date parts =
    let sum : days_of_months date.year date.month
    ≡ days_of_months date.year (date.month - 1) + days_in_month date.year date.month =
    one_more_month date.year date.month parts.first_month in
    let less : days_of_months date.year date.month ≤ days_of_months date.year
    (date.month + (12 - date.month)) = months_grow date.year date.month (12 - date.month) in
    let last : date.month ≤ 12 = parts.last_month in
    let first_day : 1 ≤ date.day = parts.first_day in
    let last_day : date.day ≤ days_in_month date.year date.month = parts.last_day in
    let same : date.month + (12 - date.month) ≡ 12 = omega arith in
    let all : days_of_months date.year date.month ≤ days_of_months date.year 12 = rw same at less in
    let whole : days_of_months date.year 12 ≡ days_in_year date.year =
    days_of_twelve_months date.year in omega arith

-- the rest of the days in the year of the date
pub found_in_its_year :
    (year n : ℕ) (date : Date)
    → AreDateParts date
    → date.year ≡ year
    → n ≡ days_of_months date.year (date.month - 1) + (date.day - 1)
    → date_in_month 12 year 1 n ≡ date
found_in_its_year year n date parts here sum =
    let last : date.day ≤ days_in_month year date.month =
    subst (λ y. date.day ≤ days_in_month y date.month) here parts.last_day in
    let rest : n ≡ days_of_months year (date.month - 1) + (date.day - 1) =
    subst (λ y. n ≡ days_of_months y (date.month - 1) + (date.day - 1)) here sum in
    let all : days_of_months year (1 - 1) + n
    ≡ days_of_months year (date.month - 1) + (date.day - 1) = omega arith in
    found_in_month 12 year 1 n date refl (omega arith) parts.first_month parts.last_month
    parts.first_day last here all

-- a date is found from 1 January of an earlier year
pub found_in_year :
    (most year n : ℕ) (date : Date)
    → AreDateParts date
    → n ≤ most
    → 1970 ≤ year
    → year ≤ date.year
    → days_of_years (year - 1970) + n ≡ days_of_years (date.year - 1970) +
    (days_of_months date.year (date.month - 1) + (date.day - 1))
    → date_in_year most year n ≡ date
found_in_year zero year n date parts within late before sum =
    elim (cases_Bool (nat_lt year date.year)) [
      | inl earlier ↦
          let past : days_of_years (year - 1970) + days_in_year year ≤ days_of_years
          (date.year - 1970) = year_is_past year date.year late
          (ltb-true year date.year earlier) in
          let long : 365 ≤ days_in_year year = year_is_long year in absurd (omega arith)
      | inr now ↦
          let not_later : date.year ≤ year = ltb-false year date.year now in
          let same : date.year ≡ year = omega arith in
          let sum' : days_of_years (date.year - 1970) + n
          ≡ days_of_years (date.year - 1970) + (days_of_months date.year
          (date.month - 1) + (date.day - 1)) =
          subst (λ y. days_of_years (y - 1970) + n ≡ days_of_years (date.year - 1970) +
          (days_of_months date.year (date.month - 1) + (date.day - 1))) (sym same) sum in
          found_in_its_year year n date parts same (omega arith)
    ]
found_in_year (suc most) year n date parts within late before sum =
    elim (cases_Bool (nat_lt n (days_in_year year))) [
      | inl inside ↦
          let few : n < days_in_year year = ltb-true n (days_in_year year) inside in
          elim (cases_Bool (nat_lt year date.year)) [
            | inl earlier ↦
                let past : days_of_years (year - 1970) + days_in_year year ≤ days_of_years
                (date.year - 1970) = year_is_past year date.year late
                (ltb-true year date.year earlier) in
                absurd (omega arith)
            | inr now ↦
                let not_later : date.year ≤ year = ltb-false year date.year now in
                let same : date.year ≡ year = omega arith in
                let sum' : days_of_years (date.year - 1970) + n
                ≡ days_of_years (date.year - 1970) + (days_of_months date.year
                (date.month - 1) + (date.day - 1)) =
                subst (λ y. days_of_years (y - 1970) + n ≡ days_of_years (date.year - 1970) +
                (days_of_months date.year (date.month - 1) + (date.day - 1))) (sym same) sum in
                rw (inside, date_in_year) (found_in_its_year year n date parts same (omega arith))
          ]
      | inr behind ↦
          let long : 365 ≤ days_in_year year = year_is_long year in
          let enough : days_in_year year ≤ n = ltb-false n (days_in_year year) behind in
          elim (cases_Bool (nat_lt year date.year)) [
            | inl earlier ↦
                let later : year < date.year = ltb-true year date.year earlier in
                let step : days_of_years (suc year - 1970)
                ≡ days_of_years (year - 1970) + days_in_year year = one_more_year year late in
                rw (behind, date_in_year) (found_in_year most (suc year) (n - days_in_year year)
                date parts (omega arith) (omega arith) (omega arith) (omega arith))
            | inr now ↦
                let not_later : date.year ≤ year = ltb-false year date.year now in
                let same : date.year ≡ year = omega arith in
                let sum' : days_of_years (date.year - 1970) + n
                ≡ days_of_years (date.year - 1970) + (days_of_months date.year
                (date.month - 1) + (date.day - 1)) =
                subst (λ y. days_of_years (y - 1970) + n ≡ days_of_years (date.year - 1970) +
                (days_of_months date.year (date.month - 1) + (date.day - 1))) (sym same) sum in
                let all : days_of_months date.year (date.month - 1) + (date.day - 1) < days_in_year
                date.year = within_year date parts in
                let enough' : days_in_year date.year ≤ n =
                subst (λ y. days_in_year y ≤ n) (sym same) enough in
                absurd (omega arith)
          ]
    ]

-- the date of the day of a date
pub date_of_day_of : (date : Date) → IsCounted date → date_of (day_of date) ≡ date
date_of_day_of date counted = found_in_year (day_of date) 1970 (day_of date) date
    (date_parts date counted.is) (omega arith) (omega arith) counted.late (omega arith)
