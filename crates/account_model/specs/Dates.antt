-- Days as dates of the Gregorian calendar (shadow(5), chage(1)). Days are counted from 1970-01-01, which is day 0.
use Rattle.std.specs.Prelude.{◌≡◌, ◌≤◌, ℕ, zero, suc, ◌+◌, ◌-◌, ◌%◌, Bool, true, false, not, ◌&&◌, ◌||◌, ◌==◌, nat_lt, nat_le, if◌then◌else◌, List, [], ◌∷◌, ◌++◌, length, bytes_eq, decimal, codes, Option, Some, None, Result, Ok, Err}
use Rattle.std.specs.Str.Parse.{digits_value}
use Rattle.acct_text.specs.Pieces.{cut_at}
use Rattle.acct_text.specs.Numbers.{is_digits}
use Rattle.account_model.specs.Text.{hyphen}
use Rattle.account_model.specs.Records.{greatest_days}
use Rattle.acct_text.specs.Limits.{last_day}

-- every fourth year, but of the centuries only every fourth
abbrev pub is_leap_year : ℕ → Bool
is_leap_year year = (year % 4 == 0) && (not (year % 100 == 0) || (year % 400 == 0))

-- the days of a year
abbrev pub days_in_year : ℕ → ℕ
days_in_year year = if is_leap_year year then 366 else 365

-- thirty days have September, April, June and November; a month counts from 1
abbrev pub days_in_month : ℕ → ℕ → ℕ
days_in_month year month =
    if month == 2 then (if is_leap_year year then 29 else 28)
    else (if (month == 4) || (month == 6) || (month == 9) || (month == 11) then 30 else 31)

-- the days of the first n years from 1970 on
abbrev pub days_of_years : ℕ → ℕ
days_of_years zero = 0
days_of_years (suc n) = days_of_years n + days_in_year (1970 + n)

-- the days of the first n months of a year
abbrev pub days_of_months : ℕ → ℕ → ℕ
days_of_months year zero = 0
days_of_months year (suc n) = days_of_months year n + days_in_month year (suc n)

-- a year, a month and a day of it
pub record Date : Type 0 where
  pub year : ℕ
  -- the month of the year, from 1
  pub month : ℕ
  -- the day of the month, from 1
  pub day : ℕ

-- whether the calendar has the date
abbrev pub is_date : Date → Bool
is_date date = nat_le 1 date.month && nat_le date.month 12
    && nat_le 1 date.day && nat_le date.day (days_in_month date.year date.month)

-- a date of the calendar from 1970 on
pub record IsCounted (date : Date) : Type 0 where
  pub is : is_date date ≡ true
  pub late : 1970 ≤ date.year

-- the first date that is counted
abbrev pub first_date : Date
first_date = record { year = 1970; month = 1; day = 1 }

-- the date of the next day
abbrev pub next_date : Date → Date
next_date date = if nat_lt date.day (days_in_month date.year date.month)
    then record date { day = date.day + 1 }
    else if nat_lt date.month 12
    then record date { month = date.month + 1; day = 1 }
    else record { year = date.year + 1; month = 1; day = 1 }

-- A numbering of dates that begins with 0 on 1970-01-01 and gives each next date the next number. There is one such, as
-- `days_are_counted` shows; so any calendar that counts in this way gives the same days.
pub record CountsDays (count : Date → ℕ) : Type 0 where
  pub first : count first_date ≡ 0
  pub next : (date : Date) → IsCounted date → count (next_date date) ≡ suc (count date)

-- the day of a date from 1970 on: the days of the years, of the months and of the month before it
abbrev pub day_of : Date → ℕ
day_of date =
    days_of_years (date.year - 1970) + days_of_months date.year (date.month - 1) + (date.day - 1)

-- ---- computed

-- the date that lies n days after the first of a month; so many months pass at most
abbrev pub date_in_month : ℕ → ℕ → ℕ → ℕ → Date
date_in_month zero year month n = record { year = year; month = month; day = n + 1 }
date_in_month (suc most) year month n = elim (nat_lt n (days_in_month year month)) [
  | true ↦ record { year = year; month = month; day = n + 1 }
  | false ↦ date_in_month most year (suc month) (n - days_in_month year month)
]

-- the date that lies n days after 1 January of a year; so many years pass at most
abbrev pub date_in_year : ℕ → ℕ → ℕ → Date
date_in_year zero year n = date_in_month 12 year 1 n
date_in_year (suc most) year n = elim (nat_lt n (days_in_year year)) [
  | true ↦ date_in_month 12 year 1 n
  | false ↦ date_in_year most (suc year) (n - days_in_year year)
]

-- the date of a day
abbrev pub date_of : ℕ → Date
date_of day = date_in_year day 1970 day

-- ---- Dates as texts

-- a number below 100 in two digits
abbrev pub two_digits : ℕ → List ℕ
two_digits n = if nat_lt n 10 then codes "0" ++ decimal n else decimal n

-- YYYY-MM-DD, for a year of four digits
abbrev pub print_date : Date → List ℕ
print_date date =
    decimal date.year ++ codes "-" ++ two_digits date.month ++ codes "-" ++ two_digits date.day

-- a day as a date, up to 9999-12-31, and as its number above that
abbrev pub print_day : ℕ → List ℕ
print_day day = if nat_le day last_day then print_date (date_of day) else decimal day

-- why a text is no day
pub data DayFault : Type 0 where
  -- neither `-1` nor digits nor dddd-dd-dd
  no_day_shape : DayFault
  -- no day of the calendar
  no_such_day : DayFault
  -- a number above the greatest day, or a date before 1970-01-01
  day_out_of_range : DayFault

-- the day of a date as it was written, and a fault where the calendar has none such or doesn't count it
abbrev pub day_of_written : Date → Result (Option ℕ) DayFault
day_of_written date =
    if not (is_date date) then Err no_such_day else
    (if nat_lt date.year 1970 then Err day_out_of_range else Ok (Some (day_of date)))

-- the text is so many digits
abbrev pub are_digits : ℕ → List ℕ → Bool
are_digits count text = is_digits text && (length text == count)

-- the date that three texts of digits write
abbrev pub written_date : List ℕ → List ℕ → List ℕ → Date
written_date year month day =
    record { year = digits_value 10 year; month = digits_value 10 month; day = digits_value 10 day }

-- the day of a date that was cut at its hyphens: of four, two and two digits
abbrev pub read_date_pieces : List (List ℕ) → Result (Option ℕ) DayFault
read_date_pieces (year ∷ month ∷ day ∷ []) =
    if are_digits 4 year && are_digits 2 month && are_digits 2 day
    then day_of_written (written_date year month day)
    else Err no_day_shape
read_date_pieces pieces = Err no_day_shape

-- the number of a day
abbrev pub read_day_number : List ℕ → Result (Option ℕ) DayFault
read_day_number text = if nat_le (digits_value 10 text) greatest_days
    then Ok (Some (digits_value 10 text))
    else Err day_out_of_range

-- `-1`, which is no day and empties a field; the number of a day; or a date YYYY-MM-DD (chage(1), `-d` and `-E`)
abbrev pub read_day : List ℕ → Result (Option ℕ) DayFault
read_day text =
    if bytes_eq text (codes "-1") then Ok None else
    (if is_digits text then read_day_number text else read_date_pieces (cut_at hyphen text))
