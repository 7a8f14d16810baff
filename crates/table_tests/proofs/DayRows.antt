-- Rows of days and dates, beside those of account_model (chage(1), `-d` and `-l`).
use Rattle.std.specs.Prelude.{◌≡◌, Some, Ok, Err, codes, refl}
use Rattle.std.specs.Fmt.{digits}
use Rattle.account_model.specs.Dates.{read_day, print_day, no_day_shape, day_out_of_range}

number : read_day (codes "19800") ≡ Ok (Some 19800)
number = refl

date : read_day (codes "2024-03-18") ≡ Ok (Some 19800)
date = refl

year_0 : read_day (codes "0000-01-01") ≡ Err day_out_of_range
year_0 = refl

short_month_and_day : read_day (codes "1970-1-1") ≡ Err no_day_shape
short_month_and_day = refl

printed : print_day 19800 ≡ codes "2024-03-18"
unfolding digits
printed = refl
