-- What the code answers for a text as a day (chage(1), `-d` and `-E`).
use Rattle.std.specs.Prelude.{ℕ, Option, Some, None, Result, Ok, Err, ℤ, pos, negsuc}
use Rattle.account_model.specs.Dates.{Date, DayFault, no_day_shape, no_such_day, day_out_of_range}
use Rattle.acct_dates.specs.declared.read.DateFault.{DateFault}
use Rattle.acct_dates.specs.declared.read.DateFault.TheVariants.{Shape, NoSuchDay, OutOfRange}
use Rattle.acct_dates.specs.declared.read.WrittenDate.{WrittenDate}

-- why a text is no day, by the names of the code
abbrev pub fault_of : DayFault → DateFault
fault_of no_day_shape = Shape
fault_of no_such_day = NoSuchDay
fault_of day_out_of_range = OutOfRange

-- what is read from a text: a day as its number, no day as -1, or why it is neither
abbrev pub answered : Result (Option ℕ) DayFault → Result ℤ DateFault
answered (Ok None) = Ok (negsuc 0)
answered (Ok (Some day)) = Ok (pos day)
answered (Err fault) = Err (fault_of fault)

-- a written date, as one that the calendar has or lacks
abbrev pub calendar_date : WrittenDate → Date
calendar_date written = record { year = written.year; month = written.month; day = written.day }
