-- What a field of days holds (shadow(5)).
use Rattle.std.specs.Prelude.{ℕ, Option, None, Some}
use Rattle.acct_lines.specs.declared.days_value.DaysValue.{DaysValue}
use Rattle.acct_lines.specs.declared.days_value.DaysValue.TheVariants.{Empty, Days}

-- the number, and none of an empty field
abbrev pub days_held : DaysValue → Option ℕ
days_held Empty = None
days_held (Days days) = Some days
