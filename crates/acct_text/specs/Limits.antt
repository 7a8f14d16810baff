-- The limits that the whole suite keeps.
use Rattle.std.specs.Prelude.{ℕ}

-- the most bytes that a table, login.defs(5) or the input of a command may have: 16 MiB
abbrev pub table_limit : ℕ
table_limit = 16777216

-- the last day that is written as a date, 9999-12-31; days are counted from 1970-01-01
abbrev pub last_day : ℕ
last_day = 2932896
