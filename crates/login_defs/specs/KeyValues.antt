-- What the value of a numeric key stands for (login.defs(5)).
use Rattle.std.specs.Prelude.{ℕ, Option, None, Some}
use Rattle.login_defs.specs.declared.values.KeyValue.{KeyValue}
use Rattle.login_defs.specs.declared.values.KeyValue.TheVariants.{Empty, Number}

-- the number, and none of -1
abbrev pub value_number : KeyValue → Option ℕ
value_number Empty = None
value_number (Number number) = Some number
