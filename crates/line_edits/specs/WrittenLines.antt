-- Lines of a table whose records can be written again (passwd(5), shadow(5), group(5), gshadow(5)).
use Rattle.std.specs.Prelude.{List, Option, None, Some, ⊤}
use Rattle.std.specs.List.{AllByRecursion}
use Rattle.acct_text.specs.Lines.{Line}
use Rattle.account_model.specs.Format.{Format}
use Rattle.account_model.specs.Written.{IsWritten}

-- what was read, if it is a record, can be written again
abbrev pub IsWrittenRead : {R : Type 0} → Format R → Option R → Type 0
IsWrittenRead format None = ⊤
IsWrittenRead format (Some r) = IsWritten format r

-- so can the record that the line is
abbrev pub IsWrittenLine : {R : Type 0} → Format R → Line → Type 0
IsWrittenLine format line = IsWrittenRead format (format.read line.text)

-- so can all records of the lines
abbrev pub AreWrittenLines : {R : Type 0} → Format R → List Line → Type 0
AreWrittenLines format lines = AllByRecursion (IsWrittenLine format) lines
