-- The settled files: the six tables as they will be once the standing intent is carried out.
use Rattle.std.specs.Prelude.{List, [], Option, Some, None}
use Rattle.std.specs.Option.{option_or}
use Rattle.acct_text.specs.Bytes.{Bytes}
use Rattle.acct_text.specs.Contents.{Contents}
use Rattle.acct_outside.specs.declared.Name.TheVariants.{Intent}
use Rattle.acct_outside.specs.Folder.{Folder, tables}
use Rattle.intent_file.specs.Intent.{NewTable, Intended, read_intent, listed_in}

-- the tables of an intent; none of bytes that don't read as one
abbrev pub tables_of_intent : Option Intended → List NewTable
tables_of_intent None = []
tables_of_intent (Some intent) = intent.tables

-- what is listed by the bytes at the intent's name
abbrev pub listed_by : Option Bytes → List NewTable
listed_by None = []
listed_by (Some bytes) = tables_of_intent (read_intent bytes)

-- the six files of the folder, those that a standing intent lists replaced by its bytes
abbrev pub settled : Folder → Contents
settled folder = λ table.
    option_or (listed_in (listed_by (folder.file Intent)) table) (tables folder table)
