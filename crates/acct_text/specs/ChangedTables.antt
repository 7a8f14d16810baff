-- The tables in which new files differ from old ones, as a command decides and an intent lists them.
use Rattle.std.specs.Prelude.{List, [], ◌∷◌, Option, Some, None, if◌then◌else◌}
use Rattle.acct_text.specs.declared.Tab.{Tab}
use Rattle.acct_text.specs.declared.new_tables.NewTable.{NewTable}
use Rattle.acct_text.specs.Bytes.{Bytes}
use Rattle.acct_text.specs.Tables.{all_tables}
use Rattle.acct_text.specs.Contents.{Contents, same_content}

-- the new bytes of one table, where they differ from the old
abbrev pub changed_bytes : Option Bytes → Option Bytes → Option Bytes
changed_bytes old new = if same_content old new then None else new

-- the tables with one more before them, where there are bytes for it
abbrev pub with_new_table : Tab → Option Bytes → List NewTable → List NewTable
with_new_table table None news = news
with_new_table table (Some bytes) news = record { table = table; bytes = bytes } ∷ news

-- those of some tables that differ, with their new bytes
abbrev pub changed_among : List Tab → Contents → Contents → List NewTable
changed_among [] old new = []
changed_among (table ∷ tables) old new =
    if same_content (old table) (new table)
    then changed_among tables old new
    else with_new_table table (new table) (changed_among tables old new)

-- the tables that differ, in the fixed order, with their new bytes
abbrev pub changed_tables : Contents → Contents → List NewTable
changed_tables old new = changed_among all_tables old new
