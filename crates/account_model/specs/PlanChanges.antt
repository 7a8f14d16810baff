-- The tables that a plan tells of: those whose files would get other bytes. Tools neither make nor remove
-- a table, so an absent one never changes.
use Rattle.std.specs.Prelude.{List, filter_map, bytes_eq, Option, None, Some, if◌then◌else◌}
use Rattle.acct_text.specs.declared.Tab.{Tab}
use Rattle.acct_text.specs.declared.files.Files.{Files}
use Rattle.acct_text.specs.Bytes.{Bytes}
use Rattle.acct_text.specs.Files.{table_of}
use Rattle.acct_text.specs.Tables.{all_tables}

-- a table that changes, with its bytes before and after
pub record TableChange : Type 0 where
  pub table : Tab
  pub old : Bytes
  pub new : Bytes

-- the change of a table, and none where it stays
abbrev pub change_of : Tab → Option Bytes → Option Bytes → Option TableChange
change_of table (Some old) (Some new) =
    if bytes_eq old new then None else Some (record { table = table; old = old; new = new })
change_of table old new = None

-- the change of a table from old files to new ones
abbrev pub change_between : Files → Files → Tab → Option TableChange
change_between old new table = change_of table (table_of old table) (table_of new table)

-- the changes of all tables, in the fixed order
abbrev pub changes : Files → Files → List TableChange
changes old new = filter_map (change_between old new) all_tables
