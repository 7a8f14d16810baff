use Rattle.std.proofs.Common.{◌≡◌, ◌++◌, drop}
use Rattle.acct_text.specs.Files.{table_of}
use Rattle.acct_text.specs.ChangedTables.{changed_among, changed_tables}
use Rattle.intent_file.proofs.intent.Intent.new.Given as goal

-- the tables so far, and those that are to come
abbrev pub invariant-tables : goal.invariant-tables
invariant-tables l =
    l.tables.items ++ changed_among (drop l.table-index l.table-items) (table_of l.old)
    (table_of l.new)
    ≡ changed_tables (table_of l.old) (table_of l.new)
