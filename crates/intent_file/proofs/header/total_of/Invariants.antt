use Rattle.std.proofs.Common.{◌≡◌, ◌+◌, length, drop}
use Rattle.intent_file.specs.Intent.{body, table_parts}
use Rattle.intent_file.proofs.header.total_of.Given as goal

-- the total so far, and the parts of the tables that are to come
abbrev pub invariant-tables : goal.invariant-tables
invariant-tables l =
    l.total + length (table_parts (drop l.table-index l.tables)) ≡ length (body l.tables)
