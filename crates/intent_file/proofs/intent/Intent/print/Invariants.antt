use Rattle.std.proofs.Common.{◌≡◌, ◌++◌, take}
use Rattle.intent_file.specs.Intent.{header_of, table_parts}
use Rattle.intent_file.proofs.intent.Intent.print.Given as goal

-- the header, and the parts of the tables so far
abbrev pub invariant-tables : goal.invariant-tables
invariant-tables l =
    l.text ≡ header_of l.self.version l.self.number l.self.tables
    ++ table_parts (take l.table-index l.self.tables)
