use Rattle.std.proofs.Common.{◌≡◌, ◌++◌, drop}
use Rattle.intent_file.specs.Pieces.{lines_around}
use Rattle.intent_file.proofs.intent.lines_of.Given as goal

-- the lines so far, and those around the tables that are to come
abbrev pub invariant-tables : goal.invariant-tables
invariant-tables l =
    l.lines.items ++ lines_around l.line (drop l.table-index l.tables)
    ≡ lines_around l.fn.header l.tables
