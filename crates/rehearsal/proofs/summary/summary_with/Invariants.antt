use Rattle.std.proofs.Common.{◌≡◌, ◌++◌, codes, take}
use Rattle.rehearsal.specs.Summary.{count_line, summary_lines}
use Rattle.rehearsal.proofs.summary.summary_with.Given as goal

-- the two counts, and the lines of the tables so far
abbrev pub invariant-tables : goal.invariant-tables
invariant-tables l = l.summary ≡ count_line (codes "commands") l.count
    ++ count_line (codes "changed") l.last.changed
    ++ summary_lines l.last (take l.table-index l.table-items)
