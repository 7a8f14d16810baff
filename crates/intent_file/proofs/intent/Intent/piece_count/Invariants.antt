use Rattle.std.proofs.Common.{◌≡◌, ◌+◌, ◌*◌, ◌^◌, ◌≤◌, take}
use Rattle.std.specs.List.{sum_by}
use Rattle.acct_outside.specs.Pieces.{piece_count}
use Rattle.intent_file.specs.Pieces.{intent_lines}
use Rattle.intent_file.proofs.intent.Intent.piece_count.Given as goal

-- the pieces of the lines so far
abbrev pub invariant-loop-line : goal.invariant-loop-line
invariant-loop-line l =
    (l.count ≡ sum_by piece_count (take l.line-index (intent_lines l.self)))
    × (l.count ≤ l.line-index * 2 ^ 48)

-- the pieces of all lines, and of the tables so far
abbrev pub invariant-loop-table : goal.invariant-loop-table
invariant-loop-table l =
    (l.count ≡ sum_by piece_count (intent_lines l.self)
    + sum_by (λ new. piece_count new.bytes) (take l.table-index l.self.tables))
    × (l.count ≤ (7 + l.table-index) * 2 ^ 48)
