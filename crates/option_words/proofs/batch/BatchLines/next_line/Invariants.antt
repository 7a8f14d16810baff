use Rattle.std.proofs.Common.{◌≡◌, ◌+◌, ◌≤◌, length}
use Rattle.acct_text.specs.Limits.{table_limit}
use Rattle.option_words.specs.Batch.{lines_from}
use Rattle.option_words.proofs.batch.BatchLines.next_line.Given as goal

-- the lines that are left are those at first, as the lines so far were skipped
abbrev pub invariant-lines : goal.invariant-lines
invariant-lines l = record {
  left : lines_from l.self-inside.number l.self-inside.rest.now
      ≡ lines_from l.initial.self-inside.number l.initial.self-inside.rest.now;
  counted : l.self-inside.number + length l.self-inside.rest.now ≤ table_limit + 1;
}

abbrev pub decreases-lines : goal.decreases-lines
decreases-lines l = length l.self-inside.rest.now
