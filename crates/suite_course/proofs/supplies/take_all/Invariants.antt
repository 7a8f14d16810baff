use Rattle.std.proofs.Common.{◌≤◌, ◌+◌, ◌-◌, length}
use Rattle.acct_text.specs.Limits.{table_limit}
use Rattle.acct_outside.specs.Faults.{NoneFailed}
use Rattle.acct_outside.specs.Streams.{WhereBytesTold}
use Rattle.suite_course.specs.Supplies.{Came}
use Rattle.suite_course.proofs.supplies.take_all.Given as goal

-- what came so far is what the source had before, at most one byte more than an input may have, and no
-- take failed
abbrev pub invariant-pieces : goal.invariant-pieces
invariant-pieces g l =
    WhereBytesTold (g.S.Source.moment l.initial.source).left
    (g.S.Source.moment l.source).left (Came l.input)
    × (length l.input ≤ table_limit + 1)
    × NoneFailed (g.S.Source.moment l.initial.source).faults (g.S.Source.moment l.source).faults

-- there is less room after each piece
abbrev pub decreases-pieces : goal.decreases-pieces
decreases-pieces g l = table_limit + 1 - length l.input
