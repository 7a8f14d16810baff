use Rattle.std.proofs.Common.{ℕ, ◌+◌, ◌-◌, ◌≤◌}
use Rattle.subid_ranges.specs.Taken.{IsGap}
use Rattle.subid_ranges.proofs.taken.Taken.free_gap.Given as goal

-- no gap begins before the start
abbrev pub invariant-starts : goal.invariant-starts
invariant-starts l = record {
  not_below : l.min ≤ l.start;
  least : (start : ℕ) → IsGap l.min l.max l.count l.self start → l.start ≤ start;
}

abbrev pub decreases-starts : goal.decreases-starts
decreases-starts l = l.max + 1 - l.start
