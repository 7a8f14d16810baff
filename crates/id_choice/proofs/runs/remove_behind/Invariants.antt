use Rattle.std.proofs.Common.{◌≡◌, ℕ, ◌<◌, ◌≤◌}
use Rattle.std.specs.BTreeMap.{IsOrdered, btree_map_len, get}
use Rattle.std.specs.Ordering.{nat_cmp}
use Rattle.id_choice.proofs.runs.remove_behind.Given as goal

-- the runs that begin elsewhere stay
abbrev pub invariant-runs : goal.invariant-runs
invariant-runs l = record {
  before : (first : ℕ) → first ≤ l.number
      → get nat_cmp l.runs first ≡ get nat_cmp l.initial.runs first;
  past : (first : ℕ) → l.end < first
      → get nat_cmp l.runs first ≡ get nat_cmp l.initial.runs first;
  ordered : IsOrdered nat_cmp l.runs;
}

abbrev pub decreases-runs : goal.decreases-runs
decreases-runs l = btree_map_len l.runs
