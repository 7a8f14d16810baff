use Rattle.std.proofs.Common.{ℕ, ◌<◌, ◌≤◌}
use Rattle.memory_folder.specs.Memory.{alive_of, past_of}
use Rattle.memory_folder.specs.NewTokens.{numbered_token, IsUnused}
use Rattle.memory_folder.proofs.memory.MemoryFolder.fresh.Given as goal

abbrev pub invariant-loop-number : goal.invariant-loop-number
invariant-loop-number l =
    (other : ℕ) → 1 ≤ other → other < l.number
    → ¬ (IsUnused (past_of l.self) (alive_of l.self) (numbered_token other))
