use Rattle.std.proofs.Common.{◌≡◌, ◌++◌, filter, drop}
use Rattle.lock_steps.specs.Gathered.{awaits, inputs, names_behind}
use Rattle.lock_steps.proofs.gathered.Gathered.names_behind.Given as goal

-- the names so far, and those that are to come
abbrev pub invariant-inputs : goal.invariant-inputs
invariant-inputs l =
    l.names.items ++ filter (awaits l.self) (drop l.name-index inputs) ≡ names_behind l.self
