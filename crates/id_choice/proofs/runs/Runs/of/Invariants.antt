use Rattle.std.proofs.Common.{take}
use Rattle.id_choice.specs.Runs.{AreThoseOfRuns}
use Rattle.id_choice.proofs.runs.Runs.of.Given as goal

-- the numbers are those of the runs so far
abbrev pub invariant-runs : goal.invariant-runs
invariant-runs l = AreThoseOfRuns (take l.run-index l.run-items) l.numbers
