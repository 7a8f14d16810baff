use Rattle.std.proofs.Common.{◌≡◌, drop}
use Rattle.memory_folder.specs.Plan.{planned_effect}
use Rattle.memory_folder.proofs.mishap.Mishaps.planned.Given as goal

abbrev pub invariant-loop-mishap : goal.invariant-loop-mishap
invariant-loop-mishap l =
    planned_effect l.self.calls (drop l.mishap-index l.self.plan.items)
    ≡ planned_effect l.self.calls l.self.plan.items
