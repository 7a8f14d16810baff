use Rattle.std.proofs.Common.{take}
use Rattle.side_by_side.specs.Scenes.{scene}
use Rattle.side_by_side.specs.Steps.{TakesSteps}
use Rattle.side_by_side.proofs.playing.play.Given as goal

-- the steps so far are taken
abbrev pub invariant-steps : goal.invariant-steps
invariant-steps g l = TakesSteps (take l.step-index l.steps)
    (scene l.initial.folder l.initial.sessions.items) (scene l.folder l.sessions.items)
