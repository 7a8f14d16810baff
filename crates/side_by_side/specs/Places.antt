-- The place of the session of a step.
use Rattle.std.specs.Prelude.{ℕ}
use Rattle.side_by_side.specs.declared.step.Step.{Step}
use Rattle.side_by_side.specs.declared.step.Step.TheVariants.{Turn, Die}

-- the place of the step's session, counted from 0
abbrev pub place_of : Step → ℕ
place_of (Turn place) = place
place_of (Die place effect) = place
