use Rattle.std.proofs.Common.{take}
use Rattle.plan_tool.specs.SeenDiff.{Knows, place_told, seen_lines}
use Rattle.plan_tool.proofs.line_places.LinePlaces.of.Given as goal

-- the places of the lines so far are known
abbrev pub invariant-loop-place : goal.invariant-loop-place
invariant-loop-place l =
    Knows (seen_lines (take l.place l.lines)) (place_told (record { places = l.places }))
