use Rattle.std.proofs.Common.{◌≡◌, map, take}
use Rattle.std.specs.Prelude.{flat_map}
use Rattle.plan_tool.specs.SeenDiff.{objects_of, seen_diff_line}
use Rattle.plan_tool.proofs.records.new_objects.Given as goal

-- the objects so far
abbrev pub invariant-loop-line : goal.invariant-loop-line
invariant-loop-line g l = l.objects
    ≡ flat_map (objects_of g.R.TableRecord.format g.R.ToldRecord.object)
    (map seen_diff_line (take l.line-index l.line-items))
