use Rattle.std.proofs.Common.{◌≡◌, map, take}
use Rattle.account_model.specs.PlanJson.{table_object}
use Rattle.plan_tool.specs.SeenChanges.{seen_change}
use Rattle.plan_tool.proofs.json.push_tables.Given as goal

-- the objects so far
abbrev pub invariant-loop-change : goal.invariant-loop-change
invariant-loop-change l =
    l.objects ≡ map table_object (map seen_change (take l.change-index l.change-items))
