use Rattle.std.proofs.Common.{◌≡◌, ◌++◌, map, take}
use Rattle.std.specs.Prelude.{flat_map}
use Rattle.account_model.specs.PlanDiff.{diff_text}
use Rattle.plan_tool.specs.SeenChanges.{seen_change}
use Rattle.plan_tool.proofs.planned.push_diffs.Given as goal

-- the diffs so far stand behind the text
abbrev pub invariant-loop-change : goal.invariant-loop-change
invariant-loop-change l = l.out
    ≡ l.fn.out ++ flat_map diff_text (map seen_change (take l.change-index l.change-items))
