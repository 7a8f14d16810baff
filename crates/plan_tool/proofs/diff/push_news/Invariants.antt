use Rattle.std.proofs.Common.{◌≡◌, ◌++◌, map, take}
use Rattle.account_model.specs.declared.fate.Fate.TheVariants.{New}
use Rattle.account_model.specs.PlanDiff.{fated}
use Rattle.plan_tool.specs.SeenDiff.{seen_diff, seen_lines}
use Rattle.plan_tool.proofs.diff.push_news.Given as goal

-- the lines so far stand behind those that were there
abbrev pub invariant-loop-line : goal.invariant-loop-line
invariant-loop-line l = seen_diff l.lines.items
    ≡ seen_diff l.fn.lines.items ++ map (fated New) (seen_lines (take l.line-index l.news))
