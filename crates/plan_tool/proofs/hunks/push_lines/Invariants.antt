use Rattle.std.proofs.Common.{◌≡◌, ◌++◌, take}
use Rattle.std.specs.Prelude.{flat_map}
use Rattle.account_model.specs.PlanDiff.{diff_line_text}
use Rattle.plan_tool.specs.SeenDiff.{seen_diff}
use Rattle.plan_tool.proofs.hunks.push_lines.Given as goal

-- the lines so far stand behind the text
abbrev pub invariant-loop-line : goal.invariant-loop-line
invariant-loop-line l = l.out
    ≡ l.fn.out ++ flat_map diff_line_text (seen_diff (take l.line-index l.lines))
