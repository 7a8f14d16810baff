use Rattle.std.proofs.Common.{◌≡◌, ◌++◌, ◌≤◌, drop, length}
use Rattle.account_model.specs.PlanDiff.{diff_lines, lines_between}
use Rattle.plan_tool.specs.SeenDiff.{seen_diff, seen_lines}
use Rattle.plan_tool.proofs.diff.diff_lines.Given as goal

-- the lines so far, and those between the old lines and the new ones that are left
abbrev pub invariant-olds : goal.invariant-olds
invariant-olds l = record {
  inside : l.passed ≤ length l.news;
  whole : seen_diff l.lines.items ++ lines_between l.olds (drop l.passed (seen_lines l.news))
      ≡ diff_lines l.old l.new;
}

abbrev pub decreases-olds : goal.decreases-olds
decreases-olds l = length l.olds
