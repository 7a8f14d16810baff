use Rattle.std.proofs.Common.{◌≡◌, ◌≤◌, ◌++◌}
use Rattle.account_model.specs.PlanDiff.{hunks_text}
use Rattle.plan_tool.specs.SeenDiff.{IsPointOf, seen_diff}
use Rattle.plan_tool.proofs.HunkWalk.{hunks_from}
use Rattle.plan_tool.proofs.hunks.push_hunks.Given as goal

-- the hunks so far stand behind the text, and one has begun
abbrev pub invariant-lines : goal.invariant-lines
invariant-lines l = record {
  start : IsPointOf (seen_diff l.lines) l.start;
  here : IsPointOf (seen_diff l.lines) l.here;
  place : l.here.place ≡ l.line-index;
  begun : l.start.place ≤ l.here.place;
  told : l.out ++ hunks_from (seen_diff l.lines) l.start.place l.here.place
      ≡ l.fn.out ++ hunks_text (seen_diff l.lines);
}
