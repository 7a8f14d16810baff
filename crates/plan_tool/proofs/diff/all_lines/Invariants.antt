use Rattle.std.proofs.Common.{◌≡◌, ◌++◌, length}
use Rattle.acct_text.specs.Lines.{lines_of}
use Rattle.plan_tool.specs.SeenDiff.{seen_lines}
use Rattle.plan_tool.proofs.diff.all_lines.Given as goal

-- the lines so far and those that are left are the file's
abbrev pub invariant-lines : goal.invariant-lines
invariant-lines l = seen_lines l.lines.items ++ l.left ≡ lines_of l.text

abbrev pub decreases-lines : goal.decreases-lines
decreases-lines l = length l.left
