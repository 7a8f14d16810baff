use Rattle.std.proofs.Common.{length}
use Rattle.acct_tables.specs.Marks.{IsFromMarks, marks_in}
use Rattle.acct_tables.proofs.marks.from_marks.Given as goal

-- no line in front has one of the marks
abbrev pub invariant-chunks : goal.invariant-chunks
invariant-chunks l = IsFromMarks (marks_in l.marks) l.text l.left

abbrev pub decreases-chunks : goal.decreases-chunks
decreases-chunks l = length l.left
