use Rattle.std.proofs.Common.{◌≡◌, ℕ, ◌-◌, ◌≤◌, List, ◌++◌, length}
use Rattle.acct_text.specs.Lines.{lines_of}
use Rattle.acct_tables.specs.Marks.{marks_in}
use Rattle.acct_tables.proofs.MarkedPlaces.{AreFrom}
use Rattle.acct_tables.proofs.marked.marked_in.Given as goal

-- the places so far with those of the lines left are those of all
abbrev pub invariant-lines : goal.invariant-lines
invariant-lines l = record {
  here : l.left ≡ lines_of l.behind;
  inside : length l.behind ≤ length l.text;
  so_far : (more : List ℕ)
      → AreFrom (marks_in l.marks) (length l.text - length l.behind) (lines_of l.behind) more
      → AreFrom (marks_in l.marks) 0 (lines_of l.text) (l.places.items ++ more);
}

abbrev pub decreases-lines : goal.decreases-lines
decreases-lines l = length l.left
