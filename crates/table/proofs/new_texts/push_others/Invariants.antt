use Rattle.std.proofs.Common.{◌≡◌, ◌++◌, length}
use Rattle.table.proofs.new_texts.push_others.Given as goal

-- what is made, with the texts left, is what was there with all of them
abbrev pub invariant-texts : goal.invariant-texts
invariant-texts l = l.made.items ++ l.left ≡ l.fn.made.items ++ l.fn.left

abbrev pub decreases-texts : goal.decreases-texts
decreases-texts l = length l.left
