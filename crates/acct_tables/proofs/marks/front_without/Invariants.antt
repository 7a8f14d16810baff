use Rattle.std.proofs.Common.{◌∷◌, map, take}
use Rattle.std.specs.Vec.{vec_items}
use Rattle.acct_tables.specs.Marks.{IsFrontWithout}
use Rattle.acct_tables.proofs.marks.front_without.Given as goal

-- the lines in front of the first that has one of the marks so far
abbrev pub invariant-others : goal.invariant-others
invariant-others l =
    IsFrontWithout
    (l.marks.first.now ∷ map vec_items (take l.mark-index l.marks.others.now)) l.text l.front
