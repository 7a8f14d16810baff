use Rattle.std.proofs.Common.{◌≡◌, ◌∷◌, take}
use Rattle.std.specs.List.{join_with_byte}
use Rattle.acct_text.proofs.cuts.join.Given as goal

-- the text has the first part and those that were gone over
abbrev pub invariant-loop-part : goal.invariant-loop-part
invariant-loop-part l =
    l.text ≡ join_with_byte l.separator (l.initial.text ∷ take l.part-index l.rest)
