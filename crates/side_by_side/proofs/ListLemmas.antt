-- Claim: which lists are left behind a place (`behind-list`). Way: what is left there is a list, and the
-- lists behind its first are those at the next place.
use Rattle.std.proofs.Common.{◌≡◌, refl, sym, ◌∙◌, ℕ, ◌+◌, List, [], ◌∷◌, drop}
use Rattle.std.specs.Global.{Vec}
use Rattle.std.proofs.lemmas.List.{drop-drop}
use Rattle.side_by_side.specs.declared.step.Step.{Step}
use Rattle.side_by_side.specs.Lists.{lists_behind}

-- the lists behind the first
drop-first : (lists : List (Vec Step)) → drop 1 lists ≡ lists_behind lists
drop-first [] = refl
drop-first (list ∷ lists) = refl

-- the claim
pub behind-list : (lists : List (Vec Step)) (place : ℕ) →
    drop (place + 1) lists ≡ lists_behind (drop place lists)
behind-list lists place = sym (drop-drop 1 place lists) ∙ drop-first (drop place lists)
