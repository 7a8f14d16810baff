-- Claim: one of a list passes a test exactly where one is found that does (`is_some-find`).
use Rattle.std.proofs.Common.{◌≡◌, Bool, List, [], ◌∷◌, refl, inl, inr}
use Rattle.std.specs.Prelude.{is_some, find}
use Rattle.std.specs.List.{list_any}
use Rattle.std.proofs.lemmas.Bool.{cases_Bool}

-- one is found exactly where one passes
pub is_some-find :
    {X : Type 0} (test : X → Bool) (xs : List X) → list_any test xs ≡ is_some (find test xs)
is_some-find test [] = refl
is_some-find test (x ∷ xs) = elim (cases_Bool (test x)) [
  | inl passes ↦ rw passes refl
  | inr fails ↦ rw fails (is_some-find test xs)
]
