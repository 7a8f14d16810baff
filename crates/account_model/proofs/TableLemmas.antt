-- A search in a table of rows is the search in what the rows say (`find-map`, `position-map`).
use Rattle.std.proofs.Common.{◌≡◌, ◌+◌, Bool, List, [], ◌∷◌, map, find, position, option_map, refl, ap, inl, inr}
use Rattle.std.specs.List.{position_or_len}
use Rattle.std.proofs.lemmas.Bool.{cases_Bool}
use Rattle.std.proofs.lemmas.List.{length-map}

-- the first of the mapped that passes is the map of the first that does
pub find-map :
    {X Y : Type 0} (f : X → Y) (test : Y → Bool) (xs : List X)
    → find test (map f xs) ≡ option_map f (find (λ x. test (f x)) xs)
find-map f test [] = refl
find-map f test (x ∷ xs) = elim (cases_Bool (test (f x))) [
  | inl passes ↦ rw passes refl
  | inr fails ↦ rw fails (find-map f test xs)
]

-- mapping moves no place
pub position_or_len-map :
    {X Y : Type 0} (f : X → Y) (test : Y → Bool) (xs : List X)
    → position_or_len test (map f xs) ≡ position_or_len (λ x. test (f x)) xs
position_or_len-map f test [] = refl
position_or_len-map f test (x ∷ xs) = elim (cases_Bool (test (f x))) [
  | inl passes ↦ rw passes refl
  | inr fails ↦ rw fails (ap (λ n. 1 + n) (position_or_len-map f test xs))
]

-- the place of the first of the mapped that passes
pub position-map :
    {X Y : Type 0} (f : X → Y) (test : Y → Bool) (xs : List X)
    → position test (map f xs) ≡ position (λ x. test (f x)) xs
position-map f test xs =
    rw (position_or_len-map f test xs, length-map xs f) refl
