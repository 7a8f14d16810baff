-- What is found among the items of a list as they are seen (`position-map`).
use Rattle.std.proofs.Common.{◌≡◌, ℕ, ◌+◌, ◌<◌, Bool, List, [], ◌∷◌, ◌++◌, get_or, length, map, take, refl, ◌∙◌, ap, append-nil, inl, inr}
use Rattle.std.specs.Prelude.{Option, None, Some, flat_map, filter_map, position, not}
use Rattle.std.specs.Option.{option_to_list}
use Rattle.std.specs.List.{cons_option, prefix_len}
use Rattle.std.proofs.lemmas.Bool.{cases_Bool}
use Rattle.std.proofs.lemmas.List.{length-map, map-append, take_more}
use Rattle.std.proofs.lemmas.List.Elements.{filter_map-append}
use Rattle.std.proofs.lemmas.Grind.{flat_map-append}

module _ {X Y : Type 0} (see : X → Y) where
  -- a front of items that pass is as long
  prefix_len-map :
      (test : Y → Bool) (xs : List X)
      → prefix_len test (map see xs) ≡ prefix_len (λ x. test (see x)) xs
  prefix_len-map test [] = refl
  prefix_len-map test (x ∷ xs) = elim (cases_Bool (test (see x))) [
    | inl passes ↦ rw passes (ap (λ n. 1 + n) (prefix_len-map test xs))
    | inr fails ↦ rw fails refl
  ]

  -- the first that passes is at the same place
  pub position-map :
      (test : Y → Bool) (xs : List X)
      → position test (map see xs) ≡ position (λ x. test (see x)) xs
  position-map test xs = rw (prefix_len-map (λ y. not (test y)) xs, length-map xs see) refl

-- the texts of seen items, one item more
pub texts-more :
    {X Y A : Type 0} (text : Y → List A) (see : X → Y) (xs : List X) (at : ℕ) (x : X)
    → at < length xs
    → flat_map text (map see (take (at + 1) xs))
    ≡ flat_map text (map see (take at xs)) ++ text (see (get_or xs at x))
texts-more text see xs at x below =
    ap (λ items. flat_map text (map see items)) (take_more xs at x below)
    ∙ ap (flat_map text) (map-append see (take at xs) (get_or xs at x ∷ []))
    ∙ flat_map-append text (map see (take at xs)) (see (get_or xs at x) ∷ [])
    ∙ ap (λ last. flat_map text (map see (take at xs)) ++ last)
    (append-nil (text (see (get_or xs at x))))

-- what is given of one item
given-one :
    {X Y : Type 0} (give : X → Option Y) (x : X)
    → filter_map give (x ∷ []) ≡ option_to_list (give x)
given-one {Y = Y} give x = by_value (give x)
  where
    by_value : (given : Option Y) → cons_option given [] ≡ option_to_list given
    by_value None = refl
    by_value (Some y) = refl

-- what is given of items, one item more
pub filter_map-more :
    {X Y : Type 0} (give : X → Option Y) (xs : List X) (at : ℕ) (x : X)
    → at < length xs
    → filter_map give (take (at + 1) xs)
    ≡ filter_map give (take at xs) ++ option_to_list (give (get_or xs at x))
filter_map-more give xs at x below =
    ap (filter_map give) (take_more xs at x below)
    ∙ filter_map-append give (take at xs) (get_or xs at x ∷ [])
    ∙ ap (λ last. filter_map give (take at xs) ++ last) (given-one give (get_or xs at x))
