-- Claim: a name behind others is kept exactly where it isn't among those that are kept
-- (`distinct-more`). Way: by recursion on the names before it; to leave the first of them out of
-- the others takes no other name from the list (`listed-kept`).
use Rattle.std.proofs.Common.{◌≡◌, ℕ, ◌+◌, ◌<◌, length, take, get_or, Bool, true, false, not, List, [], ◌∷◌, ◌++◌, refl, sym, ap, ◌∙◌, inl, inr}
use Rattle.std.specs.Prelude.{filter, bytes_eq, ◌||◌, if◌then◌else◌}
use Rattle.std.proofs.lemmas.Bool.{cases_Bool}
use Rattle.std.proofs.lemmas.List.{append-nil, take_more}
use Rattle.std.proofs.lemmas.List.Elements.{filter-append}
use Rattle.std.proofs.lemmas.Slice.Eq.{bytes_eq-Decides}
use Rattle.account_model.specs.Text.{is_listed, distinct}

-- the names without this one
abbrev others : List ℕ → List (List ℕ) → List (List ℕ)
others first names = filter (λ other. not (bytes_eq first other)) names

-- two names are equal in either order
bytes_eq-turned : (a b : List ℕ) → bytes_eq a b ≡ bytes_eq b a
bytes_eq-turned a b = elim (cases_Bool (bytes_eq a b)) [
  | inl same ↦
      let turned : b ≡ a = sym ((bytes_eq-Decides a b).0 same) in
      same ∙ sym ((bytes_eq-Decides b a).1 turned)
  | inr other ↦ elim (cases_Bool (bytes_eq b a)) [
    | inl same ↦
        let turned : a ≡ b = sym ((bytes_eq-Decides b a).0 same) in
        let wrong : false ≡ true = sym other ∙ (bytes_eq-Decides a b).1 turned in absurd (cc)
    | inr different ↦ other ∙ sym different
  ]
]

-- another name stays listed
listed-kept :
    (name first : List ℕ) (names : List (List ℕ))
    → bytes_eq name first ≡ false
    → is_listed name (others first names) ≡ is_listed name names
listed-kept name first [] other = refl
listed-kept name first (next ∷ names) other = elim (cases_Bool (bytes_eq first next)) [
  | inl same ↦
      let not_next : bytes_eq name next ≡ false =
      ap (bytes_eq name) (sym ((bytes_eq-Decides first next).0 same)) ∙ other in
      rw (same, not_next) (listed-kept name first names other)
  | inr different ↦
      rw different (ap (λ rest. bytes_eq name next || rest) (listed-kept name first names other))
]

-- the names with one more, by whether it is listed
abbrev pub with_more : Bool → List ℕ → List (List ℕ) → List (List ℕ)
with_more listed name names = if listed then names else names ++ name ∷ []

-- the first name before those that are kept of the others and of one more
kept-more :
    (first name : List ℕ) (names : List (List ℕ)) (listed same : Bool)
    → bytes_eq first name ≡ same
    → first ∷ others first (with_more listed name names)
    ≡ with_more (same || listed) name (first ∷ others first names)
kept-more first name names true true is = refl
kept-more first name names true false is = refl
kept-more first name names false true is =
    ap (λ names. first ∷ names)
    (filter-append (λ other. not (bytes_eq first other)) names (name ∷ [])
    ∙ rw is (append-nil (others first names)))
kept-more first name names false false is =
    ap (λ names. first ∷ names)
    (filter-append (λ other. not (bytes_eq first other)) names (name ∷ []) ∙ rw is refl)

-- whether a name is the first or is listed behind it
listed-more :
    (first name : List ℕ) (names : List (List ℕ))
    → (bytes_eq first name || is_listed name names)
    ≡ is_listed name (first ∷ others first names)
listed-more first name names = elim (cases_Bool (bytes_eq name first)) [
  | inl same ↦ rw (bytes_eq-turned first name, same) refl
  | inr other ↦
      rw (bytes_eq-turned first name, other) (sym (listed-kept name first names other))
]

-- of equal names the first is kept, with one more name behind them
pub distinct-more :
    (name : List ℕ) (names : List (List ℕ))
    → distinct (names ++ name ∷ [])
    ≡ with_more (is_listed name (distinct names)) name (distinct names)
distinct-more name [] = refl
distinct-more name (first ∷ names) =
    let kept = distinct names in
    ap (λ more. first ∷ others first more) (distinct-more name names)
    ∙ kept-more first name kept (is_listed name kept) (bytes_eq first name) refl
    ∙ ap (λ listed. with_more listed name (first ∷ others first kept)) (listed-more first name kept)

-- the same of the names up to a place, and of the name there
pub distinct-next :
    (names : List (List ℕ)) (place : ℕ) (name : List ℕ) (kept : List (List ℕ))
    → place < length names
    → name ≡ get_or names place name
    → kept ≡ distinct (take place names)
    → with_more (is_listed name kept) name kept ≡ distinct (take (place + 1) names)
distinct-next names place name kept inside is kept_is =
    let next : take (place + 1) names ≡ take place names ++ name ∷ [] =
    take_more names place name inside ∙ ap (λ name. take place names ++ name ∷ []) (sym is) in
    ap (λ kept. with_more (is_listed name kept) name kept) kept_is
    ∙ sym (distinct-more name (take place names)) ∙ ap distinct (sym next)
