-- The used and the free IDs of a range: what stands among them, and that the least and the greatest free one are computed
-- (`least_free-is`, `greatest_free-is`).
use Rattle.std.proofs.Common.{◌≡◌, zero, suc, ℕ, ◌+◌, ◌-◌, ◌≤◌, Bool, true, false, ◌&&◌, not, List, ◌∷◌, map, refl, sym, subst, arith, inl, inr}
use Rattle.std.specs.Prelude.{Some, None, ◌⊎◌, Contains, filter, nat_le}
use Rattle.std.proofs.lemmas.Bool.{leb-true, le-leb, and_parts}
use Rattle.account_model.specs.Ids.{UsedIn, FreeIn, IsLeast, IsGreatest, in_range, is_used, free_of, least_free, greatest_free}
use Rattle.account_model.proofs.Sets.{In, contains-in, in-contains, in-used, used-in, in-filter, filter-in, in-map, least-in, least-below, least-none, greatest-in, greatest-above, greatest-none}

-- ---- Used and free IDs of a range

-- the used IDs of the range
abbrev pub used_in : ℕ → ℕ → List ℕ → List ℕ
used_in low high used = filter (in_range low high) used

-- an ID between the bounds passes the test
pub range-yes : (low high id : ℕ) → low ≤ id → id ≤ high → in_range low high id ≡ true
range-yes low high id above below = rw (le-leb low id above, le-leb id high below) refl

-- an ID that is used in the range stands among them
pub used-listed :
    (low high : ℕ) (used : List ℕ) (id : ℕ)
    → UsedIn low high used id
    → In id (used_in low high used)
used-listed low high used id is =
    in-filter (in_range low high) used id (contains-in used id is.taken)
    (range-yes low high id is.not_below is.not_above)

-- and what stands among them is used in the range
pub listed-used :
    (low high : ℕ) (used : List ℕ) (id : ℕ)
    → In id (used_in low high used)
    → UsedIn low high used id
listed-used low high used id listed =
    let kept = filter-in (in_range low high) used id listed
    in let bounds = and_parts (nat_le low id) (nat_le id high) kept.0
    in record {
      not_below = leb-true low id bounds.0;
      not_above = leb-true id high bounds.1;
      taken = in-contains used id kept.1;
    }

-- an ID that isn't used, by the test
pub not-used-by :
    (used : List ℕ) (id : ℕ)
    → (Contains used id → ⊥)
    → (b : Bool)
    → is_used used id ≡ b
    → is_used used id ≡ false
not-used-by used id free true e = absurd (free (in-contains used id (used-in used id e)))
not-used-by used id free false e = e

-- an ID that isn't used fails the test
pub not-used : (used : List ℕ) (id : ℕ) → (Contains used id → ⊥) → is_used used id ≡ false
not-used used id free = not-used-by used id free (is_used used id) refl

-- whether an ID of the range is free
abbrev pub is_free : ℕ → ℕ → List ℕ → ℕ → Bool
is_free low high used id = in_range low high id && not (is_used used id)

-- a free ID passes the test
pub free-yes :
    (low high : ℕ) (used : List ℕ) (id : ℕ)
    → FreeIn low high used id
    → is_free low high used id ≡ true
free-yes low high used id is =
    rw (range-yes low high id is.not_below is.not_above, not-used used id is.free) refl

-- what passes the test is free
pub free-is :
    (low high : ℕ) (used : List ℕ) (id : ℕ)
    → is_free low high used id ≡ true
    → FreeIn low high used id
free-is low high used id e =
    let parts = and_parts (in_range low high id) (not (is_used used id)) e
    in let bounds = and_parts (nat_le low id) (nat_le id high) parts.0
    in record {
      not_below = leb-true low id bounds.0;
      not_above = leb-true id high bounds.1;
      free = λ contains. let e : not true ≡ true =
          rw (in-used used id (contains-in used id contains)) at parts.1 in cc;
    }

-- whether a candidate is free, by the test
pub tells-by :
    (low high : ℕ) (used : List ℕ) (id : ℕ)
    → low ≤ id
    → id ≤ high
    → (b : Bool)
    → is_used used id ≡ b
    → In id used ⊎ FreeIn low high used id
tells-by low high used id above below true e = inl (used-in used id e)
tells-by low high used id above below false e =
    inr (free-is low high used id (rw (range-yes low high id above below, e) refl))

-- an ID of the range is used or free
pub tells :
    (low high : ℕ) (used : List ℕ) (id : ℕ)
    → low ≤ id
    → id ≤ high
    → In id used ⊎ FreeIn low high used id
tells low high used id above below = tells-by low high used id above below (is_used used id) refl

-- ---- The least and the greatest free ID

-- a free candidate stands among the free ones
pub free-listed :
    (low high : ℕ) (used ids : List ℕ) (id : ℕ)
    → FreeIn low high used id
    → In id ids
    → In id (free_of low high used ids)
free-listed low high used ids id free listed =
    in-filter (is_free low high used) ids id listed (free-yes low high used id free)

-- some candidate is free and not above a free ID that lies k above the minimum
pub candidate-below :
    (low high : ℕ) (used : List ℕ) (k id : ℕ) → id ≡ low + k → FreeIn low high used id
    → (c : ℕ) × (c ≤ id) × In c (free_of low high used (low ∷ map (λ used. used + 1) used))
candidate-below low high used zero id e free =
    let at : id ≡ low = omega (arith, e)
    in (
      id,
      omega arith,
      free-listed low high used
          (low ∷ map (λ used. used + 1) used) id free (inl at),
    )
candidate-below low high used (suc k) id e free =
    elim (tells low high used (low + k) (omega arith) (omega (arith, free.not_above, e))) [
      | inl taken ↦
          let next : id ≡ low + k + 1 = omega (arith, e)
          in (
            id,
            omega arith,
            free-listed low high used (low ∷ map (λ used. used + 1) used) id free
                (inr (subst (λ n. In n (map (λ used. used + 1) used)) (sym next)
                (in-map (λ used. used + 1) used (low + k) taken))),
          )
      | inr lower ↦
          let found = candidate-below low high used k (low + k) refl lower
          in (found.0, omega (arith, found.1, e), found.2)
    ]

-- below a free ID is a free candidate
pub candidate-above :
    (low high : ℕ) (used : List ℕ) (k id : ℕ)
    → id + k ≡ high
    → FreeIn low high used id
    → (c : ℕ) × (id ≤ c) × In c (free_of low high used (high ∷ map (λ used. used - 1) used))
candidate-above low high used zero id e free =
    let at : id ≡ high = omega (arith, e)
    in (
      id,
      omega arith,
      free-listed low high used
          (high ∷ map (λ used. used - 1) used) id free (inl at),
    )
candidate-above low high used (suc k) id e free =
    elim (tells low high used (id + 1) (omega (arith, free.not_below)) (omega (arith, e))) [
      | inl taken ↦
          let before : id ≡ id + 1 - 1 = omega arith
          in (
            id,
            omega arith,
            free-listed low high used (high ∷ map (λ used. used - 1) used) id free
                (inr (subst (λ n. In n (map (λ used. used - 1) used)) (sym before)
                (in-map (λ used. used - 1) used (id + 1) taken))),
          )
      | inr higher ↦
          let found = candidate-above low high used k (id + 1) (omega (arith, e)) higher
          in (found.0, omega (arith, found.1), found.2)
    ]

-- the least free ID is computed
pub least_free-is :
    (low high : ℕ) (used : List ℕ) (id : ℕ)
    → least_free low high used ≡ Some id
    → IsLeast (FreeIn low high used) id
least_free-is low high used id e = record {
  member = free-is low high used id (filter-in (is_free low high used)
      (low ∷ map (λ used. used + 1) used) id (least-in
      (free_of low high used (low ∷ map (λ used. used + 1) used)) id e)).0;
  least = λ other free.
      let found = candidate-below low high used (other - low) other
      (omega (arith, free.not_below)) free
      in let below : id ≤ found.0 = least-below
      (free_of low high used (low ∷ map (λ used. used + 1) used)) id found.0 e found.2
      in omega (arith, below, found.1);
}

-- and there is none where none is computed
pub least_free-none :
    (low high : ℕ) (used : List ℕ)
    → least_free low high used ≡ None
    → (id : ℕ)
    → FreeIn low high used id
    → ⊥
least_free-none low high used e id free =
    let found = candidate-below low high used (id - low) id (omega (arith, free.not_below)) free
    in least-none (free_of low high used (low ∷ map (λ used. used + 1) used)) found.0 e found.2

-- the greatest free ID is computed
pub greatest_free-is :
    (low high : ℕ) (used : List ℕ) (id : ℕ)
    → greatest_free low high used ≡ Some id
    → IsGreatest (FreeIn low high used) id
greatest_free-is low high used id e = record {
  member = free-is low high used id (filter-in (is_free low high used)
      (high ∷ map (λ used. used - 1) used) id (greatest-in
      (free_of low high used (high ∷ map (λ used. used - 1) used)) id e)).0;
  greatest = λ other free.
      let found = candidate-above low high used (high - other) other
      (omega (arith, free.not_above)) free
      in let above : found.0 ≤ id = greatest-above
      (free_of low high used (high ∷ map (λ used. used - 1) used)) id found.0 e found.2
      in omega (arith, above, found.1);
}

-- and there is none where none is computed
pub greatest_free-none :
    (low high : ℕ) (used : List ℕ)
    → greatest_free low high used ≡ None
    → (id : ℕ)
    → FreeIn low high used id
    → ⊥
greatest_free-none low high used e id free =
    let found = candidate-above low high used (high - id) id (omega (arith, free.not_above)) free
    in greatest-none (free_of low high used (high ∷ map (λ used. used - 1) used)) found.0 e found.2
