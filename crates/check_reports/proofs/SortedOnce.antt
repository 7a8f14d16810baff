-- Claim: what std's stable sort makes of records is their order by insertion (`sorted-once`). Way:
-- their keys ascend (`keys-rise`), and those of each key tie (`tie-is`), so they keep their order.
use Rattle.std.proofs.Common.{◌≡◌, ◌∙◌, ℕ, ◌<◌, ◌≤◌, ◌==◌, Bool, true, false, List, [], ◌∷◌, length, map, get_or, suc, inl, inr, refl, sym, ap, arith}
use Rattle.std.specs.Prelude.{◌&&◌, cond, filter, not, nat_lt}
use Rattle.std.specs.List.{AllByRecursion}
use Rattle.std.specs.List.Sorted.{IsNonDecreasingBy, IsStableByKey, ties}
use Rattle.std.specs.Ordering.{is_lt, nat_cmp}
use Rattle.std.proofs.lemmas.Bool.{cases_Bool, eq-eqb, ltb-false, ltb-true, ne_eqb}
use Rattle.account_model.specs.Edits as model
use Rattle.check_reports.specs.declared.sorting.Keyed.{Keyed}
use Rattle.check_reports.specs.Sorted.{seen_keyed}
use Rattle.check_reports.proofs.SortLemmas.{Rises, has_key, one-order, sorting-keeps, sorting-rises}

-- ---- What is seen

module _ {X Y : Type 0} (seen : X → Y) (test : Y → Bool) where
  -- by whether the first passes
  front-filter :
      (passes : Bool) (x : X) (kept : List X) (rest : List Y)
      → map seen kept ≡ rest
      → map seen (cond passes (x ∷ kept) kept) ≡ cond passes (seen x ∷ rest) rest
  front-filter true x kept rest later = ap (λ rest. seen x ∷ rest) later
  front-filter false x kept rest later = later

  -- what passes a test of what is seen
  seen-filter :
      (xs : List X) → map seen (filter (λ x. test (seen x)) xs) ≡ filter test (map seen xs)
  seen-filter [] = refl
  seen-filter (x ∷ xs) =
      front-filter (test (seen x)) x (filter (λ x. test (seen x)) xs) (filter test (map seen xs))
      (seen-filter xs)

-- ---- The order

-- two keys tie where they are equal
tie-is : (a b : ℕ) → (not (is_lt (nat_cmp a b)) && not (is_lt (nat_cmp b a))) ≡ (b == a)
tie-is a b = elim (cases_Bool (nat_lt a b)) [
  | inl below ↦ rw (below, ne_eqb b a (λ same. omega (arith, same, ltb-true a b below))) refl
  | inr not_below ↦ elim (cases_Bool (nat_lt b a)) [
    | inl above ↦
        rw (
          not_below,
          above,
          ne_eqb a b (λ same. omega (arith, same, ltb-true b a above)),
          ne_eqb b a (λ same. omega (arith, same, ltb-true b a above)),
        ) refl
    | inr not_above ↦
        let same : a ≡ b = omega (arith, ltb-false a b not_below, ltb-false b a not_above) in
        rw (not_below, not_above, eq-eqb a b same, eq-eqb b a (sym same)) refl
  ]
]

-- the keys of records that aren't less than one
keys-above :
    (low : ℕ) (rest : List Keyed)
    → ((j : ℕ) (d : Keyed) → j < length rest → low ≤ (get_or rest j d).key)
    → AllByRecursion (λ later. low ≤ later.key) (map seen_keyed rest)
keys-above low [] above = tt
keys-above low (p ∷ rest) above = (
  above 0 p (omega arith),
  keys-above low rest
      (λ j d inside. above (suc j) d (omega (arith, inside))),
)

-- keys that don't fall ascend
keys-rise : (keyed : List Keyed) → IsNonDecreasingBy (λ p. p.key) keyed
    → Rises (map seen_keyed keyed)
keys-rise [] up = tt
keys-rise (p ∷ rest) up = (
  keys-above p.key rest (λ j d inside. up 0 (suc j) d (omega arith) (omega (arith, inside))),
  keys-rise rest
      (λ i j d below inside. up (suc i) (suc j) d (omega (arith, below)) (omega (arith, inside))),
)

module _ (old new : List Keyed) where
  -- the records of a key stand in their order
  key-stays :
      IsStableByKey (λ p. p.key) nat_cmp old new
      → (key : ℕ)
      → filter (λ p. has_key key (seen_keyed p)) new
      ≡ filter (λ p. has_key key (seen_keyed p)) old
  key-stays stable key =
      let test_is : ties (λ (x y : Keyed). is_lt (nat_cmp x.key y.key))
      (record { key = key; text = record { ref_ptr = (0, 0); now = [] } })
      ≡ (λ p. has_key key (seen_keyed p)) = λ i p. tie-is key p.key i in
      ap (λ test. filter test new) (sym test_is)
      ∙ stable (record { key = key; text = record { ref_ptr = (0, 0); now = [] } })
      ∙ ap (λ test. filter test old) test_is

  -- so there is one order
  pub sorted-once :
      IsNonDecreasingBy (λ p. p.key) new
      → IsStableByKey (λ p. p.key) nat_cmp old new
      → map seen_keyed new ≡ model.sorted_by_key (map seen_keyed old)
  sorted-once up stable =
      one-order (map seen_keyed new) (model.sorted_by_key (map seen_keyed old))
      (keys-rise new up) (sorting-rises (map seen_keyed old))
      (λ key. sym (seen-filter seen_keyed (has_key key) new)
      ∙ ap (map seen_keyed) (key-stays stable key)
      ∙ seen-filter seen_keyed (has_key key) old
      ∙ sym (sorting-keeps (map seen_keyed old) key))
