-- How many of a list pass a test: one more (`count-more`, `push-meets`), those that become others (`count-becomes`,
-- `count-map`), those in another order (`count-sorted`), and those that pass a weaker test (`count-le`) or one of two
-- (`count-either`).
use Rattle.std.proofs.Common.{◌≡◌, ℕ, ◌+◌, ◌≤◌, max, subst, Bool, true, false, List, [], ◌∷◌, ◌++◌, map, refl, sym, ◌∙◌, ap, arith, inl, inr}
use Rattle.std.specs.Prelude.{◌⊎◌, cond, count_by, flat_map, nat_le, if◌then◌else◌}
use Rattle.std.specs.List.{AllByRecursion}
use Rattle.std.proofs.lemmas.Bool.{true≢false}
use Rattle.std.proofs.lemmas.List.Sums.{sum_by-append, sum_by-cons, sum_by_push}
use Rattle.account_model.specs.RecordEdits.{insert_record, sorted_records}

-- what one adds to a count is no more than what another does, where it passes only if the other does
pub cond-le : (one other : Bool) → (one ≡ true → other ≡ true) → cond one 1 0 ≤ cond other 1 0
cond-le true true also = omega arith
cond-le true false also = absurd (true≢false (sym (also refl)))
cond-le false other also = omega arith

-- and two of which at most one passes
pub cond-two :
    (one two other : Bool)
    → (one ≡ true → other ≡ true)
    → (two ≡ true → other ≡ true)
    → (one ≡ true → two ≡ true → ⊥)
    → cond one 1 0 + cond two 1 0 ≤ cond other 1 0
cond-two true true other also too apart = absurd (apart refl refl)
cond-two true false true also too apart = omega arith
cond-two true false false also too apart = absurd (true≢false (sym (also refl)))
cond-two false two other also too apart = let less = cond-le two other too in omega (arith, less)

-- what passes one of two tests
pub cond-either :
    (one two other : Bool)
    → (other ≡ true → (one ≡ true) ⊎ (two ≡ true))
    → cond other 1 0 ≤ cond one 1 0 + cond two 1 0
cond-either one two false either = omega arith
cond-either true two true either = omega arith
cond-either false true true either = omega arith
cond-either false false true either = elim (either refl) [
  | inl wrong ↦ absurd (true≢false (sym wrong))
  | inr wrong ↦ absurd (true≢false (sym wrong))
]

-- ---- One more

module _ {X : Type 0} (test : X → Bool) where
  -- the count of one more in front
  pub count-more :
      (x : X) (xs : List X) → count_by test (x ∷ xs) ≡ cond (test x) 1 0 + count_by test xs
  count-more x xs = sum_by-cons (λ y. cond (test y) 1 0) x xs

  -- and of one more at the end
  count-push :
      (xs : List X) (x : X)
      → count_by test (xs ++ x ∷ []) ≡ count_by test xs + cond (test x) 1 0
  count-push xs x = sum_by_push (λ y. cond (test y) 1 0) xs x

  -- two lists
  count-append :
      (xs ys : List X) → count_by test (xs ++ ys) ≡ count_by test xs + count_by test ys
  count-append xs ys = sum_by-append (λ y. cond (test y) 1 0) xs ys

  -- one more at the end, by whether it passes
  push-by :
      (xs : List X) (x : X) (passes : Bool)
      → test x ≡ passes
      → (test x ≡ true → count_by test xs ≡ 0)
      → count_by test xs + cond passes 1 0 ≤ max 1 (count_by test xs)
  push-by xs x true is none = let no = none is in omega (arith, no)
  push-by xs x false is none = omega arith

  -- one more that passes only where none does
  pub push-meets :
      (xs : List X) (x : X)
      → (test x ≡ true → count_by test xs ≡ 0)
      → count_by test (xs ++ x ∷ []) ≤ max 1 (count_by test xs)
  push-meets xs x none =
      omega (arith, count-push xs x, push-by xs x (test x) refl none)

  -- where each fails, none is counted
  pub count-none :
      (xs : List X) → AllByRecursion (λ x. test x ≡ false) xs → count_by test xs ≡ 0
  count-none [] all = refl
  count-none (x ∷ xs) all =
      count-more x xs ∙ ap (λ b. cond b 1 0 + count_by test xs) all.0
      ∙ zero-front (count_by test xs) ∙ count-none xs all.1
    where
      zero-front : (n : ℕ) → 0 + n ≡ n
      zero-front n = omega arith

  -- ---- Those that become others

  -- those that become others, none of which passes but one where it passed
  pub count-becomes :
      (f : X → List X)
      → ((x : X) → count_by test (f x) ≤ cond (test x) 1 0)
      → (xs : List X)
      → count_by test (flat_map f xs) ≤ count_by test xs
  count-becomes f few [] = omega arith
  count-becomes f few (x ∷ xs) =
      omega (
        arith,
        count-append (f x) (flat_map f xs),
        count-more x xs,
        few x,
        count-becomes f few xs,
      )

-- ---- Two tests

module _ {X : Type 0} (one other : X → Bool) where
  -- those that pass a weaker test
  pub count-le :
      (xs : List X)
      → AllByRecursion (λ x. one x ≡ true → other x ≡ true) xs
      → count_by one xs ≤ count_by other xs
  count-le [] all = omega arith
  count-le (x ∷ xs) all =
      omega (
        arith,
        count-more one x xs,
        count-more other x xs,
        cond-le (one x) (other x) all.0,
        count-le xs all.1,
      )

  -- those that pass one of two tests
  pub count-either :
      (either : X → Bool) (xs : List X)
      → ((x : X) → either x ≡ true → (one x ≡ true) ⊎ (other x ≡ true))
      → count_by either xs ≤ count_by one xs + count_by other xs
  count-either either [] follows = omega arith
  count-either either (x ∷ xs) follows =
      omega (
        arith,
        count-more one x xs,
        count-more other x xs,
        count-more either x xs,
        cond-either (one x) (other x) (either x) (follows x),
        count-either either xs follows,
      )

-- those that a function gives
pub count-map :
    {X : Type 0} (test : X → Bool) (f : X → X) (xs : List X)
    → count_by test (map f xs) ≡ count_by (λ x. test (f x)) xs
count-map test f [] = refl
count-map test f (x ∷ xs) =
    count-more test (f x) (map f xs)
    ∙ ap (λ n. cond (test (f x)) 1 0 + n) (count-map test f xs)
    ∙ sym (count-more (λ y. test (f y)) x xs)

-- ---- Those in another order

module _ {X : Type 0} (test : X → Bool) (key : X → ℕ) where
  -- one in its place or behind
  insert-by :
      (x y : X) (ys : List X) (first : Bool)
      → count_by test (insert_record key x ys) ≡ cond (test x) 1 0 + count_by test ys
      → count_by test (if first then x ∷ y ∷ ys else y ∷ insert_record key x ys)
      ≡ cond (test x) 1 0 + count_by test (y ∷ ys)
  insert-by x y ys true later = count-more test x (y ∷ ys)
  insert-by x y ys false later =
      omega (arith, later, count-more test y (insert_record key x ys), count-more test y ys)

  -- one in its place
  count-insert :
      (x : X) (xs : List X)
      → count_by test (insert_record key x xs) ≡ cond (test x) 1 0 + count_by test xs
  count-insert x [] = count-more test x []
  count-insert x (y ∷ ys) = insert-by x y ys (nat_le (key x) (key y)) (count-insert x ys)

  -- all in their places
  pub count-sorted : (xs : List X) → count_by test (sorted_records key xs) ≡ count_by test xs
  count-sorted [] = refl
  count-sorted (x ∷ xs) =
      count-insert x (sorted_records key xs)
      ∙ ap (λ n. cond (test x) 1 0 + n) (count-sorted xs)
      ∙ sym (count-more test x xs)

-- ---- One alone

-- behind one that passes none does
abbrev pub AtMostOne : {X : Type 0} → (X → Bool) → List X → Type 0
AtMostOne test [] = Unit {0}
AtMostOne test (x ∷ xs) =
    (test x ≡ true → AllByRecursion (λ y. test y ≡ false) xs) × AtMostOne test xs

module _ {X : Type 0} (test : X → Bool) where
  -- where none is counted, none passes
  none-by :
      (x : X) (xs : List X) (passes : Bool)
      → test x ≡ passes
      → cond passes 1 0 + count_by test xs ≡ 0
      → (test x ≡ false) × (count_by test xs ≡ 0)
  none-by x xs true is none = let some : 1 + count_by test xs
      ≡ 0 = none in absurd (omega (arith, some))
  none-by x xs false is none = let rest : 0 + count_by test xs
      ≡ 0 = none in (is, omega (arith, rest))

  none-passes : (xs : List X) → count_by test xs ≡ 0 → AllByRecursion (λ y. test y ≡ false) xs
  none-passes [] none = tt
  none-passes (x ∷ xs) none =
      let parts = none-by x xs (test x) refl (sym (count-more test x xs) ∙ none)
      in (parts.0, none-passes xs parts.1)

  -- where at most one is counted, at most one passes
  one-by :
      (x : X) (xs : List X) (passes : Bool)
      → test x ≡ passes
      → cond passes 1 0 + count_by test xs ≤ 1
      → (test x ≡ true → AllByRecursion (λ y. test y ≡ false) xs) × (count_by test xs ≤ 1)
  one-by x xs true is few =
      let one : 1 + count_by test xs ≤ 1 = few
      in ((λ passes. none-passes xs (omega (arith, one))), omega (arith, one))
  one-by x xs false is few =
      let rest : 0 + count_by test xs ≤ 1 = few
      in ((λ passes. absurd (true≢false (sym passes ∙ is))), omega (arith, rest))

  pub at-most-one : (xs : List X) → count_by test xs ≤ 1 → AtMostOne test xs
  at-most-one [] few = tt
  at-most-one (x ∷ xs) few =
      let parts = one-by x xs (test x) refl (subst (λ n. n ≤ 1) (count-more test x xs) few)
      in (parts.0, at-most-one xs parts.1)
