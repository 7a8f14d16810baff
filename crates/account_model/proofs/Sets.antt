-- Members of lists of numbers, and the least and the greatest of them.
use Rattle.std.proofs.Common.{◌≡◌, zero, suc, ℕ, ◌<◌, ◌≤◌, Bool, true, false, cond, List, [], ◌∷◌, length, map, refl, sym, ◌∙◌, ap, subst, arith, inl, inr, lt_irrefl, eqb}
use Rattle.std.specs.Prelude.{Some, None, ◌⊎◌, Contains, filter, min, max, fold, slice_index_or}
use Rattle.std.proofs.Math.Bool.{or-true}
use Rattle.std.proofs.lemmas.Bool.{eq-eqb, cases_lt}
use Rattle.std.proofs.lemmas.Bool.Decides.{eqb_tells}
use Rattle.account_model.specs.Ids.{least_of, greatest_of, is_used}
use Rattle.acct_text.proofs.NumberLaws.{some-inj}

-- an ID stands in a list
abbrev pub In : ℕ → List ℕ → Type 0
In x [] = ⊥
In x (y ∷ ys) = (x ≡ y) ⊎ In x ys

-- it stands at a place
contains-at : (xs : List ℕ) (x k : ℕ) → k < length xs → slice_index_or xs k x ≡ x → In x xs
contains-at [] x k below is = absurd (lt_irrefl 0 (omega (arith, below)))
contains-at (y ∷ ys) x zero below is = inl (sym is)
contains-at (y ∷ ys) x (suc k) below is = inr (contains-at ys x k (omega (arith, below)) is)

-- what a list contains stands in it
pub contains-in : (xs : List ℕ) (x : ℕ) → Contains xs x → In x xs
contains-in xs x contains = contains-at xs x contains.0 contains.1 contains.2

-- and what stands in it is contained
pub in-contains : (xs : List ℕ) (x : ℕ) → In x xs → Contains xs x
in-contains [] x is = absurd is
in-contains (y ∷ ys) x (inl is) = (0, omega arith, sym is)
in-contains (y ∷ ys) x (inr is) =
    let rest = in-contains ys x is in (suc rest.0, omega (arith, rest.1), rest.2)

-- what stands among used IDs passes the test
pub in-used : (xs : List ℕ) (x : ℕ) → In x xs → is_used xs x ≡ true
in-used [] x is = absurd is
in-used (y ∷ ys) x (inl is) = rw (eq-eqb y x (sym is)) refl
in-used (y ∷ ys) x (inr is) = rw (in-used ys x is) (or-true (eqb y x))

-- and what passes the test stands among them
pub used-in : (xs : List ℕ) (x : ℕ) → is_used xs x ≡ true → In x xs
used-in [] x e = cc
used-in (y ∷ ys) x e = elim (eqb_tells y x) [
  | inl at ↦ inl (sym at.1)
  | inr past ↦ inr (used-in ys x (rw past.0 at e))
]

-- ---- Filters and maps

-- behind one more
in-more : (keep : Bool) (y : ℕ) (ys : List ℕ) (x : ℕ) → In x ys → In x (cond keep (y ∷ ys) ys)
in-more true y ys x is = inr is
in-more false y ys x is = is

-- what passes a test stands among those that do
pub in-filter :
    (test : ℕ → Bool) (xs : List ℕ) (x : ℕ)
    → In x xs
    → test x ≡ true
    → In x (filter test xs)
in-filter test [] x is passes = absurd is
in-filter test (y ∷ ys) x (inl is) passes = rw (ap test (sym is) ∙ passes) (inl is)
in-filter test (y ∷ ys) x (inr is) passes =
    in-more (test y) y (filter test ys) x (in-filter test ys x is passes)

-- what stands among those that pass stood before
in-kept :
    (keep : Bool) (y : ℕ) (ys : List ℕ) (x : ℕ)
    → In x (cond keep (y ∷ ys) ys)
    → ((x ≡ y) × (keep ≡ true)) ⊎ In x ys
in-kept true y ys x (inl is) = inl (is, refl)
in-kept true y ys x (inr is) = inr is
in-kept false y ys x is = inr is

-- and it passes
pub filter-in :
    (test : ℕ → Bool) (xs : List ℕ) (x : ℕ)
    → In x (filter test xs)
    → (test x ≡ true) × In x xs
filter-in test [] x is = absurd is
filter-in test (y ∷ ys) x is = elim (in-kept (test y) y (filter test ys) x is) [
  | inl first ↦ (ap test first.0 ∙ first.1, inl first.0)
  | inr later ↦ let rest = filter-in test ys x later in (rest.0, inr rest.1)
]

-- what a function gives of a member stands among what it gives
pub in-map : (f : ℕ → ℕ) (xs : List ℕ) (x : ℕ) → In x xs → In (f x) (map f xs)
in-map f [] x is = absurd is
in-map f (y ∷ ys) x (inl is) = inl (ap f is)
in-map f (y ∷ ys) x (inr is) = inr (in-map f ys x is)

-- ---- The least and the greatest

-- the least from a start on is one of them
fold-min-in : (a : ℕ) (xs : List ℕ) → In (fold min a xs) (a ∷ xs)
fold-min-in a [] = inl refl
fold-min-in a (x ∷ xs) = elim (fold-min-in (min a x) xs) [
  | inl is ↦ elim (cases_lt x a) [
    | inl less ↦ inr (inl (is ∙ omega (arith, less)))
    | inr more ↦ inl (is ∙ omega (arith, more))
  ]
  | inr later ↦ inr (inr later)
]

-- and none is less
fold-min-below : (a : ℕ) (xs : List ℕ) (m : ℕ) → In m (a ∷ xs) → fold min a xs ≤ m
fold-min-below a [] m (inl is) = omega (arith, is)
fold-min-below a [] m (inr is) = absurd is
fold-min-below a (x ∷ xs) m (inl is) = let b : fold min (min a x) xs ≤ min a x =
    fold-min-below (min a x) xs (min a x) (inl refl) in omega (arith, b, is)
fold-min-below a (x ∷ xs) m (inr (inl is)) = let b : fold min (min a x) xs ≤ min a x =
    fold-min-below (min a x) xs (min a x) (inl refl) in omega (arith, b, is)
fold-min-below a (x ∷ xs) m (inr (inr is)) = fold-min-below (min a x) xs m (inr is)

-- the greatest from a start on is one of them
fold-max-in : (a : ℕ) (xs : List ℕ) → In (fold max a xs) (a ∷ xs)
fold-max-in a [] = inl refl
fold-max-in a (x ∷ xs) = elim (fold-max-in (max a x) xs) [
  | inl is ↦ elim (cases_lt x a) [
    | inl less ↦ inl (is ∙ omega (arith, less))
    | inr more ↦ inr (inl (is ∙ omega (arith, more)))
  ]
  | inr later ↦ inr (inr later)
]

-- and none is greater
fold-max-above : (a : ℕ) (xs : List ℕ) (m : ℕ) → In m (a ∷ xs) → m ≤ fold max a xs
fold-max-above a [] m (inl is) = omega (arith, is)
fold-max-above a [] m (inr is) = absurd is
fold-max-above a (x ∷ xs) m (inl is) = let b : max a x ≤ fold max (max a x) xs =
    fold-max-above (max a x) xs (max a x) (inl refl) in omega (arith, b, is)
fold-max-above a (x ∷ xs) m (inr (inl is)) = let b : max a x ≤ fold max (max a x) xs =
    fold-max-above (max a x) xs (max a x) (inl refl) in omega (arith, b, is)
fold-max-above a (x ∷ xs) m (inr (inr is)) = fold-max-above (max a x) xs m (inr is)

-- the least is one of them
pub least-in : (xs : List ℕ) (n : ℕ) → least_of xs ≡ Some n → In n xs
least-in [] n e = cc
least-in (x ∷ xs) n e = subst (λ m. In m (x ∷ xs)) (some-inj e) (fold-min-in x xs)

-- and none is less
pub least-below : (xs : List ℕ) (n m : ℕ) → least_of xs ≡ Some n → In m xs → n ≤ m
least-below [] n m e is = cc
least-below (x ∷ xs) n m e is = subst (λ k. k ≤ m) (some-inj e) (fold-min-below x xs m is)

-- there is a least where there is any
pub least-none : (xs : List ℕ) (m : ℕ) → least_of xs ≡ None → In m xs → ⊥
least-none [] m e is = is
least-none (x ∷ xs) m e is = cc

-- the greatest is one of them
pub greatest-in : (xs : List ℕ) (n : ℕ) → greatest_of xs ≡ Some n → In n xs
greatest-in [] n e = cc
greatest-in (x ∷ xs) n e = subst (λ m. In m (x ∷ xs)) (some-inj e) (fold-max-in x xs)

-- and none is greater
pub greatest-above : (xs : List ℕ) (n m : ℕ) → greatest_of xs ≡ Some n → In m xs → m ≤ n
greatest-above [] n m e is = cc
greatest-above (x ∷ xs) n m e is = subst (λ k. m ≤ k) (some-inj e) (fold-max-above x xs m is)

-- there is a greatest where there is any
pub greatest-none : (xs : List ℕ) (m : ℕ) → greatest_of xs ≡ None → In m xs → ⊥
greatest-none [] m e is = is
greatest-none (x ∷ xs) m e is = cc
