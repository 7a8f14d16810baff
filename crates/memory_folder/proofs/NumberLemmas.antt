-- Lists of lock numbers with one more and one less: which numbers stand in them, that they stay
-- ascending, and that they stay in their bounds.
use Rattle.std.proofs.Common.{◌≡◌, refl, sym, ◌∙◌, ap, subst, inl, inr, ℕ, ◌<◌, Bool, true, false, cond, not, ◌||◌, ◌&&◌, ◌==◌, nat_lt, List, [], ◌∷◌, All, arith, suc}
use Rattle.std.specs.List.{AllPairs}
use Rattle.std.proofs.lemmas.Bool.{cases_Bool, cond_both}
use Rattle.std.proofs.lemmas.Bool.Decides.{nat_tests, Decides-eqb}
use Rattle.std.proofs.lemmas.List.Elements.{All-cons, All-head, All-tail, All-from_get_or, All-weaker}
use Rattle.std.proofs.lemmas.List.Kept.{AllPairs-cons, AllPairs-filter}
use Rattle.acct_outside.specs.Folder.{has_number, with_number, without_number}

-- numbers that the test finds equal are equal
pub same_number : (n k : ℕ) → (n == k) ≡ true → n ≡ k
same_number n k is = (Decides-eqb n k).0 is

-- a number isn't both equal to another and apart from it
both : {a b : ℕ} {A : Type 0} → (a == b) ≡ false → a ≡ b → A
both {a} {b} apart same = absurd (cc (apart, (Decides-eqb a b).1 same))

-- three tests in another order
turn : (a b c : Bool) → (a || (b || c)) ≡ (b || (a || c))
turn true true c = refl
turn true false c = refl
turn false b c = refl

-- a test made twice
twice : (a b : Bool) → (a || b) ≡ (a || (a || b))
twice true b = refl
twice false b = refl

-- what stands in a list with a number more, by the two tests that put it in its place
has_with-tests : (m n k : ℕ) (ks : List ℕ) (below same : Bool)
    → (n == k) ≡ same
    → has_number m (with_number n ks) ≡ ((m == n) || has_number m ks)
    → has_number m (cond below (n ∷ k ∷ ks) (cond same (k ∷ ks) (k ∷ with_number n ks)))
    ≡ ((m == n) || ((m == k) || has_number m ks))
has_with-tests m n k ks true same is rest = refl
has_with-tests m n k ks false true is rest =
    rw (same_number n k is) (twice (m == k) (has_number m ks))
has_with-tests m n k ks false false is rest = rw rest (turn (m == k) (m == n) (has_number m ks))

-- a list with a number more has that one and those that it had
pub has_with : (m n : ℕ) (ks : List ℕ)
    → has_number m (with_number n ks) ≡ ((m == n) || has_number m ks)
has_with m n [] = refl
has_with m n (k ∷ ks) = has_with-tests m n k ks (nat_lt n k) (n == k) refl (has_with m n ks)

-- nothing is left of no numbers
no_numbers : (a : Bool) → (not a && false) ≡ false
no_numbers true = refl
no_numbers false = refl

-- what stands in a list without a number, by the tests of the number in front
has_without-tests : (m n k : ℕ) (ks : List ℕ) (dropped here gone : Bool)
    → (k == n) ≡ dropped → (m == k) ≡ here → (m == n) ≡ gone
    → has_number m (without_number n ks) ≡ (not (m == n) && has_number m ks)
    → has_number m (cond (not dropped) (k ∷ without_number n ks) (without_number n ks))
    ≡ (not gone && (here || has_number m ks))
has_without-tests m n k ks true true true p q r rest = rw rest (rw r refl)
has_without-tests m n k ks true true false p q r rest =
    both r (same_number m k q ∙ same_number k n p)
has_without-tests m n k ks true false gone p q r rest = rw rest (rw r refl)
has_without-tests m n k ks false true true p q r rest =
    both p (sym (same_number m k q) ∙ same_number m n r)
has_without-tests m n k ks false true false p q r rest = rw q refl
has_without-tests m n k ks false false gone p q r rest = rw q (rw rest (rw r refl))

-- a list without a number has the others that it had
pub has_without : (m n : ℕ) (ks : List ℕ)
    → has_number m (without_number n ks) ≡ (not (m == n) && has_number m ks)
has_without m n [] = sym (no_numbers (m == n))
has_without m n (k ∷ ks) =
    has_without-tests m n k ks (k == n) (m == k) (m == n) refl refl refl (has_without m n ks)

-- a list without a number that it doesn't have, by the tests of the number in front
without_absent-tests : (n k : ℕ) (ks : List ℕ) (dropped same rest : Bool)
    → (k == n) ≡ dropped → (n == k) ≡ same → (same || rest) ≡ false
    → (rest ≡ false → without_number n ks ≡ ks)
    → cond (not dropped) (k ∷ without_number n ks) (without_number n ks) ≡ k ∷ ks
without_absent-tests n k ks dropped true rest p q lacks before = absurd cc
without_absent-tests n k ks dropped false true p q lacks before = absurd cc
without_absent-tests n k ks true false false p q lacks before = both q (sym (same_number k n p))
without_absent-tests n k ks false false false p q lacks before =
    ap (λ (l : List ℕ). k ∷ l) (before refl)

-- a list without a number that it doesn't have is itself
pub without-absent : (n : ℕ) (ks : List ℕ)
    → has_number n ks ≡ false
    → without_number n ks ≡ ks
without-absent n [] lacks = refl
without-absent n (k ∷ ks) lacks =
    without_absent-tests n k ks (k == n) (n == k) (has_number n ks) refl refl lacks
    (without-absent n ks)

module _ (P : ℕ → Type 0) where
  -- what holds of the numbers and of one more holds of the list with it
  pub All-with : (n : ℕ) → P n → (ks : List ℕ) → All P ks → All P (with_number n ks)
  All-with n is [] all = All-cons P n [] is all
  All-with n is (k ∷ ks) all =
      let more : All P (n ∷ k ∷ ks) = All-cons P n (k ∷ ks) is all in
      let later : All P (k ∷ with_number n ks) =
      All-cons P k (with_number n ks) (All-head P k ks all)
      (All-with n is ks (All-tail P k ks all)) in
      cond_both (nat_lt n k) (n ∷ k ∷ ks) (cond (n == k) (k ∷ ks) (k ∷ with_number n ks)) (All P)
      (λ _. more)
      (λ _. cond_both (n == k) (k ∷ ks) (k ∷ with_number n ks) (All P) (λ _. all) (λ _. later))

-- what holds of each number of a list holds of one that stands in it
pub All-has : (P : ℕ → Type 0) (n : ℕ) (ks : List ℕ)
    → All P ks → has_number n ks ≡ true → P n
All-has P n [] all has = absurd cc
All-has P n (k ∷ ks) all has =
    elim (cases_Bool (n == k)) [
      | inl same ↦ subst P (sym (same_number n k same)) (All-head P k ks all)
      | inr apart ↦
          All-has P n ks (All-tail P k ks all)
          (sym (ap (λ (b : Bool). b || has_number n ks) apart) ∙ has)
    ]

-- the numbers ascend, each once
abbrev pub Ascends : List ℕ → Type 0
Ascends = AllPairs (λ k n. k < n)

-- the first of ascending numbers is below each later one
pub Ascends-head : (k : ℕ) (ks : List ℕ) → Ascends (k ∷ ks) → All (λ n. k < n) ks
Ascends-head k ks ascends =
    All-from_get_or (λ n. k < n) ks 0 (λ i low. ascends 0 (suc i) 0 (omega arith) (omega arith))

-- the later ones ascend
pub Ascends-tail : (k : ℕ) (ks : List ℕ) → Ascends (k ∷ ks) → Ascends ks
Ascends-tail k ks ascends = λ i j d low high. ascends (suc i) (suc j) d (omega arith) (omega arith)

-- a number put before ascending ones that are above it, or in its place among them
Ascends-tests : (n k : ℕ) (ks : List ℕ) (below same : Bool)
    → nat_lt n k ≡ below → (n == k) ≡ same
    → Ascends (k ∷ ks) → Ascends (with_number n ks)
    → Ascends (cond below (n ∷ k ∷ ks) (cond same (k ∷ ks) (k ∷ with_number n ks)))
Ascends-tests n k ks true same less is ascends rest =
    let under : n < k = grind (arith, nat_tests) in
    let all : All (λ m. n < m) ks =
    All-weaker (λ m. k < m) (λ m. n < m) (λ m above. omega arith) ks (Ascends-head k ks ascends) in
    AllPairs-cons (λ a b. a < b) n (k ∷ ks) (All-cons (λ m. n < m) k ks under all) ascends
Ascends-tests n k ks false true less is ascends rest = ascends
Ascends-tests n k ks false false less is ascends rest =
    let above : k < n = grind (arith, nat_tests) in
    AllPairs-cons (λ a b. a < b) k (with_number n ks)
    (All-with (λ m. k < m) n above ks (Ascends-head k ks ascends)) rest

-- ascending numbers with one more, in its place, ascend
pub Ascends-with : (n : ℕ) (ks : List ℕ) → Ascends ks → Ascends (with_number n ks)
Ascends-with n [] ascends = λ i j d low high. absurd (omega arith)
Ascends-with n (k ∷ ks) ascends =
    Ascends-tests n k ks (nat_lt n k) (n == k) refl refl ascends
    (Ascends-with n ks (Ascends-tail k ks ascends))

-- ascending numbers without one ascend
pub Ascends-without : (n : ℕ) (ks : List ℕ) → Ascends ks → Ascends (without_number n ks)
Ascends-without n ks ascends = AllPairs-filter (λ a b. a < b) (λ k. not (k == n)) ks ascends
