-- Lists of lock numbers: what one number more or less does to the greatest (`greatest-with`,
-- `greatest-without`), to the numbers that stand (`has-with`, `has-without`) and to their order and
-- bounds (`with-ascends`, `with-bounds`).
use Rattle.std.proofs.Common.{◌≡◌, ◌≢◌, refl, sym, ◌∙◌, ℕ, suc, ◌<◌, ◌≤◌, max, Bool, true, false, cond, not, ◌||◌, ◌&&◌, ◌==◌, nat_lt, List, [], ◌∷◌, All, AllPairs, arith, true≢false}
use Rattle.std.proofs.lemmas.Bool.Decides.{nat_tests, Decides-eqb}
use Rattle.std.proofs.lemmas.List.Elements.{All-nil, All-cons, All-head, All-tail}
use Rattle.std.proofs.lemmas.List.Kept.{AllPairs-cons}
use Rattle.acct_outside.specs.Folder.{has_number, greatest, with_number, without_number}

-- equal by the test, so equal
pub number-is : (number other : ℕ) → (number == other) ≡ true → number ≡ other
number-is number other is = (Decides-eqb number other).0 is

-- a number is equal to itself by the test
pub number-same : (number : ℕ) → (number == number) ≡ true
number-same number = (Decides-eqb number number).1 refl

-- different by the test, so different
pub number-differs : (number other : ℕ) → (number == other) ≡ false → number ≢ other
number-differs number other is same = true≢false (sym ((Decides-eqb number other).1 same) ∙ is)

-- the greatest with a number more
pub greatest-with : (number : ℕ) (numbers : List ℕ) →
    greatest (with_number number numbers) ≡ max number (greatest numbers)
greatest-with number [] = refl
greatest-with number (head ∷ numbers) =
    cases (greatest-with number numbers) (nat_lt number head) (number == head) refl refl
  where
    cases : greatest (with_number number numbers) ≡ max number (greatest numbers) →
        (less same : Bool) → nat_lt number head ≡ less → (number == head) ≡ same →
        greatest (cond less (number ∷ head ∷ numbers)
        (cond same (head ∷ numbers) (head ∷ with_number number numbers)))
        ≡ max number (max head (greatest numbers))
    cases rest true same is_less is_same = refl
    cases rest false true is_less is_same =
        let equal = number-is number head is_same in omega arith
    cases rest false false is_less is_same = rw rest (omega arith)

-- a number less doesn't raise the greatest
without-most : (number : ℕ) (numbers : List ℕ) →
    greatest (without_number number numbers) ≤ greatest numbers
without-most number [] = omega arith
without-most number (head ∷ numbers) = cases (without-most number numbers) (head == number)
  where
    cases : greatest (without_number number numbers) ≤ greatest numbers → (same : Bool) →
        greatest (cond (not same) (head ∷ without_number number numbers)
        (without_number number numbers))
        ≤ max head (greatest numbers)
    cases rest true = omega arith
    cases rest false = omega arith

-- the greatest is the number that was taken, or at most the greatest of the others
without-least : (number : ℕ) (numbers : List ℕ) →
    greatest numbers ≤ max number (greatest (without_number number numbers))
without-least number [] = omega arith
without-least number (head ∷ numbers) =
    cases (without-least number numbers) (head == number) refl
  where
    cases : greatest numbers ≤ max number (greatest (without_number number numbers)) →
        (same : Bool) → (head == number) ≡ same →
        max head (greatest numbers)
        ≤ max number (greatest
        (cond (not same) (head ∷ without_number number numbers) (without_number number numbers)))
    cases rest true is_same = let equal = number-is head number is_same in omega arith
    cases rest false is_same = omega arith

-- a removal below the greatest leaves the greatest
pub greatest-without : (number : ℕ) (numbers : List ℕ) → number < greatest numbers →
    greatest (without_number number numbers) ≡ greatest numbers
greatest-without number numbers below =
    let most = without-most number numbers in
    let least = without-least number numbers in
    omega arith

-- the numbers that stand with one more
pub has-with : (asked number : ℕ) (numbers : List ℕ) →
    has_number asked (with_number number numbers) ≡ ((asked == number) || has_number asked numbers)
has-with asked number [] = refl
has-with asked number (head ∷ numbers) =
    cases (has-with asked number numbers) (nat_lt number head) (number == head) refl refl
  where
    turned : (one two three : Bool) → (one || (two || three)) ≡ (two || (one || three))
    turned true true three = refl
    turned true false three = refl
    turned false two three = refl

    twice : (one two : Bool) → (one || two) ≡ (one || (one || two))
    twice true two = refl
    twice false two = refl

    cases : has_number asked (with_number number numbers)
        ≡ ((asked == number) || has_number asked numbers) →
        (less same : Bool) → nat_lt number head ≡ less → (number == head) ≡ same →
        has_number asked (cond less (number ∷ head ∷ numbers)
        (cond same (head ∷ numbers) (head ∷ with_number number numbers)))
        ≡ ((asked == number) || ((asked == head) || has_number asked numbers))
    cases rest true same is_less is_same = refl
    cases rest false true is_less is_same =
        rw (number-is number head is_same) (twice (asked == head) (has_number asked numbers))
    cases rest false false is_less is_same =
        rw rest (turned (asked == head) (asked == number) (has_number asked numbers))

-- the numbers that stand with one less
pub has-without : (asked number : ℕ) (numbers : List ℕ) →
    has_number asked (without_number number numbers)
    ≡ (not (asked == number) && has_number asked numbers)
has-without asked number [] = sym (nothing (asked == number))
  where
    nothing : (one : Bool) → (not one && false) ≡ false
    nothing true = refl
    nothing false = refl
has-without asked number (head ∷ numbers) =
    cases (has-without asked number numbers)
    (head == number) (asked == head) (asked == number) refl refl refl
  where
    cases : has_number asked (without_number number numbers)
        ≡ (not (asked == number) && has_number asked numbers) →
        (taken here same : Bool) →
        (head == number) ≡ taken → (asked == head) ≡ here → (asked == number) ≡ same →
        has_number asked
        (cond (not taken) (head ∷ without_number number numbers) (without_number number numbers))
        ≡ (not same && (here || has_number asked numbers))
    cases rest true true true is_taken is_here is_same = rw rest (rw is_same refl)
    cases rest true true false is_taken is_here is_same =
        absurd (number-differs asked number is_same
        (number-is asked head is_here ∙ number-is head number is_taken))
    cases rest true false same is_taken is_here is_same = rw rest (rw is_same refl)
    cases rest false true true is_taken is_here is_same =
        absurd (number-differs head number is_taken
        (sym (number-is asked head is_here) ∙ number-is asked number is_same))
    cases rest false true false is_taken is_here is_same = rw is_here refl
    cases rest false false same is_taken is_here is_same = rw is_here (rw rest (rw is_same refl))

-- the greatest number stands
pub greatest-stands : (numbers : List ℕ) → 0 < greatest numbers →
    has_number (greatest numbers) numbers ≡ true
greatest-stands [] above = absurd (omega arith)
greatest-stands (head ∷ numbers) above =
    cases (greatest-stands numbers) (nat_lt (greatest numbers) head) refl
  where
    left : (one two : Bool) → one ≡ true → (one || two) ≡ true
    left true two is = refl
    left false two is = cc

    right : (one two : Bool) → two ≡ true → (one || two) ≡ true
    right true two is = refl
    right false two is = is

    cases : (0 < greatest numbers → has_number (greatest numbers) numbers ≡ true) →
        (less : Bool) → nat_lt (greatest numbers) head ≡ less →
        ((max head (greatest numbers) == head) || has_number (max head (greatest numbers)) numbers)
        ≡ true
    cases rest true is_less =
        let is : max head (greatest numbers) ≡ head = grind (arith, nat_tests) in
        left (max head (greatest numbers) == head)
        (has_number (max head (greatest numbers)) numbers)
        (rw is (number-same head))
    cases rest false is_less =
        let is : max head (greatest numbers) ≡ greatest numbers = grind (arith, nat_tests) in
        right (max head (greatest numbers) == head)
        (has_number (max head (greatest numbers)) numbers)
        (rw is (rest (rw is at above)))

-- a number that stands is at most the greatest
pub has-most : (number : ℕ) (numbers : List ℕ) → has_number number numbers ≡ true →
    number ≤ greatest numbers
has-most number [] is = absurd (true≢false (sym is))
has-most number (head ∷ numbers) is = cases (has-most number numbers) (number == head) refl is
  where
    cases : (has_number number numbers ≡ true → number ≤ greatest numbers) →
        (same : Bool) → (number == head) ≡ same → (same || has_number number numbers) ≡ true →
        number ≤ max head (greatest numbers)
    cases rest true is_same has = let equal = number-is number head is_same in omega arith
    cases rest false differs has = let most = rest has in omega arith

-- What holds of all numbers holds of them with one more that it holds of.
module _ (P : ℕ → Type 0) (number : ℕ) (holds : P number) where
  pub with-all : (numbers : List ℕ) → All P numbers → All P (with_number number numbers)
  with-all [] all = All-cons P number [] holds all
  with-all (head ∷ numbers) all =
      cases (with-all numbers (All-tail P head numbers all)) (nat_lt number head) (number == head)
    where
      cases : All P (with_number number numbers) → (less same : Bool) →
          All P (cond less (number ∷ head ∷ numbers)
          (cond same (head ∷ numbers) (head ∷ with_number number numbers)))
      cases rest true same = All-cons P number (head ∷ numbers) holds all
      cases rest false true = all
      cases rest false false =
          All-cons P head (with_number number numbers) (All-head P head numbers all) rest

-- the first of ascending numbers is below the others
ascends-head : (head : ℕ) (numbers : List ℕ) →
    AllPairs (λ low high. low < high) (head ∷ numbers) → All (λ other. head < other) numbers
ascends-head head numbers ascends =
    λ place default below. ascends 0 (suc place) default (omega arith) (omega arith)

-- the others ascend
ascends-tail : (head : ℕ) (numbers : List ℕ) →
    AllPairs (λ low high. low < high) (head ∷ numbers) → AllPairs (λ low high. low < high) numbers
ascends-tail head numbers ascends =
    λ place later default before below.
    ascends (suc place) (suc later) default (omega arith) (omega arith)

-- ascending numbers ascend with one more
pub with-ascends : (number : ℕ) (numbers : List ℕ) → AllPairs (λ low high. low < high) numbers →
    AllPairs (λ low high. low < high) (with_number number numbers)
with-ascends number [] ascends =
    AllPairs-cons (λ low high. low < high) number [] (All-nil (λ other. number < other)) ascends
with-ascends number (head ∷ numbers) ascends =
    cases (with-ascends number numbers (ascends-tail head numbers ascends))
    (nat_lt number head) (number == head) refl refl
  where
    above : All (λ other. head < other) numbers
    above = ascends-head head numbers ascends

    cases : AllPairs (λ low high. low < high) (with_number number numbers) →
        (less same : Bool) → nat_lt number head ≡ less → (number == head) ≡ same →
        AllPairs (λ low high. low < high) (cond less (number ∷ head ∷ numbers)
        (cond same (head ∷ numbers) (head ∷ with_number number numbers)))
    cases rest true same is_less is_same =
        let below : number < head = grind (arith, nat_tests) in
        AllPairs-cons (λ low high. low < high) number (head ∷ numbers)
        (All-cons (λ other. number < other) head numbers below
        (λ place default inside. let over = above place default inside in omega arith))
        ascends
    cases rest false true is_less is_same = ascends
    cases rest false false is_less is_same =
        let differs = number-differs number head is_same in
        let below : head < number = grind (arith, nat_tests) in
        AllPairs-cons (λ low high. low < high) head (with_number number numbers)
        (with-all (λ other. head < other) number below numbers above) rest
