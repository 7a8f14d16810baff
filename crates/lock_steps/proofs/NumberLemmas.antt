-- The numbers of a listing: the greatest, in bounds (`greatest-bound`), and those below one of them
-- (`below-bound`).
use Rattle.std.specs.Option.{option_to_list}
use Rattle.std.proofs.Common.{◌≡◌, refl, ℕ, Option, Some, None, ◌++◌, ◌<◌, ◌≤◌, Bool, true, false, nat_lt, List, [], ◌∷◌, length, get_or, cond, All, filter, arith}
use Rattle.std.proofs.lemmas.Bool.Decides.{nat_tests}
use Rattle.std.proofs.lemmas.List.Elements.{All-nil, All-cons, All-head, All-tail}
use Rattle.acct_outside.specs.Names.{greatest_lock}
use Rattle.acct_outside.specs.Folder.{greatest}
use Rattle.acct_outside.specs.Contract.{IsLockNumber}

-- lock numbers have a greatest that is in bounds
pub greatest-bound : (numbers : List ℕ) → All IsLockNumber numbers →
    greatest numbers ≤ greatest_lock
greatest-bound [] all = omega arith
greatest-bound (head ∷ numbers) all =
    let here = All-head IsLockNumber head numbers all in
    let high = here.high in
    let rest = greatest-bound numbers (All-tail IsLockNumber head numbers all) in
    omega arith

-- the lock numbers below one are in bounds
pub below-bound : (number : ℕ) (numbers : List ℕ) → All IsLockNumber numbers →
    All (λ other. (1 ≤ other) × (other < number)) (filter (λ other. nat_lt other number) numbers)
below-bound number [] all = All-nil (λ other. (1 ≤ other) × (other < number))
below-bound number (head ∷ numbers) all =
    cases (nat_lt head number) refl
    (below-bound number numbers (All-tail IsLockNumber head numbers all))
  where
    lower : List ℕ
    lower = filter (λ other. nat_lt other number) numbers

    cases : (below : Bool) → nat_lt head number ≡ below →
        All (λ other. (1 ≤ other) × (other < number)) lower →
        All (λ other. (1 ≤ other) × (other < number)) (cond below (head ∷ lower) lower)
    cases true is rest =
        let here = All-head IsLockNumber head numbers all in
        let low = here.low in
        let under : head < number = grind (arith, nat_tests) in
        All-cons (λ other. (1 ≤ other) × (other < number)) head _ (low, under) rest
    cases false is rest = rest

-- a number that is the first of a list, is so whatever stands for none
pub first-of : (numbers : List ℕ) (number : ℕ) → 0 < length numbers →
    number ≡ get_or numbers 0 number → number ≡ get_or numbers 0 0
first-of [] number some is = absurd (omega arith)
first-of (first ∷ numbers) number some is = is

-- what holds of all holds of those behind the first
pub rest-all : (P : ℕ → Type 0) (first : Option ℕ) (rest : List ℕ) →
    All P (option_to_list first ++ rest) → All P rest
rest-all P None rest all = all
rest-all P (Some first) rest all = All-tail P first rest all
