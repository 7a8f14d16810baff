-- Claim: what holds of each two records by their places holds record by record, and the other way (`pairs-each`,
-- `each-pairs`).
use Rattle.std.proofs.Common.{ℕ, zero, suc, ◌<◌, List, [], ◌∷◌, length, arith, lt_irrefl}
use Rattle.std.specs.Prelude.{⊤, AllPairs, slice_index_or}
use Rattle.std.specs.List.{AllByRecursion}

-- R holds of each record and each later one
abbrev pub EachTwo : {X : Type 0} → (X → X → Type 0) → List X → Type 0
EachTwo R [] = ⊤
EachTwo R (x ∷ xs) = AllByRecursion (R x) xs × EachTwo R xs

-- ---- What holds of all

-- what holds at each place holds of all
all-at :
    {X : Type 0} (P : X → Type 0) (xs : List X)
    → ((k : ℕ) (d : X) → k < length xs → P (slice_index_or xs k d))
    → AllByRecursion P xs
all-at P [] holds = tt
all-at P (x ∷ xs) holds =
    (holds zero x (omega arith), all-at P xs (λ k d below. holds (suc k) d (omega (arith, below))))

-- and what holds of all holds at each place
at-all :
    {X : Type 0} (P : X → Type 0) (xs : List X) (k : ℕ) (d : X)
    → k < length xs
    → AllByRecursion P xs
    → P (slice_index_or xs k d)
at-all P [] k d below all = absurd (lt_irrefl 0 (omega (arith, below)))
at-all P (x ∷ xs) zero d below all = all.0
at-all P (x ∷ xs) (suc k) d below all = at-all P xs k d (omega (arith, below)) all.1

-- what holds of anything holds of all
pub all-of :
    {X : Type 0} (P : X → Type 0) (xs : List X)
    → ((x : X) → P x)
    → AllByRecursion P xs
all-of P [] holds = tt
all-of P (x ∷ xs) holds = (holds x, all-of P xs holds)

-- what follows of each follows of all
pub all-then :
    {X : Type 0} (P Q : X → Type 0) (xs : List X)
    → ((x : X) → P x → Q x)
    → AllByRecursion P xs
    → AllByRecursion Q xs
all-then P Q [] follows all = tt
all-then P Q (x ∷ xs) follows all = (follows x all.0, all-then P Q xs follows all.1)

-- what follows of both follows of all
pub all-both :
    {X : Type 0} (P Q S : X → Type 0) (xs : List X)
    → ((x : X) → P x → Q x → S x)
    → AllByRecursion P xs
    → AllByRecursion Q xs
    → AllByRecursion S xs
all-both P Q S [] follows all other = tt
all-both P Q S (x ∷ xs) follows all other =
    (follows x all.0 other.0, all-both P Q S xs follows all.1 other.1)

-- ---- Both ways to say it

-- what holds by places holds record by record
pub pairs-each : {X : Type 0} (R : X → X → Type 0) (xs : List X) → AllPairs R xs → EachTwo R xs
pairs-each R [] pairs = tt
pairs-each R (x ∷ xs) pairs = (
  all-at (R x) xs (λ k d below. pairs zero (suc k) d (omega arith) (omega (arith, below))),
  pairs-each R xs
      (λ i j d less below. pairs (suc i) (suc j) d (omega (arith, less)) (omega (arith, below))),
)

-- and the other way
pub each-pairs :
    {X : Type 0} (R : X → X → Type 0) (xs : List X)
    → EachTwo R xs
    → (i j : ℕ) (d : X)
    → i < j
    → j < length xs
    → R (slice_index_or xs i d) (slice_index_or xs j d)
each-pairs R [] each i j d less below = absurd (lt_irrefl 0 (omega (arith, below)))
each-pairs R (x ∷ xs) each i zero d less below = absurd (lt_irrefl 0 (omega (arith, less)))
each-pairs R (x ∷ xs) each zero (suc j) d less below =
    at-all (R x) xs j d (omega (arith, below)) each.0
each-pairs R (x ∷ xs) each (suc i) (suc j) d less below =
    each-pairs R xs each.1 i j d (omega (arith, less)) (omega (arith, below))
