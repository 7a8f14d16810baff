-- What holds of each item of a list: of two lists together, and of those that pass a test.
use Rattle.std.proofs.Common.{Bool, true, false, List, [], ◌∷◌, ◌++◌}
use Rattle.std.specs.Prelude.{filter, cond, if◌then◌else◌}
use Rattle.std.specs.List.{AllByRecursion}

-- what holds of two lists holds of both together
pub all-append :
    {X : Type 0} (P : X → Type 0) (a b : List X)
    → AllByRecursion P a
    → AllByRecursion P b
    → AllByRecursion P (a ++ b)
all-append P [] b all_a all_b = all_b
all-append P (x ∷ a) b all_a all_b = (all_a.0, all-append P a b all_a.1 all_b)

-- what holds of an item holds of a list that has it or nothing
pub all-if :
    {X : Type 0} (P : X → Type 0) (test : Bool) (x : X)
    → P x
    → AllByRecursion P (if test then x ∷ [] else [])
all-if P true x is = (is, tt)
all-if P false x is = tt

-- what holds of all holds of those that are kept
filter-by :
    {X : Type 0} (P : X → Type 0) (x : X) (xs : List X) (b : Bool)
    → P x
    → AllByRecursion P xs
    → AllByRecursion P (cond b (x ∷ xs) xs)
filter-by P x xs true is all = (is, all)
filter-by P x xs false is all = all

-- what holds of all names holds of those that pass a test
pub all-filter :
    {X : Type 0} (P : X → Type 0) (test : X → Bool) (xs : List X)
    → AllByRecursion P xs
    → AllByRecursion P (filter test xs)
all-filter P test [] all = tt
all-filter P test (x ∷ xs) all =
    filter-by P x (filter test xs) (test x) all.0 (all-filter P test xs all.1)
