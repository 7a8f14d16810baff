-- Claim: names that can stand in a list still can with one more, without one and with one renamed
-- (`with-listed`, `without-listed`, `renamed-listed`). Way: each name is one of the list, or the new one.
use Rattle.std.proofs.Common.{◌≡◌, ℕ, Bool, true, false, ◌&&◌, not, List, [], ◌∷◌, ◌++◌, refl}
use Rattle.std.specs.Prelude.{bytes_eq, if◌then◌else◌}
use Rattle.std.specs.List.{AllByRecursion}
use Rattle.account_model.specs.Text.{is_listed}
use Rattle.account_model.specs.Members.{with_name, without_name, name_once, in_place_of, renamed_in}
use Rattle.account_model.specs.Written.{IsListed}
use Rattle.account_model.proofs.ListLaws.{all-append, all-filter}

-- a list with a name more
with-by :
    (name : List ℕ) (names : List (List ℕ)) (there : Bool)
    → IsListed name
    → AllByRecursion IsListed names
    → AllByRecursion IsListed (if there then names else names ++ name ∷ [])
with-by name names true is all = all
with-by name names false is all = all-append IsListed names (name ∷ []) all (is, tt)

-- the names with one more can stand in a list
pub with-listed :
    (name : List ℕ) (names : List (List ℕ))
    → IsListed name
    → AllByRecursion IsListed names
    → AllByRecursion IsListed (with_name name names)
with-listed name names is all = with-by name names (is_listed name names) is all

-- and so can those without one
pub without-listed :
    (name : List ℕ) (names : List (List ℕ))
    → AllByRecursion IsListed names
    → AllByRecursion IsListed (without_name name names)
without-listed name names all = all-filter IsListed _ names all

-- one of two lists
either-listed :
    (test : Bool) (a b : List (List ℕ))
    → AllByRecursion IsListed a
    → AllByRecursion IsListed b
    → AllByRecursion IsListed (if test then a else b)
either-listed true a b all_a all_b = all_a
either-listed false a b all_a all_b = all_b

-- the new name in a place
place-listed :
    (test : Bool) (new name : List ℕ)
    → IsListed new
    → IsListed name
    → IsListed (if test then new else name)
place-listed true new name is_new is_name = is_new
place-listed false new name is_new is_name = is_name

-- a list with the new name at each place of the old one
places-listed :
    (old new : List ℕ) (names : List (List ℕ))
    → IsListed new
    → AllByRecursion IsListed names
    → AllByRecursion IsListed (in_place_of old new names)
places-listed old new [] is all = tt
places-listed old new (name ∷ names) is all =
    (place-listed (bytes_eq name old) new name is all.0, places-listed old new names is all.1)

-- a list with a name once
once-listed :
    (name : List ℕ) (names : List (List ℕ))
    → AllByRecursion IsListed names
    → AllByRecursion IsListed (name_once name names)
once-listed name [] all = tt
once-listed name (other ∷ names) all =
    either-listed (bytes_eq other name)
    (other ∷ without_name name names) (other ∷ name_once name names)
    (all.0, without-listed name names all.1) (all.0, once-listed name names all.1)

-- a list with a name renamed, where the new one differs from it
pub renamed-listed :
    (old new : List ℕ) (names : List (List ℕ))
    → (bytes_eq old new ≡ false → IsListed new)
    → AllByRecursion IsListed names
    → AllByRecursion IsListed (renamed_in old new names)
renamed-listed old new names is all = one (is_listed old names) (bytes_eq old new) refl
  where
    one : (there same : Bool) → bytes_eq old new ≡ same
        → AllByRecursion IsListed
        (if there && not same then name_once new (in_place_of old new names) else names)
    one true true e = all
    one true false e = once-listed new (in_place_of old new names)
        (places-listed old new names (is e) all)
    one false same e = all
