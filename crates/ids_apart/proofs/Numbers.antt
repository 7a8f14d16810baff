-- The numbers of ranges: what `range_has` says (`number-in`, `has-number`), and that a range which meets none has no number
-- of theirs (`unmet-count`).
use Rattle.std.proofs.Common.{◌≡◌, ℕ, ◌≤◌, Bool, true, false, List, refl, arith}
use Rattle.std.specs.Prelude.{count_by, nat_le}
use Rattle.std.specs.List.{AllByRecursion}
use Rattle.std.proofs.lemmas.Bool.{and_parts, leb-true, le-leb}
use Rattle.account_model.specs.declared.records.SubidRecord.{SubidRecord}
use Rattle.account_model.specs.Records.{last_id}
use Rattle.account_model.specs.FreeRange.{Meeting}
use Rattle.ids_apart.specs.Holders.{range_has}
use Rattle.ids_apart.proofs.Counts.{count-none}
use Rattle.ids_apart.proofs.Pairs.{all-then}

-- a number of a range is one from its first to its last
pub number-in :
    (number : ℕ) (r : SubidRecord)
    → range_has number r ≡ true
    → (r.first ≤ number) × (number ≤ last_id r)
number-in number r has =
    let parts = and_parts (nat_le r.first number) (nat_le number (last_id r)) has
    in (leb-true r.first number parts.0, leb-true number (last_id r) parts.1)

-- and the other way
pub has-number :
    (number : ℕ) (r : SubidRecord)
    → r.first ≤ number
    → number ≤ last_id r
    → range_has number r ≡ true
has-number number r low high =
    rw (le-leb r.first number low, le-leb number (last_id r) high) refl

-- a range that doesn't meet others has no number of theirs
unmet-by :
    (number first last : ℕ) (r : SubidRecord) (has : Bool)
    → range_has number r ≡ has
    → first ≤ number
    → number ≤ last
    → (Meeting first last r → ⊥)
    → has ≡ false
unmet-by number first last r false is low high apart = refl
unmet-by number first last r true is low high apart =
    let own = number-in number r is
    in absurd (apart (record {
      begins_before = omega (arith, own.0, high);
      ends_behind = omega (arith, own.1, low);
    }))

-- so no range of them has a number between
pub unmet-count :
    (number first last : ℕ) (rs : List SubidRecord)
    → first ≤ number
    → number ≤ last
    → AllByRecursion (λ r. Meeting first last r → ⊥) rs
    → count_by (range_has number) rs ≡ 0
unmet-count number first last rs low high apart = count-none (range_has number) rs
    (all-then (λ r. Meeting first last r → ⊥) (λ r. range_has number r ≡ false) rs
    (λ r none. unmet-by number first last r (range_has number r) refl low high none) apart)
