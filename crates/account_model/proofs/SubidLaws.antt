-- What is left of a range without some numbers is the range's other numbers.
use Rattle.std.proofs.Common.{◌≡◌, ◌↔◌, ◌⊎◌, ℕ, ◌+◌, ◌-◌, ◌≤◌, ◌<◌, min, max, true, false, List, [], ◌∷◌, ◌++◌, refl, ap, ◌∙◌, arith, inl, inr}
use Rattle.std.specs.Prelude.{nat_lt}
use Rattle.std.proofs.lemmas.Bool.{cases_Bool, ltb-true, ltb-false, lt-ltb, false_from_ne_true}
use Rattle.std.specs.List.{AllByRecursion}
use Rattle.account_model.specs.declared.records.SubidRecord.{SubidRecord}
use Rattle.account_model.specs.Records.{last_id}
use Rattle.account_model.specs.SubidOwner.{IsInRange, IsInSome, IsPieceOf, left_below, left_above, left_without}

-- a number of the part below, and of the part above
pub in_below :
    (first : ℕ) (r : SubidRecord) (number : ℕ)
    → 1 ≤ r.count
    → IsInSome number (left_below first r) ↔ (IsInRange number r × (number < first))
in_below first r number some = elim (cases_Bool (nat_lt r.first first)) [
  | inl before ↦ let b : r.first < first = ltb-true r.first first before in rw before (
    (λ at. elim at [
      | inl here ↦ (
        record { low = here.low; high = let h = here.high in omega arith },
        let h = here.high in omega arith,
      )
      | inr none ↦ absurd none
    ]),
    (λ at. let low = at.0.low in let high = at.0.high in let less = at.1 in inl
        (record { low = low; high = omega arith })),
  )
  | inr behind ↦ let b : first ≤ r.first = ltb-false r.first first behind in rw behind
      ((λ none. absurd none), (λ at. let low = at.0.low in let less = at.1 in absurd (omega arith)))
]

-- a number of the part above
pub in_above :
    (last : ℕ) (r : SubidRecord) (number : ℕ)
    → 1 ≤ r.count
    → IsInSome number (left_above last r) ↔ (IsInRange number r × (last < number))
in_above last r number some = elim (cases_Bool (nat_lt last (last_id r))) [
  | inl before ↦ let b : last < last_id r = ltb-true last (last_id r) before in rw before (
    (λ at. elim at [
      | inl here ↦ let l = here.low in let h = here.high
          in (record { low = omega arith; high = omega arith }, omega arith)
      | inr
          none ↦ absurd none
    ]),
    (λ at. let low = at.0.low in let high = at.0.high in let more = at.1 in inl
        (record { low = omega arith; high = omega arith })),
  )
  | inr behind ↦ let b : last_id r ≤ last = ltb-false last (last_id r) behind in rw behind (
    (λ none. absurd none),
    (λ at. let high = at.0.high in let more = at.1
        in absurd (omega arith)),
  )
]

-- a number of two lists of ranges
pub in_append :
    (number : ℕ) (a b : List SubidRecord)
    → IsInSome number (a ++ b) ↔ (IsInSome number a ⊎ IsInSome number b)
in_append number [] b =
    ((λ at. inr at), (λ at. elim at [ inl none ↦ absurd none | inr here ↦ here ]))
in_append number (r ∷ a) b = (
  (λ at. elim at [
    | inl here ↦ inl (inl here)
    | inr later ↦ elim ((in_append number a b).0 later)
        [ inl before ↦ inl (inr before) | inr behind ↦ inr behind ]
  ]),
  (λ at. elim at [
    | inl before ↦ elim before [
      | inl here ↦ inl here
      | inr later ↦ inr
          ((in_append number a b).1 (inl later))
    ]
    | inr behind ↦ inr ((in_append number a b).1 (inr behind))
  ]),
)

-- What is left are the numbers of the range that aren't removed.
pub in_left :
    (first last : ℕ) (r : SubidRecord) (number : ℕ)
    → 1 ≤ r.count
    → first ≤ last
    → IsInSome number (left_without first last r)
    ↔ (IsInRange number r × ((number < first) ⊎ (last < number)))
in_left first last r number some order = (
  (λ at. elim ((in_append number (left_below first r) (left_above last r)).0 at) [
    | inl below ↦ let found = (in_below first r number some).0 below in (found.0, inl found.1)
    | inr above ↦ let found = (in_above last r number some).0 above in (found.0, inr found.1)
  ]),
  (λ at. (in_append number (left_below first r) (left_above last r)).1 (elim at.1 [
    | inl less ↦ inl ((in_below first r number some).1 (at.0, less))
    | inr more ↦ inr ((in_above last r number some).1 (at.0, more))
  ])),
)

-- A range that loses no number stays as it is.
pub left_whole :
    (first last : ℕ) (r : SubidRecord)
    → 1 ≤ r.count
    → first ≤ last
    → (last_id r < first) ⊎ (last < r.first)
    → left_without first last r ≡ r ∷ []
left_whole first last r some order apart = elim apart [
  | inl before ↦
      let inside : nat_lt r.first first ≡ true = lt-ltb r.first first (omega arith) in
      let none : nat_lt last (last_id r) ≡ false = false_from_ne_true (nat_lt last (last_id r))
      (λ less. let l : last < last_id r = ltb-true last (last_id r) less in omega arith) in
      let count : min (last_id r + 1) first - r.first ≡ r.count = omega arith in
      rw (inside, none) (ap (λ n. record r { count = n } ∷ []) count)
  | inr behind ↦
      let none : nat_lt r.first first ≡ false = false_from_ne_true (nat_lt r.first first)
      (λ less. let l : r.first < first = ltb-true r.first first less in omega arith) in
      let inside : nat_lt last (last_id r) ≡ true = lt-ltb last (last_id r) (omega arith) in
      let start : max r.first (last + 1) ≡ r.first = omega arith in
      let count : last_id r + 1 - max r.first (last + 1) ≡ r.count = omega arith in
      rw (none, inside) (ap (λ n. record r {
        first = n;
        count = last_id r + 1 - max r.first
            (last + 1);
      } ∷ []) start ∙ ap (λ n. record r { count = n } ∷ []) count)
]

-- Each piece has the owner and is not empty.
pub below_is_kept :
    (first : ℕ) (r : SubidRecord)
    → 1 ≤ r.count
    → AllByRecursion (IsPieceOf r) (left_below first r)
below_is_kept first r some = elim (cases_Bool (nat_lt r.first first)) [
  | inl before ↦ let b : r.first < first = ltb-true r.first first before in rw before
      (record { owner = refl; some = omega arith }, tt)
  | inr behind ↦ rw behind tt
]

-- the part above has the owner, and a number
pub above_is_kept :
    (last : ℕ) (r : SubidRecord)
    → 1 ≤ r.count
    → AllByRecursion (IsPieceOf r) (left_above last r)
above_is_kept last r some = elim (cases_Bool (nat_lt last (last_id r))) [
  | inl before ↦ let b : last < last_id r = ltb-true last (last_id r) before in rw before
      (record { owner = refl; some = omega arith }, tt)
  | inr behind ↦ rw behind tt
]

-- what holds of two lists holds of both together
pub all_append :
    (P : SubidRecord → Type 0) (a b : List SubidRecord)
    → AllByRecursion P a
    → AllByRecursion P b
    → AllByRecursion P (a ++ b)
all_append P [] b all_a all_b = all_b
all_append P (r ∷ a) b all_a all_b = (all_a.0, all_append P a b all_a.1 all_b)

-- what is left has the owner, and a number
pub left_is_kept :
    (first last : ℕ) (r : SubidRecord)
    → 1 ≤ r.count
    → AllByRecursion (IsPieceOf r) (left_without first last r)
left_is_kept first last r some = all_append (IsPieceOf r) (left_below first r) (left_above last r)
    (below_is_kept first r some) (above_is_kept last r some)
