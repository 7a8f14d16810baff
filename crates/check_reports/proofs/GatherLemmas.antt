-- Claim: a record of shadow differs from itself with another hash and another last change where one of these does
-- (`shadow_differs`). Way: by both tests.
use Rattle.std.proofs.Common.{◌≡◌, ℕ, true, not, List, refl, inl, inr}
use Rattle.std.specs.Prelude.{◌||◌, Option, None, Some, bytes_eq}
use Rattle.std.proofs.lemmas.Bool.{cases_Bool, eq-eqb}
use Rattle.account_model.specs.declared.records.ShadowRecord.{ShadowRecord}
use Rattle.account_model.specs.Records.{days_eq, shadow_format}
use Rattle.account_model.proofs.SameLaws.{bytes-self}

-- a number that may be there is the same as itself
days-self : (days : Option ℕ) → days_eq days days ≡ true
days-self None = refl
days-self (Some days) = eq-eqb days days refl

-- by both tests
pub shadow_differs :
    (r : ShadowRecord) (hash : List ℕ) (day : ℕ)
    → not (shadow_format.same r (record r { hash = hash; last_change = Some day }))
    ≡ (not (bytes_eq r.hash hash) || not (days_eq r.last_change (Some day)))
shadow_differs r hash day =
    let name = bytes-self r.name in
    let minimum = days-self r.minimum in
    let maximum = days-self r.maximum in
    let warning = days-self r.warning in
    let inactive = days-self r.inactive in
    let expiration = days-self r.expiration in
    let rest = bytes-self r.rest in
    elim (cases_Bool (bytes_eq r.hash hash)) [
      | inl same ↦ elim (cases_Bool (days_eq r.last_change (Some day))) [
        | inl then ↦
            rw (name, same, then, minimum, maximum, warning, inactive, expiration, rest) refl
        | inr other ↦ rw (name, same, other) refl
      ]
      | inr other ↦ rw (name, other) refl
    ]
