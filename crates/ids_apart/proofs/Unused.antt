-- IDs that nobody has. Claim: a chosen ID is one (`chosen-unused`), and no record has an ID that isn't used
-- (`unused-count`), so that one more record may have it (`push-keeps`).
use Rattle.std.proofs.Common.{◌≡◌, ℕ, ◌≤◌, max, Bool, true, false, List, [], ◌∷◌, ◌++◌, map, refl}
use Rattle.std.specs.Prelude.{Option, Some, None, ◌==◌, count_by}
use Rattle.std.specs.List.{AllByRecursion, list_any}
use Rattle.std.proofs.lemmas.Bool.{or_parts}
use Rattle.account_model.specs.declared.settings.Kind.{Kind}
use Rattle.account_model.specs.declared.refusal.Refusal.{Refusal}
use Rattle.account_model.specs.Refusals.{refuse_if}
use Rattle.account_model.specs.Ids.{is_used, chosen_id}
use Rattle.account_model.proofs.FreeIds.{not-used}
use Rattle.account_model.proofs.IdsLaws.{chosen-free}
use Rattle.ids_apart.proofs.Counts.{count-none, push-meets}
use Rattle.ids_apart.proofs.Keys.{has_key}

-- a chosen ID isn't used
pub chosen-unused :
    (kind : Kind) (range : Option (ℕ × ℕ)) (used : List ℕ) (id : ℕ)
    → chosen_id kind range used ≡ Some id
    → is_used used id ≡ false
chosen-unused kind None used id e = cc
chosen-unused kind (Some range) used id e =
    not-used used id (chosen-free kind range.0 range.1 used id e).free

-- a test that would refuse fails
pub refuse-fails : (test : Bool) (refusal : Refusal) → refuse_if test refusal ≡ None → test ≡ false
refuse-fails true refusal none = cc
refuse-fails false refusal none = refl

-- no record has an ID that isn't used
unused-all :
    {X : Type 0} (key : X → ℕ) (id : ℕ) (xs : List X)
    → is_used (map key xs) id ≡ false
    → AllByRecursion (λ x. has_key key id x ≡ false) xs
unused-all key id [] e = tt
unused-all key id (x ∷ xs) e =
    let parts = or_parts (key x == id) (list_any (λ other. other == id) (map key xs)) e
    in (parts.0, unused-all key id xs parts.1)

-- so none is counted
pub unused-count :
    {X : Type 0} (key : X → ℕ) (id : ℕ) (xs : List X)
    → is_used (map key xs) id ≡ false
    → count_by (has_key key id) xs ≡ 0
unused-count key id xs e = count-none (has_key key id) xs (unused-all key id xs e)

-- one more record, whose key isn't used
pub push-keeps :
    {X : Type 0} (key : X → ℕ) (id : ℕ) (x : X) (xs : List X)
    → (has_key key id x ≡ true → is_used (map key xs) id ≡ false)
    → count_by (has_key key id) (xs ++ x ∷ []) ≤ max 1 (count_by (has_key key id) xs)
push-keeps key id x xs unused =
    push-meets (has_key key id) xs x (λ has. unused-count key id xs (unused has))
