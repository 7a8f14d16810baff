-- Claims: the records that a change makes of a group have only keys of that one, and such as its act brings,
-- and so those of a record of gshadow (`group-brings`, `gshadow-brings`). Way: a change does its act with the
-- records that pass a test, or lets these go.
use Rattle.std.proofs.Common.{◌≡◌, ℕ, Bool, true, false, inl, inr, List, [], ◌∷◌, refl, sym, subst, arith, lt_irrefl}
use Rattle.std.specs.Prelude.{◌||◌, Contains, if◌then◌else◌}
use Rattle.std.proofs.lemmas.List.Elements.{Contains-push_cases}
use Rattle.account_model.specs.Format.{is_named}
use Rattle.account_model.specs.Records.{group_format, gshadow_format}
use Rattle.line_edits.specs.GroupChanges.{group_after, group_becomes}
use Rattle.line_edits.specs.GshadowChanges.{gshadow_after, gshadow_becomes}
use Rattle.line_edits.specs.declared.group_changes.GroupChange.{GroupChange}
use Rattle.line_edits.specs.declared.group_changes.GroupChange.TheVariants.{All as AllGroups, Named as NamedGroup, Remove as RemoveGroup}
use Rattle.line_edits.specs.declared.gshadow_changes.GshadowChange.{GshadowChange}
use Rattle.line_edits.specs.declared.gshadow_changes.GshadowChange.TheVariants.{All as AllGshadows, Named as NamedGshadow, Remove as RemoveGshadow}
use Rattle.acct_tables.specs.KeyPlaces.{has_key}
use Rattle.table.specs.Keys.{BringsOnly, group_brought, group_given, group_keys, gshadow_brought, gshadow_given, gshadow_keys}
use Rattle.table.proofs.ActKeys.{group-kept, gshadow-kept}

-- a key that isn't brought was there before
brought-or-kept :
    (brought kept : Bool) → (brought ≡ false → kept ≡ true) → (brought || kept) ≡ true
brought-or-kept true kept otherwise = refl
brought-or-kept false kept otherwise = otherwise refl

module _ {R : Type 0} where
  -- nothing is in an empty list
  none-there : {P : Type 0} (s : R) → Contains [] s → P
  none-there s there = absurd (lt_irrefl 0 (omega (arith, there.1)))

  -- and one alone in a list of one
  one-there : (made s : R) → Contains (made ∷ []) s → made ≡ s
  one-there made s there = elim (Contains-push_cases [] made s there) [
    | inl none ↦ none-there s none
    | inr is ↦ is
  ]

module _ {R : Type 0} (keys_of : R → List ℕ) (test : R → Bool) where
  -- by whether the record passes the test
  changed-by :
      (passes : Bool) (key : ℕ) (r s : R)
      → (has_key key (keys_of s) ≡ true → has_key key (keys_of r) ≡ true)
      → has_key key (keys_of (if passes then s else r)) ≡ true
      → has_key key (keys_of r) ≡ true
  changed-by true key r s only has = only has
  changed-by false key r s only has = has

  -- an act with the records that pass the test
  act-brings :
      (act : R → R) (keys : List ℕ)
      → ((key : ℕ) (r : R)
      → has_key key keys ≡ false
      → has_key key (keys_of (act r)) ≡ true
      → has_key key (keys_of r) ≡ true)
      → BringsOnly keys_of (λ r. (if test r then act r else r) ∷ []) keys
  act-brings act keys kept r s there key has =
      brought-or-kept (has_key key keys) (has_key key (keys_of r)) (λ none.
      changed-by (test r) key r (act r) (kept key r none)
      (subst (λ s. has_key key (keys_of s) ≡ true) (sym (one-there _ s there)) has))

  -- by whether the record goes
  gone-by :
      (goes : Bool) (key : ℕ) (r s : R)
      → Contains (if goes then [] else r ∷ []) s
      → has_key key (keys_of s) ≡ true
      → has_key key (keys_of r) ≡ true
  gone-by true key r s there has = none-there s there
  gone-by false key r s there has =
      subst (λ s. has_key key (keys_of s) ≡ true) (sym (one-there r s there)) has

  -- records that pass the test go
  going-brings : BringsOnly keys_of (λ r. if test r then [] else r ∷ []) []
  going-brings r s there key has = gone-by (test r) key r s there has

-- with groups
pub group-brings :
    (change : GroupChange) → BringsOnly group_keys (group_becomes change) (group_brought change)
group-brings (NamedGroup name act) =
    act-brings group_keys (is_named group_format name) (group_after act) (group_given act)
    (λ key. group-kept key act)
group-brings (AllGroups act) =
    act-brings group_keys (λ group. true) (group_after act) (group_given act)
    (λ key. group-kept key act)
group-brings (RemoveGroup name) = going-brings group_keys (is_named group_format name)

-- and with records of gshadow
pub gshadow-brings :
    (change : GshadowChange)
    → BringsOnly gshadow_keys (gshadow_becomes change) (gshadow_brought change)
gshadow-brings (NamedGshadow name act) =
    act-brings gshadow_keys (is_named gshadow_format name) (gshadow_after act)
    (gshadow_given act) (λ key. gshadow-kept key act)
gshadow-brings (AllGshadows act) =
    act-brings gshadow_keys (λ group. true) (gshadow_after act) (gshadow_given act)
    (λ key. gshadow-kept key act)
gshadow-brings (RemoveGshadow name) = going-brings gshadow_keys (is_named gshadow_format name)
