-- Claim: two lists of the same IDs give the same choice (`same-choice`). Way: a choice is told by
-- conditions on members alone, so it is the choice from the other list too, and there is one.
-- A caller that adds the IDs of a list one after another has `added-behind`.
use Rattle.std.proofs.Common.{◌≡◌, ℕ, ◌+◌, Bool, true, false, List, [], ◌∷◌, ◌++◌, refl, sym, ◌∙◌}
use Rattle.std.specs.Prelude.{Option, Some, None, Contains, ◌||◌, ◌==◌}
use Rattle.std.proofs.lemmas.List.Folds.{list_any-append}
use Rattle.account_model.specs.declared.settings.Kind.{Kind}
use Rattle.account_model.specs.declared.settings.Kind.TheVariants.{Regular, System}
use Rattle.account_model.specs.Ids.{UsedIn, FreeIn, IsLeast, IsGreatest, RegularChoice, FirstOfUnused, AfterGreatest, LeastFree, NoneFree, SystemChoice, LastOfUnused, BeforeLeast, GreatestFree, NoneLeft, IsChosenId, chosen_id, is_used}
use Rattle.account_model.proofs.Sets.{contains-in, in-contains, in-used, used-in}
use Rattle.account_model.proofs.IdsLaws.{chosen_id-is, chosen-one}
use Rattle.id_choice.specs.Used.{AreThoseOf, id_for}

-- the tests of two parts in either order
either-order : (first second : Bool) → (first || second) ≡ (second || (first || false))
either-order true true = refl
either-order true false = refl
either-order false true = refl
either-order false false = refl

-- a member of the one list is one of the other
there :
    (used ids : List ℕ)
    → AreThoseOf used ids
    → (id : ℕ)
    → Contains used id
    → Contains ids id
there used ids same id contains =
    let tested : is_used used id ≡ true = in-used used id (contains-in used id contains)
    in in-contains ids id (used-in ids id (sym (same id) ∙ tested))

-- and the other way round
back : (used ids : List ℕ) → AreThoseOf used ids → AreThoseOf ids used
back used ids same id = sym (same id)

module _ (low high : ℕ) (used ids : List ℕ) (same : AreThoseOf used ids) where
  -- an ID that is used in the range
  used-there : (id : ℕ) → UsedIn low high used id → UsedIn low high ids id
  used-there id is = record {
    not_below = is.not_below;
    not_above = is.not_above;
    taken = there used ids same id is.taken;
  }

  -- an ID of the range that isn't used
  free-there : (id : ℕ) → FreeIn low high used id → FreeIn low high ids id
  free-there id is = record {
    not_below = is.not_below;
    not_above = is.not_above;
    free = λ contains. is.free (there ids used (back used ids same) id contains);
  }

-- ---- Sets with the same numbers

module _ {P Q : ℕ → Type 0} (onward : (id : ℕ) → P id → Q id)
    (backward : (id : ℕ) → Q id → P id) where
  -- have no number together
  none-there : ((id : ℕ) → P id → ⊥) → (id : ℕ) → Q id → ⊥
  none-there none id is = none id (backward id is)

  -- have one greatest number
  greatest-there : (id : ℕ) → IsGreatest P id → IsGreatest Q id
  greatest-there id is = record {
    member = onward id is.member;
    greatest = λ other member. is.greatest other (backward other member);
  }

  -- have one least number
  least-there : (id : ℕ) → IsLeast P id → IsLeast Q id
  least-there id is = record {
    member = onward id is.member;
    least = λ other member. is.least other (backward other member);
  }

module _ (low high : ℕ) (used ids : List ℕ) (same : AreThoseOf used ids) where
  -- the used IDs of the range
  used-onward : (id : ℕ) → UsedIn low high used id → UsedIn low high ids id
  used-onward = used-there low high used ids same

  -- and back
  used-backward : (id : ℕ) → UsedIn low high ids id → UsedIn low high used id
  used-backward = used-there low high ids used (back used ids same)

  -- its free IDs
  free-onward : (id : ℕ) → FreeIn low high used id → FreeIn low high ids id
  free-onward = free-there low high used ids same

  -- and back
  free-backward : (id : ℕ) → FreeIn low high ids id → FreeIn low high used id
  free-backward = free-there low high ids used (back used ids same)

  -- the choice from a regular range
  regular-there :
      (choice : Option ℕ)
      → RegularChoice low high used choice
      → RegularChoice low high ids choice
  regular-there choice (FirstOfUnused within unused) =
      FirstOfUnused within (none-there used-onward used-backward unused)
  regular-there choice (AfterGreatest {id = id} is fits) =
      AfterGreatest (greatest-there used-onward used-backward id is) fits
  regular-there choice (LeastFree {id = id} taken is) =
      LeastFree (used-onward high taken) (least-there free-onward free-backward id is)
  regular-there choice (NoneFree full) = NoneFree (none-there free-onward free-backward full)

  -- the choice from a system range
  system-there :
      (choice : Option ℕ)
      → SystemChoice low high used choice
      → SystemChoice low high ids choice
  system-there choice (LastOfUnused within unused) =
      LastOfUnused within (none-there used-onward used-backward unused)
  system-there choice (BeforeLeast {id = id} is fits) =
      BeforeLeast (least-there used-onward used-backward (id + 1) is) fits
  system-there choice (GreatestFree {id = id} taken is) =
      GreatestFree (used-onward low taken) (greatest-there free-onward free-backward id is)
  system-there choice (NoneLeft full) = NoneLeft (none-there free-onward free-backward full)

-- the choice from any range
chosen-there :
    (kind : Kind) (range : Option (ℕ × ℕ)) (used ids : List ℕ) (choice : Option ℕ)
    → AreThoseOf used ids
    → IsChosenId kind range used choice
    → IsChosenId kind range ids choice
chosen-there kind None used ids choice same is = is
chosen-there Regular (Some range) used ids choice same is =
    regular-there range.0 range.1 used ids same choice is
chosen-there System (Some range) used ids choice same is =
    system-there range.0 range.1 used ids same choice is

module _
    (kind : Kind) (range : Option (ℕ × ℕ)) (used ids : List ℕ) (same : AreThoseOf used ids)
    (choice : Option ℕ) (is : IsChosenId kind range used choice) where
  -- a choice is that of each list of the same IDs
  pub same-choice : choice ≡ chosen_id kind range ids
  same-choice =
      chosen-one kind range ids choice (chosen_id kind range ids)
      (chosen-there kind range used ids choice same is) (chosen_id-is kind range ids)

  -- where the preferred ID is used
  pub preferred-used :
      (preferred : Option ℕ) (id : ℕ)
      → preferred ≡ Some id
      → is_used used id ≡ true
      → choice ≡ id_for preferred kind range ids
  preferred-used preferred id some e = rw (some, sym (same id) ∙ e) same-choice

  -- where no ID is preferred
  pub none-preferred :
      (preferred : Option ℕ)
      → preferred ≡ None
      → choice ≡ id_for preferred kind range ids
  none-preferred preferred none = rw none same-choice

-- where the set holds the IDs of a list and gets one more, it holds those of the list with that one
-- behind them
pub added-behind :
    (old new ids : List ℕ) (id : ℕ)
    → AreThoseOf old ids
    → AreThoseOf new (id ∷ old)
    → AreThoseOf new (ids ++ id ∷ [])
added-behind old new ids id same added = λ other.
    let test : ℕ → Bool = λ used. used == other
    in let swapped = either-order (test id) (is_used ids other)
    in added other ∙ rw (same other) (rw (list_any-append test ids (id ∷ [])) swapped)
