-- The chosen ID is the one that the conditions on sets name, and they name one alone.
use Rattle.std.proofs.Common.{◌≡◌, ℕ, ◌+◌, ◌-◌, ◌≤◌, Bool, true, false, List, refl, sym, ◌∙◌, ap, subst, arith, inl, inr, lt_irrefl}
use Rattle.std.specs.Prelude.{Option, Some, None, nat_le, if◌then◌else◌}
use Rattle.std.proofs.Math.Nat.{le_antisymm}
use Rattle.std.proofs.lemmas.Bool.{leb-true, true≢false}
use Rattle.std.proofs.lemmas.Bool.Decides.{leb_tells}
use Rattle.account_model.specs.declared.settings.Kind.{Kind}
use Rattle.account_model.specs.declared.settings.Kind.TheVariants.{Regular, System}
use Rattle.account_model.specs.Ids.{UsedIn, FreeIn, IsLeast, IsGreatest, RegularChoice, FirstOfUnused, AfterGreatest, LeastFree, NoneFree, SystemChoice, LastOfUnused, BeforeLeast, GreatestFree, NoneLeft, least_of, greatest_of, least_free, greatest_free, regular_id, system_id, id_between, IsChosenId, chosen_id}
use Rattle.acct_text.proofs.NumberLaws.{some-inj}
use Rattle.account_model.proofs.Sets.{least-in, least-below, least-none, greatest-in, greatest-above, greatest-none}
use Rattle.account_model.proofs.FreeIds.{used_in, used-listed, listed-used, least_free-is, least_free-none, greatest_free-is, greatest_free-none}

-- ---- The choice from a range

-- the least free ID, or none, is the choice where the maximum is used
least-choice :
    (low high : ℕ) (used : List ℕ) (o : Option ℕ)
    → UsedIn low high used high
    → least_free low high used ≡ o
    → RegularChoice low high used o
least-choice low high used None top e = NoneFree (least_free-none low high used e)
least-choice low high used (Some id) top e = LeastFree top (least_free-is low high used id e)

-- the greatest of the used IDs of the range
greatest-used :
    (low high : ℕ) (used : List ℕ) (id : ℕ)
    → greatest_of (used_in low high used) ≡ Some id
    → IsGreatest (UsedIn low high used) id
greatest-used low high used id e = record {
  member = listed-used low high used id (greatest-in (used_in low high used) id e);
  greatest = λ other is. greatest-above (used_in low high used) id other e
      (used-listed low high used other is);
}

-- the least of them
least-used :
    (low high : ℕ) (used : List ℕ) (id : ℕ)
    → least_of (used_in low high used) ≡ Some id
    → IsLeast (UsedIn low high used) id
least-used low high used id e = record {
  member = listed-used low high used id (least-in (used_in low high used) id e);
  least = λ other is. least-below (used_in low high used) id other e
      (used-listed low high used other is);
}

-- all used IDs lie below the one behind the greatest
above-all : (id high : ℕ) → nat_le (id + 1) high ≡ false → high ≤ id
above-all id high e = elim (leb_tells (id + 1) high) [
  | inl below ↦ let wrong : true ≡ false = sym below.0 ∙ e in cc
  | inr past ↦ omega (arith, past.1)
]

-- the choice behind the greatest used ID
after-greatest :
    (low high : ℕ) (used : List ℕ) (id : ℕ) (fits : Bool)
    → IsGreatest (UsedIn low high used) id
    → nat_le (id + 1) high ≡ fits
    → RegularChoice low high used (if fits then Some (id + 1) else least_free low high used)
after-greatest low high used id true top e = AfterGreatest top (leb-true (id + 1) high e)
after-greatest low high used id false top e =
    let at : id ≡ high = le_antisymm top.member.not_above (above-all id high e)
    in least-choice low high used (least_free low high used)
    (subst (λ n. UsedIn low high used n) at top.member) refl

-- the choice from a regular range, by the greatest used ID
regular-by :
    (low high : ℕ) (used : List ℕ)
    → low ≤ high
    → (o : Option ℕ)
    → greatest_of (used_in low high used) ≡ o
    → RegularChoice low high used (elim o [
      | None ↦ Some low
      | Some id ↦ if nat_le (id + 1) high
          then Some (id + 1) else least_free low high used
    ])
regular-by low high used within None e =
    FirstOfUnused within (λ id is. greatest-none (used_in low high used) id e
    (used-listed low high used id is))
regular-by low high used within (Some id) e =
    after-greatest low high used id (nat_le (id + 1) high) (greatest-used low high used id e) refl

-- the choice from a regular range is computed
pub regular_id-is :
    (low high : ℕ) (used : List ℕ)
    → low ≤ high
    → RegularChoice low high used (regular_id low high used)
regular_id-is low high used within =
    regular-by low high used within (greatest_of (used_in low high used)) refl

-- the greatest free ID, or none, is the choice where the minimum is used
greatest-choice :
    (low high : ℕ) (used : List ℕ) (o : Option ℕ)
    → UsedIn low high used low
    → greatest_free low high used ≡ o
    → SystemChoice low high used o
greatest-choice low high used None bottom e = NoneLeft (greatest_free-none low high used e)
greatest-choice low high used (Some id) bottom e =
    GreatestFree bottom (greatest_free-is low high used id e)

-- all used IDs lie above the one before the least
below-all : (low id : ℕ) → nat_le (low + 1) id ≡ false → id ≤ low
below-all low id e = elim (leb_tells (low + 1) id) [
  | inl below ↦ let wrong : true ≡ false = sym below.0 ∙ e in cc
  | inr past ↦ omega (arith, past.1)
]

-- the choice before the least used ID
before-least :
    (low high : ℕ) (used : List ℕ) (id : ℕ) (fits : Bool)
    → IsLeast (UsedIn low high used) id
    → nat_le (low + 1) id ≡ fits
    → SystemChoice low high used (if fits then Some (id - 1) else greatest_free low high used)
before-least low high used id true bottom e =
    let above : low + 1 ≤ id = leb-true (low + 1) id e
    in let at : id ≡ id - 1 + 1 = omega (arith, above)
    in BeforeLeast (subst (λ n. IsLeast (UsedIn low high used) n) at bottom) (omega (arith, above))
before-least low high used id false bottom e =
    let at : id ≡ low = le_antisymm (below-all low id e) bottom.member.not_below
    in greatest-choice low high used (greatest_free low high used)
    (subst (λ n. UsedIn low high used n) at bottom.member) refl

-- the choice from a system range, by the least used ID
system-by :
    (low high : ℕ) (used : List ℕ)
    → low ≤ high
    → (o : Option ℕ)
    → least_of (used_in low high used) ≡ o
    → SystemChoice low high used (elim o [
      | None ↦ Some high
      | Some id ↦ if nat_le (low + 1) id
          then Some (id - 1) else greatest_free low high used
    ])
system-by low high used within None e =
    LastOfUnused within (λ id is. least-none (used_in low high used) id e
    (used-listed low high used id is))
system-by low high used within (Some id) e =
    before-least low high used id (nat_le (low + 1) id) (least-used low high used id e) refl

-- the choice from a system range is computed
pub system_id-is :
    (low high : ℕ) (used : List ℕ)
    → low ≤ high
    → SystemChoice low high used (system_id low high used)
system_id-is low high used within =
    system-by low high used within (least_of (used_in low high used)) refl

-- ---- The conditions name one choice

-- a set has one least member
least-one : (Member : ℕ → Type 0) (a b : ℕ) → IsLeast Member a → IsLeast Member b → a ≡ b
least-one Member a b is_a is_b = le_antisymm (is_a.least b is_b.member) (is_b.least a is_a.member)

-- and one greatest member
greatest-one : (Member : ℕ → Type 0) (a b : ℕ) → IsGreatest Member a → IsGreatest Member b → a ≡ b
greatest-one Member a b is_a is_b =
    le_antisymm (is_b.greatest a is_a.member) (is_a.greatest b is_b.member)

-- the number after the greatest used one is free
after-free :
    (low high : ℕ) (used : List ℕ) (id : ℕ)
    → IsGreatest (UsedIn low high used) id
    → id + 1 ≤ high
    → FreeIn low high used (id + 1)
after-free low high used id top within =
    let above : low ≤ id = top.member.not_below
    in record {
      not_below = omega (arith, above);
      not_above = within;
      free = λ contains.
          let is : UsedIn low high used (id + 1) = record {
            not_below = omega (arith, above);
            not_above = within;
            taken = contains;
          }
          in let wrong : id + 1 ≤ id = top.greatest (id + 1) is
          in lt_irrefl id (omega (arith, wrong));
    }

-- the ID behind the greatest used one is free
before-free :
    (low high : ℕ) (used : List ℕ) (id : ℕ)
    → IsLeast (UsedIn low high used) (id + 1)
    → low ≤ id
    → FreeIn low high used id
before-free low high used id bottom within =
    let below : id + 1 ≤ high = bottom.member.not_above
    in record {
      not_below = within;
      not_above = omega (arith, below);
      free = λ contains.
          let is : UsedIn low high used id = record {
            not_below = within;
            not_above = omega
                (arith, below);
            taken = contains;
          }
          in let wrong : id + 1 ≤ id = bottom.least id is
          in lt_irrefl id (omega (arith, wrong));
    }

-- the minimum is free where no ID is used
low-free :
    (low high : ℕ) (used : List ℕ)
    → low ≤ high
    → ((id : ℕ) → UsedIn low high used id → ⊥)
    → FreeIn low high used low
low-free low high used within unused = record {
  not_below = omega arith;
  not_above = within;
  free = λ contains. unused low (record {
    not_below = omega arith;
    not_above = within;
    taken = contains;
  });
}

-- and so is the maximum
high-free :
    (low high : ℕ) (used : List ℕ)
    → low ≤ high
    → ((id : ℕ) → UsedIn low high used id → ⊥)
    → FreeIn low high used high
high-free low high used within unused = record {
  not_below = within;
  not_above = omega arith;
  free = λ contains. unused high (record {
    not_below = within;
    not_above = omega arith;
    taken = contains;
  });
}

-- no used ID lies behind the maximum
past-top :
    (low high : ℕ) (used : List ℕ) (id : ℕ)
    → IsGreatest (UsedIn low high used) id
    → id + 1 ≤ high
    → UsedIn low high used high
    → ⊥
past-top low high used id top within used_high = let wrong : high ≤ id =
    top.greatest high used_high in lt_irrefl id (omega (arith, wrong, within))

-- and none before the minimum
past-bottom :
    (low high : ℕ) (used : List ℕ) (id : ℕ)
    → IsLeast (UsedIn low high used) (id + 1)
    → low ≤ id
    → UsedIn low high used low
    → ⊥
past-bottom low high used id bottom within used_low = let wrong : id + 1 ≤ low =
    bottom.least low used_low in lt_irrefl id (omega (arith, wrong, within))

-- there is one choice from a regular range
pub regular-one :
    (low high : ℕ) (used : List ℕ) (a b : Option ℕ)
    → RegularChoice low high used a
    → RegularChoice low high used b
    → a ≡ b
regular-one low high used a b (FirstOfUnused within unused) (FirstOfUnused within' unused') = refl
regular-one low high used a b (FirstOfUnused within unused) (AfterGreatest {id =
    j} top fits) = absurd (unused j top.member)
regular-one low high used a b (FirstOfUnused within unused) (LeastFree top is) =
    absurd (unused high top)
regular-one low high used a b (FirstOfUnused within unused) (NoneFree none) =
    absurd (none low (low-free low high used within unused))
regular-one low high used a b (AfterGreatest {id =
    i} top fits) (FirstOfUnused within unused) = absurd (unused i top.member)
regular-one low high used a b (AfterGreatest {id =
    i} top fits) (AfterGreatest {id = j} top' fits') =
    ap (λ n. Some (n + 1)) (greatest-one (UsedIn low high used) i j top top')
regular-one low high used a b (AfterGreatest {id =
    i} top fits) (LeastFree used_high is) = absurd (past-top low high used i top fits used_high)
regular-one low high used a b (AfterGreatest {id =
    i} top fits) (NoneFree none) = absurd (none (i + 1) (after-free low high used i top fits))
regular-one low high used a b (LeastFree top is) (FirstOfUnused within unused) =
    absurd (unused high top)
regular-one low high used a b (LeastFree used_high is) (AfterGreatest {id =
    j} top fits) = absurd (past-top low high used j top fits used_high)
regular-one low high used a b (LeastFree {id =
    i} top is) (LeastFree {id = j} top' is') = ap Some (least-one (FreeIn low high used) i j is is')
regular-one low high used a b (LeastFree {id =
    i} top is) (NoneFree none) = absurd (none i is.member)
regular-one low high used a b (NoneFree none) (FirstOfUnused within unused) =
    absurd (none low (low-free low high used within unused))
regular-one low high used a b (NoneFree none) (AfterGreatest {id =
    j} top fits) = absurd (none (j + 1) (after-free low high used j top fits))
regular-one low high used a b (NoneFree none) (LeastFree {id =
    j} top is) = absurd (none j is.member)
regular-one low high used a b (NoneFree none) (NoneFree none') = refl

-- and one from a system range
pub system-one :
    (low high : ℕ) (used : List ℕ) (a b : Option ℕ)
    → SystemChoice low high used a
    → SystemChoice low high used b
    → a ≡ b
system-one low high used a b (LastOfUnused within unused) (LastOfUnused within' unused') = refl
system-one low high used a b (LastOfUnused within unused) (BeforeLeast {id =
    j} bottom fits) = absurd (unused (j + 1) bottom.member)
system-one low high used a b (LastOfUnused within unused) (GreatestFree bottom is) =
    absurd (unused low bottom)
system-one low high used a b (LastOfUnused within unused) (NoneLeft none) =
    absurd (none high (high-free low high used within unused))
system-one low high used a b (BeforeLeast {id =
    i} bottom fits) (LastOfUnused within unused) = absurd (unused (i + 1) bottom.member)
system-one low high used a b (BeforeLeast {id =
    i} bottom fits) (BeforeLeast {id = j} bottom' fits') =
    ap Some (let e : i + 1 ≡ j + 1 = least-one (UsedIn low high used) (i + 1) (j + 1) bottom bottom'
    in omega (arith, e))
system-one low high used a b (BeforeLeast {id = i} bottom fits) (GreatestFree used_low is) =
    absurd (past-bottom low high used i bottom fits used_low)
system-one low high used a b (BeforeLeast {id =
    i} bottom fits) (NoneLeft none) = absurd (none i (before-free low high used i bottom fits))
system-one low high used a b (GreatestFree bottom is) (LastOfUnused within unused) =
    absurd (unused low bottom)
system-one low high used a b (GreatestFree used_low is) (BeforeLeast {id =
    j} bottom fits) = absurd (past-bottom low high used j bottom fits used_low)
system-one low high used a b (GreatestFree {id = i} bottom is) (GreatestFree {id = j} bottom' is') =
    ap Some (greatest-one (FreeIn low high used) i j is is')
system-one low high used a b (GreatestFree {id =
    i} bottom is) (NoneLeft none) = absurd (none i is.member)
system-one low high used a b (NoneLeft none) (LastOfUnused within unused) =
    absurd (none high (high-free low high used within unused))
system-one low high used a b (NoneLeft none) (BeforeLeast {id =
    j} bottom fits) = absurd (none j (before-free low high used j bottom fits))
system-one low high used a b (NoneLeft none) (GreatestFree {id =
    j} bottom is) = absurd (none j is.member)
system-one low high used a b (NoneLeft none) (NoneLeft none') = refl

-- ---- Any range

-- an empty range has no free ID
empty-free :
    (low high : ℕ) (used : List ℕ)
    → nat_le low high ≡ false
    → (id : ℕ)
    → FreeIn low high used id
    → ⊥
empty-free low high used e id free = elim (leb_tells low high) [
  | inl below ↦ true≢false (sym below.0 ∙ e)
  | inr past ↦ lt_irrefl id (omega (arith, past.1, free.not_below, free.not_above))
]

-- the choice from a range that may be empty
chosen-between :
    (kind : Kind) (low high : ℕ) (used : List ℕ) (within : Bool)
    → nat_le low high ≡ within
    → IsChosenId kind (Some (low, high)) used
    (if within then id_between kind low high used else None)
chosen-between Regular low high used true e = regular_id-is low high used (leb-true low high e)
chosen-between Regular low high used false e = NoneFree (empty-free low high used e)
chosen-between System low high used true e = system_id-is low high used (leb-true low high e)
chosen-between System low high used false e = NoneLeft (empty-free low high used e)

-- what is computed is the choice
pub chosen_id-is :
    (kind : Kind) (range : Option (ℕ × ℕ)) (used : List ℕ)
    → IsChosenId kind range used (chosen_id kind range used)
chosen_id-is kind None used = refl
chosen_id-is kind (Some range) used =
    chosen-between kind range.0 range.1 used (nat_le range.0 range.1) refl

-- there is one choice
pub chosen-one :
    (kind : Kind) (range : Option (ℕ × ℕ)) (used : List ℕ) (a b : Option ℕ)
    → IsChosenId kind range used a
    → IsChosenId kind range used b
    → a ≡ b
chosen-one kind None used a b is_a is_b = is_a ∙ sym is_b
chosen-one Regular (Some range) used a b is_a is_b = regular-one range.0 range.1 used a b is_a is_b
chosen-one System (Some range) used a b is_a is_b = system-one range.0 range.1 used a b is_a is_b

-- ---- A chosen ID is free

-- what is chosen from a regular range is free
regular-free :
    (low high : ℕ) (used : List ℕ) (choice : Option ℕ) (id : ℕ)
    → RegularChoice low high used choice
    → choice ≡ Some id
    → FreeIn low high used id
regular-free low high used choice id (FirstOfUnused within unused) e =
    subst (λ n. FreeIn low high used n) (some-inj e) (low-free low high used within unused)
regular-free low high used choice id (AfterGreatest {id = i} top fits) e =
    subst (λ n. FreeIn low high used n) (some-inj e) (after-free low high used i top fits)
regular-free low high used choice id (LeastFree top is) e =
    subst (λ n. FreeIn low high used n) (some-inj e) is.member
regular-free low high used choice id (NoneFree none) e = cc

-- and so is what is chosen from a system range
system-free :
    (low high : ℕ) (used : List ℕ) (choice : Option ℕ) (id : ℕ)
    → SystemChoice low high used choice
    → choice ≡ Some id
    → FreeIn low high used id
system-free low high used choice id (LastOfUnused within unused) e =
    subst (λ n. FreeIn low high used n) (some-inj e) (high-free low high used within unused)
system-free low high used choice id (BeforeLeast {id = i} bottom fits) e =
    subst (λ n. FreeIn low high used n) (some-inj e) (before-free low high used i bottom fits)
system-free low high used choice id (GreatestFree bottom is) e =
    subst (λ n. FreeIn low high used n) (some-inj e) is.member
system-free low high used choice id (NoneLeft none) e = cc

-- a chosen ID lies in its range and isn't used
pub chosen-free :
    (kind : Kind) (low high : ℕ) (used : List ℕ) (id : ℕ)
    → chosen_id kind (Some (low, high)) used ≡ Some id
    → FreeIn low high used id
chosen-free Regular low high used id e = regular-free low high used
    (chosen_id Regular (Some (low, high)) used) id (chosen_id-is Regular (Some (low, high)) used) e
chosen-free System low high used id e = system-free low high used
    (chosen_id System (Some (low, high)) used) id (chosen_id-is System (Some (low, high)) used) e
