-- Claims: the run beside an end of a range has the greatest or the least used ID of the range
-- (`greatest-used-is`, `least-used-is`), and the free one next to it (`least-behind`,
-- `greatest-before`); from these follows the choice (`regular-free`, ..). Way: neither the ID before
-- a run nor the one behind it is used.
use Rattle.std.proofs.Common.{◌≡◌, ℕ, ◌+◌, ◌-◌, ◌<◌, ◌≤◌, true, false, List, sym, ◌∙◌, subst, arith, inl, inr, lt_irrefl}
use Rattle.std.specs.Prelude.{Option, Some, None, min, max}
use Rattle.std.proofs.lemmas.Bool.{cases_lt, false≢true}
use Rattle.account_model.specs.declared.settings.Kind.{Kind}
use Rattle.account_model.specs.declared.settings.Kind.TheVariants.{Regular, System}
use Rattle.account_model.specs.Ids.{FreeIn, IsChosenId, IsGreatest, IsLeast, RegularChoice, LeastFree, NoneFree, SystemChoice, BeforeLeast, GreatestFree, NoneLeft, UsedIn, is_used}
use Rattle.account_model.proofs.Sets.{contains-in, in-contains, in-used, used-in}
use Rattle.id_choice.specs.declared.runs.Run.{Run}
use Rattle.id_choice.specs.Used.{FindsGreatest, FindsLeast}
use Rattle.id_choice.specs.Runs.{HasNothingFrom, HasNothingUpTo, IsFirstFrom, IsLastUpTo}

module _ (low high : ℕ) (used : List ℕ) where
  -- an ID of the range that passes the test is a used one
  used-is : (id : ℕ) → low ≤ id → id ≤ high → is_used used id ≡ true → UsedIn low high used id
  used-is id above below is = record {
    not_below = above;
    not_above = below;
    taken = in-contains used id (used-in used id is);
  }

  -- and one that fails it is free
  free-is : (id : ℕ) → low ≤ id → id ≤ high → is_used used id ≡ false → FreeIn low high used id
  free-is id above below is = record {
    not_below = above;
    not_above = below;
    free = λ contains. false≢true (sym is ∙ in-used used id (contains-in used id contains));
  }

  -- a used ID doesn't fail the test
  used-not : (id : ℕ) → UsedIn low high used id → is_used used id ≡ false → ⊥
  used-not id taken is = false≢true (sym is ∙ in-used used id (contains-in used id taken.taken))

  -- and a free one doesn't pass it
  free-not : (id : ℕ) → FreeIn low high used id → is_used used id ≡ true → ⊥
  free-not id free is = free.free (in-contains used id (used-in used id is))

  -- no ID of the range is used where no ID up to its end is
  pub none-up-to :
      HasNothingUpTo used high
      → (id : ℕ)
      → UsedIn low high used id
      → ⊥
  none-up-to nothing id taken = used-not id taken (nothing id taken.not_above)

  -- nor where the last run ends before it
  pub none-behind :
      (run : Run)
      → IsLastUpTo used high run
      → run.last < low
      → (id : ℕ)
      → UsedIn low high used id
      → ⊥
  none-behind run is past id taken =
      used-not id taken (is.none_behind id (omega (arith, past, taken.not_below)) taken.not_above)

  -- else the greatest used one is the last of that run in the range
  pub greatest-used-is :
      (run : Run)
      → IsLastUpTo used high run
      → low ≤ high
      → low ≤ run.last
      → IsGreatest (UsedIn low high used) (min run.last high)
  greatest-used-is run is held reaches = record {
    member = used-is (min run.last high) (omega (arith, held, reaches)) (omega arith)
        (is.whole.filled (min run.last high) (omega (arith, is.begins, is.whole.ordered))
        (omega arith));
    greatest = λ id taken. elim (cases_lt run.last id) [
      | inl past ↦ absurd (used-not id taken (is.none_behind id past taken.not_above))
      | inr inside ↦ omega (arith, inside, taken.not_above)
    ];
  }

  -- no ID of the range is used where no ID from its start on is
  pub none-from :
      HasNothingFrom used low
      → (id : ℕ)
      → UsedIn low high used id
      → ⊥
  none-from nothing id taken = used-not id taken (nothing id taken.not_below)

  -- nor where the first run begins behind it
  pub none-before :
      (run : Run)
      → IsFirstFrom used low run
      → high < run.first
      → (id : ℕ)
      → UsedIn low high used id
      → ⊥
  none-before run is past id taken =
      used-not id taken (is.none_before id taken.not_below (omega (arith, past, taken.not_above)))

  -- else the least used one is the first of that run in the range
  pub least-used-is :
      (run : Run)
      → IsFirstFrom used low run
      → low ≤ high
      → run.first ≤ high
      → IsLeast (UsedIn low high used) (max run.first low)
  least-used-is run is held reaches = record {
    member = used-is (max run.first low) (omega arith) (omega (arith, held, reaches))
        (is.whole.filled (max run.first low) (omega arith)
        (omega (arith, is.ends, is.whole.ordered)));
    least = λ id taken. elim (cases_lt id run.first) [
      | inl before ↦ absurd (used-not id taken (is.none_before id taken.not_below before))
      | inr inside ↦ omega (arith, inside, taken.not_below)
    ];
  }

  -- no ID of the range is free where a run holds it all
  pub none-free :
      (run : Run)
      → ((id : ℕ) → run.first ≤ id → id ≤ run.last → is_used used id ≡ true)
      → run.first ≤ low
      → high ≤ run.last
      → (id : ℕ)
      → FreeIn low high used id
      → ⊥
  none-free run filled begins ends id free =
      free-not id free (filled id (omega (arith, begins, free.not_below))
      (omega (arith, ends, free.not_above)))

  -- the first ID is the least free one where it isn't used
  pub least-first : low ≤ high → is_used used low ≡ false → IsLeast (FreeIn low high used) low
  least-first held is = record {
    member = free-is low (omega arith) held is;
    least = λ id free. free.not_below;
  }

  -- and else the one behind the run that holds it
  pub least-behind :
      (run : Run)
      → IsLastUpTo used low run
      → low ≤ run.last
      → run.last < high
      → IsLeast (FreeIn low high used) (run.last + 1)
  least-behind run is reaches past = record {
    member = free-is (run.last + 1) (omega (arith, reaches)) (omega (arith, past)) is.whole.behind;
    least = λ id free. elim (cases_lt run.last id) [
      | inl behind ↦ omega (arith, behind)
      | inr inside ↦
          absurd (free-not id free
          (is.whole.filled id (omega (arith, is.begins, free.not_below)) inside))
    ];
  }

  -- the last ID is the greatest free one where it isn't used
  pub greatest-last :
      low ≤ high
      → is_used used high ≡ false
      → IsGreatest (FreeIn low high used) high
  greatest-last held is = record {
    member = free-is high held (omega arith) is;
    greatest = λ id free. free.not_above;
  }

  -- and else the one before the run that holds it
  pub greatest-before :
      (run : Run)
      → IsFirstFrom used high run
      → run.first ≤ high
      → low < run.first
      → IsGreatest (FreeIn low high used) (run.first - 1)
  greatest-before run is reaches past = record {
    member = free-is (run.first - 1) (omega (arith, past)) (omega (arith, reaches))
        (is.whole.before (run.first - 1) (omega (arith, past)));
    greatest = λ id free. elim (cases_lt id run.first) [
      | inl before ↦ omega (arith, before)
      | inr inside ↦
          absurd (free-not id free
          (is.whole.filled id inside (omega (arith, is.ends, free.not_above))))
    ];
  }

  -- ---- The choice

  -- where the last ID of a regular range is used, the choice is the least free one
  pub regular-free :
      (id : ℕ) (choice : Option ℕ)
      → IsGreatest (UsedIn low high used) id
      → high ≤ id
      → FindsLeast (FreeIn low high used) choice
      → RegularChoice low high used choice
  regular-free id None taken last found = NoneFree found
  regular-free id (Some free) taken last found =
      let same : id ≡ high = omega (arith, last, taken.member.not_above)
      in LeastFree (subst (λ end. UsedIn low high used end) same taken.member) found

  -- the choice from a system range is the one before its least used ID
  pub system-before :
      (id : ℕ)
      → IsLeast (UsedIn low high used) id
      → low < id
      → SystemChoice low high used (Some (id - 1))
  system-before id taken past =
      let same : id ≡ id - 1 + 1 = omega (arith, past)
      in BeforeLeast (subst (λ end. IsLeast (UsedIn low high used) end) same taken)
      (omega (arith, past))

  -- where the first ID of a system range is used, the choice is the greatest free one
  pub system-free :
      (id : ℕ) (choice : Option ℕ)
      → IsLeast (UsedIn low high used) id
      → id ≤ low
      → FindsGreatest (FreeIn low high used) choice
      → SystemChoice low high used choice
  system-free id None taken first found = NoneLeft found
  system-free id (Some free) taken first found =
      let same : id ≡ low = omega (arith, first, taken.member.not_below)
      in GreatestFree (subst (λ begin. UsedIn low high used begin) same taken.member) found

  -- no ID of an empty range is free
  none-empty : high < low → (id : ℕ) → FreeIn low high used id → ⊥
  none-empty empty id free = lt_irrefl id (omega (arith, empty, free.not_below, free.not_above))

-- the choice from an empty range is none
pub empty-choice :
    (kind : Kind) (low high : ℕ) (used : List ℕ)
    → high < low
    → IsChosenId kind (Some (low, high)) used None
empty-choice Regular low high used empty = NoneFree (none-empty low high used empty)
empty-choice System low high used empty = NoneLeft (none-empty low high used empty)
