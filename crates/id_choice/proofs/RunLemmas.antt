-- Claims: a number is one of a map's runs exactly where it lies in a run (`used-lies`, `lies-used`,
-- `free-unused`), and the run beside a number is as long as it can be (`last-up-to-by`,
-- `first-behind-by`). Way: a run of the map is one of its entries, and of two runs the one ends
-- before the number that the other begins behind.
use Rattle.std.proofs.Common.{◌≡◌, ℕ, zero, suc, ◌+◌, ◌-◌, ◌<◌, ◌≤◌, true, false, List, [], ◌∷◌, length, get_or, refl, sym, ◌∙◌, ap, subst, arith, inl, inr, lt_irrefl}
use Rattle.std.specs.Prelude.{Option, Some, None, Contains, MatchOption, ◌==◌}
use Rattle.std.specs.List.{range_with_len}
use Rattle.std.specs.BTreeMap.{BTreeMap, IsOrdered, get}
use Rattle.std.specs.Ordering.{is_gt, nat_cmp}
use Rattle.std.proofs.lemmas.Bool.{cases_lt, eq-eqb, eqb-true, le-ltb, lt-ltb, or_cases, or_left, or_right, false_from_ne_true}
use Rattle.std.proofs.lemmas.Cmp.{nat_cmp_total}
use Rattle.std.proofs.lemmas.Option.{none-some, same_Some}
use Rattle.std.proofs.lemmas.List.Folds.{list_any-append}
use Rattle.std.proofs.lemmas.Map.Lookups.{exact_unsigned}
use Rattle.std.proofs.lemmas.Map.Views.{btree_map_get_iff}
use Rattle.account_model.specs.Ids.{is_used}
use Rattle.id_choice.specs.declared.runs.Run.{Run}
use Rattle.id_choice.specs.RunMaps.{IsRunMap, HasFrom, HasNoneFrom, HasNoneUpTo, HoldsRun, HasUpTo, LiesIn, numbers_of}
use Rattle.id_choice.specs.Runs.{HasNothingFrom, HasNothingUpTo, IsFirstFrom, IsLastUpTo, IsWholeRun}

-- a number up to another doesn't pass it
pub le-not_gt : (a b : ℕ) → a ≤ b → is_gt (nat_cmp a b) ≡ false
le-not_gt a b below = elim (cases_lt a b) [
  | inl less ↦ rw (lt-ltb a b less) refl
  | inr more ↦ rw (le-ltb a b more, eq-eqb a b (omega arith)) refl
]

-- ---- The numbers of a list of runs

-- which numbers follow one another
within-counted :
    (first count number : ℕ)
    → is_used (range_with_len first count) number ≡ true
    → (first ≤ number) × (number < first + count)
within-counted first zero number is = absurd cc
within-counted first (suc count) number is =
    elim (or_cases (first == number) (is_used (range_with_len (first + 1) count) number) is) [
      | inl here ↦
          let same : first ≡ number = eqb-true first number here in (omega arith, omega arith)
      | inr later ↦
          let rest = within-counted (first + 1) count number later
          in (omega (arith, rest.0), omega (arith, rest.1))
    ]

-- and they are those of so many
counted-within :
    (first count number : ℕ)
    → first ≤ number
    → number < first + count
    → is_used (range_with_len first count) number ≡ true
counted-within first zero number above below = absurd (omega arith)
counted-within first (suc count) number above below =
    elim (cases_lt first number) [
      | inl less ↦
          or_right (first == number) (is_used (range_with_len (first + 1) count) number)
          (counted-within (first + 1) count number (omega arith) (omega arith))
      | inr more ↦
          or_left (first == number) (is_used (range_with_len (first + 1) count) number)
          (eq-eqb first number (omega arith))
    ]

-- a number lies in a run of a list
record LiesAmong (runs : List (ℕ × ℕ)) (number : ℕ) : Type 0 where
  first : ℕ
  last : ℕ
  run : Contains runs (first, last)
  begins : first ≤ number
  ends : number ≤ last

-- the same of one more run
among-more :
    (run : ℕ × ℕ) (runs : List (ℕ × ℕ)) (number : ℕ)
    → LiesAmong runs number
    → LiesAmong (run ∷ runs) number
among-more run runs number lies = record {
  first = lies.first;
  last = lies.last;
  run = (suc lies.run.0, omega (arith, lies.run.1), lies.run.2);
  begins = lies.begins;
  ends = lies.ends;
}

-- a number of the runs lies in one
used-among :
    (runs : List (ℕ × ℕ)) (number : ℕ)
    → is_used (numbers_of runs) number ≡ true
    → LiesAmong runs number
used-among [] number is = absurd cc
used-among (run ∷ runs) number is =
    let here = range_with_len run.0 (run.1 + 1 - run.0)
    in let split = list_any-append (λ other. other == number) here (numbers_of runs)
    in elim (or_cases (is_used here number) (is_used (numbers_of runs) number) (sym split ∙ is)) [
      | inl first ↦
          let bounds = within-counted run.0 (run.1 + 1 - run.0) number first
          in record {
            first = run.0;
            last = run.1;
            run = (0, omega arith, refl);
            begins = bounds.0;
            ends = omega (arith, bounds.0, bounds.1);
          }
      | inr later ↦ among-more run runs number (used-among runs number later)
    ]

-- a number of the run at a place is one of the runs
placed-used :
    (runs : List (ℕ × ℕ)) (number place : ℕ) (run : ℕ × ℕ)
    → place < length runs
    → get_or runs place run ≡ run
    → run.0 ≤ number
    → number ≤ run.1
    → is_used (numbers_of runs) number ≡ true
placed-used [] number place run inside is above below = absurd (omega (arith, inside))
placed-used (first ∷ runs) number zero run inside is above below =
    let same : (ℕ × ℕ) → Type 0 = λ r. is_used (numbers_of (r ∷ runs)) number ≡ true
    in let here = range_with_len run.0 (run.1 + 1 - run.0)
    in let begins =
    counted-within run.0 (run.1 + 1 - run.0) number above (omega (arith, above, below))
    in subst same (sym is)
    (list_any-append (λ other. other == number) here (numbers_of runs)
    ∙ or_left (is_used here number) (is_used (numbers_of runs) number) begins)
placed-used (first ∷ runs) number (suc place) run inside is above below =
    let here = range_with_len first.0 (first.1 + 1 - first.0)
    in list_any-append (λ other. other == number) here (numbers_of runs)
    ∙ or_right (is_used here number) (is_used (numbers_of runs) number)
    (placed-used runs number place run (omega (arith, inside)) is above below)

-- each run that begins up to a number ends before it
abbrev pub EndBefore : BTreeMap ℕ ℕ → ℕ → Type 0
EndBefore runs number =
    (first last : ℕ) → HoldsRun runs first last → first ≤ number → last < number

-- ---- The numbers of a map

module _ (runs : BTreeMap ℕ ℕ) (keys : IsOrdered nat_cmp runs) where
  -- a number that is there lies in a run
  pub used-lies :
      (number : ℕ)
      → is_used (numbers_of runs.entries) number ≡ true
      → LiesIn runs number
  used-lies number is =
      let among = used-among runs.entries number is
      in let found = btree_map_get_iff nat_cmp_total exact_unsigned runs keys among.first among.last
      in record {
        first = among.first;
        last = among.last;
        run = found.1 among.run;
        begins = among.begins;
        ends = among.ends;
      }

  -- a number that lies in a run is there
  pub lies-used :
      (number : ℕ)
      → LiesIn runs number
      → is_used (numbers_of runs.entries) number ≡ true
  lies-used number lies =
      let found = btree_map_get_iff nat_cmp_total exact_unsigned runs keys lies.first lies.last
      in let place = found.0 lies.run
      in placed-used runs.entries number place.0 (lies.first, lies.last) place.1 place.2
      lies.begins lies.ends

  -- a number that lies in no run isn't there
  pub free-unused :
      (number : ℕ)
      → (LiesIn runs number → ⊥)
      → is_used (numbers_of runs.entries) number ≡ false
  free-unused number free =
      false_from_ne_true (is_used (numbers_of runs.entries) number)
      (λ is. free (used-lies number is))

module _ (runs : BTreeMap ℕ ℕ) (apart : IsRunMap runs) where
  -- the number before a run lies in none
  before-free :
      (first last number : ℕ)
      → HoldsRun runs first last
      → number + 1 ≡ first
      → LiesIn runs number
      → ⊥
  before-free first last number run is lies =
      let less : lies.first < first = omega (arith, lies.begins, is)
      in let gap = apart.apart lies.first lies.last first last lies.run run less
      in lt_irrefl number (omega (arith, gap, lies.ends, is))

  -- a number behind a run, which no later run begins up to, lies in none
  behind-free :
      (first last number : ℕ)
      → HoldsRun runs first last
      → last < number
      → ((next end : ℕ) → HoldsRun runs next end → next ≤ number → next ≤ first)
      → LiesIn runs number
      → ⊥
  behind-free first last number run past none lies =
      let before = none lies.first lies.last lies.run lies.begins
      in elim (cases_lt lies.first first) [
        | inl less ↦
            let gap = apart.apart lies.first lies.last first last lies.run run less
            in let held = apart.ordered first last run
            in lt_irrefl number (omega (arith, gap, lies.ends, past, held))
        | inr more ↦
            let same : lies.first ≡ first = omega (arith, before, more)
            in let ends : lies.last ≡ last =
            same_Some lies.last last (sym (sym (ap (get nat_cmp runs) same) ∙ lies.run) ∙ run)
            in lt_irrefl number (omega (arith, ends, lies.ends, past))
      ]

  -- behind a run no other begins up to the number behind it
  none-next :
      (first last next end : ℕ)
      → HoldsRun runs first last
      → HoldsRun runs next end
      → next ≤ last + 1
      → next ≤ first
  none-next first last next end run other before = elim (cases_lt first next) [
    | inl less ↦
        let gap = apart.apart first last next end run other less
        in absurd (lt_irrefl next (omega (arith, gap, before)))
    | inr more ↦ more
  ]

  -- a run is as long as it can be
  run-whole :
      (run : Run)
      → HoldsRun runs run.first run.last
      → IsWholeRun (numbers_of runs.entries) run
  run-whole run has = record {
    ordered = apart.ordered run.first run.last has;
    filled = λ number above below. lies-used runs apart.keys number
        (record { first = run.first; last = run.last; run = has; begins = above; ends = below });
    before = λ number is. free-unused runs apart.keys number
        (before-free run.first run.last number has is);
    behind = free-unused runs apart.keys (run.last + 1)
        (behind-free run.first run.last (run.last + 1) has (omega arith)
        (λ next end other before. none-next run.first run.last next end has other before));
  }

  -- the last run up to a number
  pub last-up-to :
      (number : ℕ) (run : Run)
      → HasUpTo runs number run
      → IsLastUpTo (numbers_of runs.entries) number run
  last-up-to number run up = record {
    whole = run-whole run up.has;
    begins = up.begins;
    none_behind = λ n past before. free-unused runs apart.keys n
        (behind-free run.first run.last n up.has past
        (λ next end other begins. up.last_one next end other (omega (arith, begins, before))));
  }

  -- there is none up to a number
  pub none-up-to :
      (number : ℕ)
      → HasNoneUpTo runs number
      → HasNothingUpTo (numbers_of runs.entries) number
  none-up-to number none = λ n before. free-unused runs apart.keys n
      (λ lies. none-some lies.last
      (sym (none lies.first (omega (arith, lies.begins, before))) ∙ lies.run))

  -- a run that begins up to a number and doesn't end before it is the first from there
  pub first-here :
      (number : ℕ) (run : Run)
      → HasUpTo runs number run
      → number ≤ run.last
      → IsFirstFrom (numbers_of runs.entries) number run
  first-here number run up ends = record {
    whole = run-whole run up.has;
    ends = ends;
    none_before = λ n above below. absurd (lt_irrefl n (omega (arith, above, below, up.begins)));
  }

  -- by whether there is one
  pub last-up-to-by :
      (number : ℕ) (found : Option Run)
      → MatchOption found (HasNoneUpTo runs number) (HasUpTo runs number)
      → MatchOption found (HasNothingUpTo (numbers_of runs.entries) number)
      (IsLastUpTo (numbers_of runs.entries) number)
  last-up-to-by number None none = none-up-to number none
  last-up-to-by number (Some run) up = last-up-to number run up

  -- where the last run up to a number ends before it, so does each that begins there
  pub passed-by-last :
      (number : ℕ) (run : Run)
      → HasUpTo runs number run
      → run.last < number
      → EndBefore runs number
  passed-by-last number run up past = λ first last other before.
      elim (cases_lt first run.first) [
        | inl less ↦
            let gap = apart.apart first last run.first run.last other up.has less
            in omega (arith, gap, up.begins)
        | inr more ↦
            let same : first ≡ run.first = omega (arith, more, up.last_one first last other before)
            in let ends : last ≡ run.last =
            same_Some last run.last (sym (sym (ap (get nat_cmp runs) same) ∙ other) ∙ up.has)
            in omega (arith, ends, past)
      ]

  -- and where there is none, too
  pub passed-by-none : (number : ℕ) → HasNoneUpTo runs number → EndBefore runs number
  passed-by-none number none = λ first last other before.
      absurd (none-some last (sym (none first before) ∙ other))

  -- then a number behind it lies in a run that begins behind it
  begins-behind :
      (number n : ℕ)
      → EndBefore runs number
      → number ≤ n
      → (lies : LiesIn runs n)
      → number < lies.first
  begins-behind number n passed above lies = elim (cases_lt number lies.first) [
    | inl less ↦ less
    | inr more ↦
        let past = passed lies.first lies.last lies.run more
        in absurd (lt_irrefl n (omega (arith, past, above, lies.ends)))
  ]

  -- so the first run from there is the first that doesn't end before it
  pub first-behind-by :
      (number : ℕ) (found : Option Run)
      → EndBefore runs number
      → MatchOption found (HasNoneFrom runs number) (HasFrom runs number)
      → MatchOption found (HasNothingFrom (numbers_of runs.entries) number)
      (IsFirstFrom (numbers_of runs.entries) number)
  first-behind-by number None passed none = λ n above. free-unused runs apart.keys n
      (λ lies. none-some lies.last
      (sym (none lies.first (omega (arith, begins-behind number n passed above lies))) ∙ lies.run))
  first-behind-by number (Some run) passed from = record {
    whole = run-whole run from.has;
    ends = omega (arith, from.begins, apart.ordered run.first run.last from.has);
    none_before = λ n above below. free-unused runs apart.keys n (λ lies.
        let behind = begins-behind number n passed above lies
        in let first = from.first_one lies.first lies.last lies.run (omega (arith, behind))
        in lt_irrefl n (omega (arith, first, lies.begins, below)));
  }
