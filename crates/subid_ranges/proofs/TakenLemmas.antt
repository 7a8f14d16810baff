-- Claim: numbers meet the newest range (`newest-met`) or the last run that begins up to them, or
-- are free (`met-by`). Way: a number of a run is taken, and behind the last run up to a number
-- nothing is.
use Rattle.std.proofs.Common.{◌≡◌, ℕ, ◌≤◌, true, false, List, refl, ◌∙◌, ap, arith, inl, inr, lt_irrefl}
use Rattle.std.specs.Prelude.{Option, Some, None, MatchOption, nat_le}
use Rattle.std.proofs.lemmas.Bool.{and_from, and_left, and_right, cases_lt, le-leb, lt-leb, or_from, or_left, or_right}
use Rattle.std.proofs.lemmas.Option.{MatchOption-at_some}
use Rattle.account_model.specs.Ids.{is_used}
use Rattle.id_choice.specs.declared.runs.Run.{Run}
use Rattle.id_choice.specs.Runs.{HasNothingUpTo, IsLastUpTo}
use Rattle.subid_ranges.specs.declared.taken.Taken.{Taken}
use Rattle.subid_ranges.specs.Numbers.{MeetsRun, MissesRun, is_in_run}
use Rattle.subid_ranges.specs.Taken.{AreFree, AreMet}

-- a number of a run passes its test
of-run :
    (run : Run) (number : ℕ)
    → run.first ≤ number
    → number ≤ run.last
    → is_in_run (Some run) number ≡ true
of-run run number above below =
    and_from (nat_le run.first number) (nat_le number run.last) (le-leb run.first number above)
    (le-leb number run.last below)

-- and one that lies elsewhere doesn't
not-of :
    (found : Option Run) (first last number : ℕ)
    → MissesRun found first last
    → first ≤ number
    → number ≤ last
    → is_in_run found number ≡ false
not-of None first last number misses above below = refl
not-of (Some run) first last number misses above below = elim (cases_lt run.last first) [
  | inl before ↦
      and_right (nat_le run.first number) (nat_le number run.last)
      (lt-leb number run.last (omega (arith, before, above)))
  | inr reaches ↦
      and_left (nat_le run.first number) (nat_le number run.last)
      (lt-leb run.first number (omega (arith, misses reaches, below)))
]

module _ (taken : Taken) (first last : ℕ) where
  -- the newest range has one of the numbers
  pub newest-met :
      (end : ℕ)
      → ((run : Run) → taken.newest ≡ Some run → run.first ≤ run.last)
      → MeetsRun taken.newest first last end
      → AreMet taken first last end
  newest-met end ordered meets = record {
    begin = meets.run.first;
    begins = meets.begins;
    ordered = omega (arith, ordered meets.run meets.is, meets.ends);
    reaches = meets.reaches;
    filled = λ number above below.
        or_right (is_used taken.runs number) (is_in_run taken.newest number)
        (ap (λ found. is_in_run found number) meets.is
        ∙ of-run meets.run number above (omega (arith, below, meets.ends)));
  }

  module _
      (found : Option Run)
      (up : MatchOption found (HasNothingUpTo taken.runs last) (IsLastUpTo taken.runs last)) where
    -- the last run that begins up to them has one
    settled-met : (end : ℕ) → MeetsRun found first last end → AreMet taken first last end
    settled-met end meets =
        let whole = (MatchOption-at_some (HasNothingUpTo taken.runs last)
        (IsLastUpTo taken.runs last) meets.run meets.is up).whole
        in record {
          begin = meets.run.first;
          begins = meets.begins;
          ordered = omega (arith, whole.ordered, meets.ends);
          reaches = meets.reaches;
          filled = λ number above below.
              or_left (is_used taken.runs number) (is_in_run taken.newest number)
              (whole.filled number above (omega (arith, below, meets.ends)));
        }

-- no run has one of the numbers
unused-up-to :
    (used : List ℕ) (found : Option Run) (first last : ℕ)
    → MatchOption found (HasNothingUpTo used last) (IsLastUpTo used last)
    → MissesRun found first last
    → (number : ℕ)
    → first ≤ number
    → number ≤ last
    → is_used used number ≡ false
unused-up-to used None first last nothing misses number above below = nothing number below
unused-up-to used (Some run) first last up misses number above below =
    elim (cases_lt run.last first) [
      | inl before ↦ up.none_behind number (omega (arith, before, above)) below
      | inr reaches ↦ absurd (lt_irrefl last (omega (arith, misses reaches, up.begins)))
    ]

module _ (taken : Taken) (first last : ℕ) where
  -- neither the newest range nor a run has one of the numbers
  none-met :
      (found : Option Run)
      → MatchOption found (HasNothingUpTo taken.runs last) (IsLastUpTo taken.runs last)
      → MissesRun taken.newest first last
      → MissesRun found first last
      → AreFree taken first last
  none-met found up newest misses = λ number above below.
      or_from (is_used taken.runs number) (is_in_run taken.newest number)
      (unused-up-to taken.runs found first last up misses number above below)
      (not-of taken.newest first last number newest above below)

  -- by what the last run answers, where the newest range has none of them
  pub met-by :
      (found : Option Run) (answer : Option ℕ)
      → MatchOption found (HasNothingUpTo taken.runs last) (IsLastUpTo taken.runs last)
      → MissesRun taken.newest first last
      → MatchOption answer (MissesRun found first last) (MeetsRun found first last)
      → MatchOption answer (AreFree taken first last) (AreMet taken first last)
  met-by found None up newest misses = none-met found up newest misses
  met-by found (Some end) up newest meets = settled-met taken first last found up end meets
