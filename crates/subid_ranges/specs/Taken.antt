-- Which numbers are taken, and the gaps between them (useradd(8), subuid(5), subgid(5)).
use Rattle.std.specs.Prelude.{◌≡◌, ℕ, ◌+◌, ◌-◌, ◌≤◌, All, Bool, true, false, ◌||◌, List}
use Rattle.account_model.specs.declared.records.SubidRecord.{SubidRecord}
use Rattle.account_model.specs.Ids.{is_used}
use Rattle.id_choice.specs.Runs.{is_run}
use Rattle.id_choice.specs.declared.runs.Run.{Run}
use Rattle.subid_ranges.specs.declared.taken.Taken.{Taken}
use Rattle.subid_ranges.specs.Numbers.{is_in_run, is_ranged}

-- whether the number is taken: it is one of the runs, or of the newest range
abbrev pub is_taken : Taken → ℕ → Bool
is_taken taken number = is_used taken.runs number || is_in_run taken.newest number

-- the numbers taken are those of the ranges
pub record TakesThoseOf (ranges : List SubidRecord) (taken : Taken) : Type 0 where
  pub same : (number : ℕ) → is_taken taken number ≡ is_ranged ranges number

-- each of the ranges is one run
pub record AreRunsOf (ranges : List SubidRecord) (runs : List Run) : Type 0 where
  pub same : (number : ℕ) → is_run runs number ≡ is_ranged ranges number
  pub ordered : All (λ run. run.first ≤ run.last) runs

-- none of the numbers from the first to the last is taken
abbrev pub AreFree : Taken → ℕ → ℕ → Type 0
AreFree taken first last =
    (number : ℕ) → first ≤ number → number ≤ last → is_taken taken number ≡ false

-- numbers up to the end are taken, from one on that isn't behind the last
pub record AreMet (taken : Taken) (first last end : ℕ) : Type 0 where
  pub begin : ℕ
  pub begins : begin ≤ last
  pub ordered : begin ≤ end
  pub reaches : first ≤ end
  pub filled : (number : ℕ) → begin ≤ number → number ≤ end → is_taken taken number ≡ true

-- so many numbers from the start on are within the bounds, and none of them is taken
pub record IsGap (low high count : ℕ) (taken : Taken) (start : ℕ) : Type 0 where
  pub not_below : low ≤ start
  pub not_above : start + count - 1 ≤ high
  pub free : AreFree taken start (start + count - 1)
