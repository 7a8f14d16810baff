-- Counts of faults: how often the outside has failed.
use Rattle.std.specs.Prelude.{◌≡◌, ◌⊎◌, ℕ, ◌+◌, min, ◌<◌, ◌≤◌, Bool, true, false, Result, IsErrOf}

-- a count is a u64, and stays at its end once it is there
abbrev pub last_count : ℕ
last_count = 18446744073709551615

-- the count with one more, up to its end
abbrev pub next_count : ℕ → ℕ
next_count count = min (count + 1) last_count

-- the count rose, or stands at its end
abbrev pub HasRisen : ℕ → ℕ → Type 0
HasRisen before now = (before < now) ⊎ (now ≡ last_count)

-- the count doesn't fall, and the failure is told only where it rose
pub record CountsFailure {T E : Type 0} (failure : E) (before now : ℕ) (result : Result T E)
    : Type 0 where
  pub never_falls : before ≤ now
  pub failed : IsErrOf result failure → HasRisen before now

-- the count rises by one where the call failed, and stays where it didn't
pub record CountsEach {T E : Type 0} (failure : E) (before now : ℕ) (result : Result T E)
    : Type 0 where
  pub failed : IsErrOf result failure → now ≡ next_count before
  pub others : ¬ (IsErrOf result failure) → now ≡ before

-- how often a source or a clock has failed, and whether its last call did
pub record Faults : Type 0 where
  pub count : ℕ
  pub last_failed : Bool

-- no fault yet
abbrev pub no_faults : Faults
no_faults = record { count = 0; last_failed = false }

-- no call failed in between
abbrev pub NoneFailed : Faults → Faults → Type 0
NoneFailed before now = now.count ≡ before.count

-- exactly one call failed in between, and none came after it
abbrev pub LastFailed : Faults → Faults → Type 0
LastFailed before now = now ≡ record { count = next_count before.count; last_failed = true }

-- a call that failed is counted, once, and is the last that did; at every other result the count stays
pub record NotesFault {T E : Type 0} (failure : E) (before now : Faults) (result : Result T E)
    : Type 0 where
  pub failed : IsErrOf result failure → LastFailed before now
  pub others :
      ¬ (IsErrOf result failure) → now ≡ record { count = before.count; last_failed = false }
