-- What the contracts of `Runs` say: a set of numbers is told by its members. A run is as long as it
-- can be.
use Rattle.std.specs.Prelude.{◌≡◌, ℕ, ◌+◌, ◌<◌, ◌≤◌, Bool, true, false, not, ◌&&◌, ◌||◌, ◌==◌, List}
use Rattle.std.specs.List.{list_any}
use Rattle.account_model.specs.Ids.{in_range, is_used}
use Rattle.id_choice.specs.declared.runs.Run.{Run}

-- the new numbers are the old ones and those from the first to the last
abbrev pub AddsAll : List ℕ → ℕ → ℕ → List ℕ → Type 0
AddsAll old first last new =
    (number : ℕ) → is_used new number ≡ (in_range first last number || is_used old number)

-- the new numbers are the old ones without this one
abbrev pub LosesOne : List ℕ → ℕ → List ℕ → Type 0
LosesOne old lost new =
    (number : ℕ) → is_used new number ≡ (is_used old number && not (number == lost))

-- the new numbers are the old ones without those from the first to the last
abbrev pub LosesAll : List ℕ → ℕ → ℕ → List ℕ → Type 0
LosesAll old first last new =
    (number : ℕ) → is_used new number ≡ (is_used old number && not (in_range first last number))

-- whether one of the runs has the number
abbrev pub is_run : List Run → ℕ → Bool
is_run runs number = list_any (λ run. in_range run.first run.last number) runs

-- the numbers are exactly those of the runs
abbrev pub AreThoseOfRuns : List Run → List ℕ → Type 0
AreThoseOfRuns runs numbers = (number : ℕ) → is_used numbers number ≡ is_run runs number

-- the numbers of the run are there, and neither the one before it nor the one behind it
pub record IsWholeRun (numbers : List ℕ) (run : Run) : Type 0 where
  pub ordered : run.first ≤ run.last
  pub filled : (n : ℕ) → run.first ≤ n → n ≤ run.last → is_used numbers n ≡ true
  pub before : (n : ℕ) → n + 1 ≡ run.first → is_used numbers n ≡ false
  pub behind : is_used numbers (run.last + 1) ≡ false

-- no number up to this one is there
abbrev pub HasNothingUpTo : List ℕ → ℕ → Type 0
HasNothingUpTo numbers number = (n : ℕ) → n ≤ number → is_used numbers n ≡ false

-- the run is the last that begins at the number or before it
pub record IsLastUpTo (numbers : List ℕ) (number : ℕ) (run : Run) : Type 0 where
  pub whole : IsWholeRun numbers run
  pub begins : run.first ≤ number
  pub none_behind : (n : ℕ) → run.last < n → n ≤ number → is_used numbers n ≡ false

-- no number from this one on is there
abbrev pub HasNothingFrom : List ℕ → ℕ → Type 0
HasNothingFrom numbers number = (n : ℕ) → number ≤ n → is_used numbers n ≡ false

-- the run is the first that ends at the number or behind it
pub record IsFirstFrom (numbers : List ℕ) (number : ℕ) (run : Run) : Type 0 where
  pub whole : IsWholeRun numbers run
  pub ends : number ≤ run.last
  pub none_before : (n : ℕ) → number ≤ n → n < run.first → is_used numbers n ≡ false
