-- Runs of numbers as a map keeps them, from the first number of each to its last, and what the
-- steps of an addition say of such maps.
use Rattle.std.specs.Prelude.{◌≡◌, ℕ, ◌+◌, ◌-◌, ◌^◌, ◌<◌, ◌≤◌, List, Option, Some, None, IsSome, min, nat_lt, option_map, if◌then◌else◌, ◌↔◌}
use Rattle.std.specs.List.{flat_map, range_with_len}
use Rattle.std.specs.BTreeMap.{BTreeMap, IsOrdered, get}
use Rattle.std.specs.Ordering.{nat_cmp}
use Rattle.id_choice.specs.declared.runs.Run.{Run}

-- the numbers of runs, each from a first number to a last
abbrev pub numbers_of : List (ℕ × ℕ) → List ℕ
numbers_of runs = flat_map (λ run. range_with_len run.0 (run.1 + 1 - run.0)) runs

-- the map has a run from the first number to the last
abbrev pub HoldsRun : BTreeMap ℕ ℕ → ℕ → ℕ → Type 0
HoldsRun runs first last = get nat_cmp runs first ≡ Some last

-- the runs hold 32-bit numbers in order, and between two of them a number is missing
pub record IsRunMap (runs : BTreeMap ℕ ℕ) : Type 0 where
  pub keys : IsOrdered nat_cmp runs
  pub ordered : (first last : ℕ) → HoldsRun runs first last → first ≤ last
  pub small : (first last : ℕ) → HoldsRun runs first last → last < 2 ^ 32
  pub apart : (first last next end : ℕ)
      → HoldsRun runs first last → HoldsRun runs next end → first < next → last + 1 < next

-- a number lies in a run
pub record LiesIn (runs : BTreeMap ℕ ℕ) (number : ℕ) : Type 0 where
  pub first : ℕ
  pub last : ℕ
  pub run : HoldsRun runs first last
  pub begins : first ≤ number
  pub ends : number ≤ last

-- ---- The runs beside a number

-- no run begins at the number or before it
abbrev pub HasNoneUpTo : BTreeMap ℕ ℕ → ℕ → Type 0
HasNoneUpTo runs number = (first : ℕ) → first ≤ number → get nat_cmp runs first ≡ None

-- of the runs that begin there, this one is the last
pub record HasUpTo (runs : BTreeMap ℕ ℕ) (number : ℕ) (run : Run) : Type 0 where
  pub has : HoldsRun runs run.first run.last
  pub begins : run.first ≤ number
  pub last_one : (first last : ℕ) → HoldsRun runs first last → first ≤ number → first ≤ run.first

-- no run begins at the number or behind it
abbrev pub HasNoneFrom : BTreeMap ℕ ℕ → ℕ → Type 0
HasNoneFrom runs number = (first : ℕ) → number ≤ first → get nat_cmp runs first ≡ None

-- of the runs that begin there, this one is the first
pub record HasFrom (runs : BTreeMap ℕ ℕ) (number : ℕ) (run : Run) : Type 0 where
  pub has : HoldsRun runs run.first run.last
  pub begins : number ≤ run.first
  pub first_one : (first last : ℕ) → HoldsRun runs first last → number ≤ first → run.first ≤ first

-- ---- The run that numbers become with those that they touch

-- it begins with these numbers, or with a run that touches the first of them
pub record BeginsAt (runs : BTreeMap ℕ ℕ) (number begin : ℕ) : Type 0 where
  pub not_behind : begin ≤ number
  pub filled : (n : ℕ) → begin ≤ n → n < number → LiesIn runs n
  pub apart : (first last : ℕ) → HoldsRun runs first last → first < begin → last + 1 < begin

-- it ends with these numbers, or with a run that meets or touches the last of them
pub record EndsAt (runs : BTreeMap ℕ ℕ) (number end : ℕ) : Type 0 where
  pub not_before : number ≤ end
  pub filled : (n : ℕ) → number < n → n ≤ end → LiesIn runs n
  pub apart : (first last : ℕ) → HoldsRun runs first last → first ≤ end + 1 → last ≤ end

-- ---- What is removed

-- no run begins behind the number, up to the end
abbrev pub HasNoneBehind : BTreeMap ℕ ℕ → ℕ → ℕ → Type 0
HasNoneBehind runs number end =
    (first : ℕ) → number < first → first ≤ end → get nat_cmp runs first ≡ None

-- a run begins there
pub record HasBehind (runs : BTreeMap ℕ ℕ) (number end first : ℕ) : Type 0 where
  pub behind : number < first
  pub not_past : first ≤ end
  pub has : IsSome (get nat_cmp runs first)

-- the new map is the old one without the runs that begin behind the number, up to the end
pub record IsWithoutRuns (old new : BTreeMap ℕ ℕ) (number end : ℕ) : Type 0 where
  pub removed : HasNoneBehind new number end
  pub before : (first : ℕ) → first ≤ number → get nat_cmp new first ≡ get nat_cmp old first
  pub past : (first : ℕ) → end < first → get nat_cmp new first ≡ get nat_cmp old first
  pub ordered : IsOrdered nat_cmp new

-- ---- What is taken out

-- a run goes on behind the number, or begins there
pub record GoesPast (runs : BTreeMap ℕ ℕ) (number last : ℕ) : Type 0 where
  pub first : ℕ
  pub run : HoldsRun runs first last
  pub begins : first ≤ number + 1
  pub ends : number < last

-- a run begins behind the number exactly where one goes on there
pub record KeepsBehind (old new : BTreeMap ℕ ℕ) (number : ℕ) : Type 0 where
  pub kept : (last : ℕ) → HoldsRun new (number + 1) last ↔ GoesPast old number last
  pub beside : (first : ℕ)
      → (first ≡ number + 1 → ⊥) → get nat_cmp new first ≡ get nat_cmp old first
  pub ordered : IsOrdered nat_cmp new

-- the runs that begin up to the number are in order and don't meet
pub record AreApartUpTo (runs : BTreeMap ℕ ℕ) (number : ℕ) : Type 0 where
  pub keys : IsOrdered nat_cmp runs
  pub ordered : (first last : ℕ) → HoldsRun runs first last → first ≤ number → first ≤ last
  pub apart : (first last next end : ℕ)
      → HoldsRun runs first last → HoldsRun runs next end → first < next → next ≤ number
      → last < next

-- where a run ends that begins at the first number and ends before the other; none where it is empty
abbrev pub last_before : ℕ → ℕ → Option ℕ
last_before first number = if nat_lt first number then Some (number - 1) else None

-- the runs that begin before the number end before it, and none begins at it
pub record EndsBefore (old new : BTreeMap ℕ ℕ) (number : ℕ) : Type 0 where
  pub before : (first : ℕ) → first < number
      → get nat_cmp new first ≡ option_map (λ last. min last (number - 1)) (get nat_cmp old first)
  pub none : get nat_cmp new number ≡ None
  pub behind : (first : ℕ) → number < first → get nat_cmp new first ≡ get nat_cmp old first
  pub ordered : IsOrdered nat_cmp new
