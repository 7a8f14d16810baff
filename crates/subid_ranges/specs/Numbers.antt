-- The numbers of ranges and of runs, and those that they have in common (subuid(5), subgid(5)).
use Rattle.std.specs.Prelude.{◌≡◌, ℕ, ◌<◌, ◌≤◌, Bool, false, List, Option, Some, None}
use Rattle.std.specs.List.{list_any}
use Rattle.account_model.specs.declared.records.SubidRecord.{SubidRecord}
use Rattle.account_model.specs.FreeRange.{meets}
use Rattle.account_model.specs.Ids.{in_range}
use Rattle.id_choice.specs.declared.runs.Run.{Run}

-- whether the number is one of the run, where there is a run
abbrev pub is_in_run : Option Run → ℕ → Bool
is_in_run None number = false
is_in_run (Some run) number = in_range run.first run.last number

-- whether one of the ranges has the number
abbrev pub is_ranged : List SubidRecord → ℕ → Bool
is_ranged ranges number = list_any (meets number number) ranges

-- a run, where there is one, has none of the numbers from the first to the last
abbrev pub MissesRun : Option Run → ℕ → ℕ → Type 0
MissesRun None first last = Unit {0}
MissesRun (Some run) first last = first ≤ run.last → last < run.first

-- a run has one of them, and ends so
pub record MeetsRun (found : Option Run) (first last end : ℕ) : Type 0 where
  pub run : Run
  pub is : found ≡ Some run
  pub begins : run.first ≤ last
  pub reaches : first ≤ end
  pub ends : run.last ≡ end
