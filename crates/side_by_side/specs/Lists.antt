-- The lists of a schedule, of which each call of a staged folder takes the next.
use Rattle.std.specs.Prelude.{◌≡◌, ◌⊎◌, List, [], ◌∷◌, drop, Result, Err}
use Rattle.std.specs.Global.{Vec}
use Rattle.acct_outside.specs.declared.FolderFault.{FolderFault}
use Rattle.acct_outside.specs.declared.FolderFault.TheVariants.{Memory}
use Rattle.memory_folder.specs.Memory.{moment_of}
use Rattle.acct_outside.specs.Moment.{Moment}
use Rattle.side_by_side.specs.declared.schedule.Schedule.{Schedule}
use Rattle.side_by_side.specs.declared.step.Step.{Step}
use Rattle.side_by_side.specs.Scenes.{TakePart}
use Rattle.side_by_side.specs.Advances.{Advances}
use Rattle.side_by_side.specs.Staged.{Stage, scene_in}
use Rattle.side_by_side.specs.Steps.{TakesFront, TakesSteps}

-- the lists of the schedule that weren't taken yet
abbrev pub lists_left : Schedule → List (Vec Step)
lists_left schedule = drop schedule.taken schedule.lists.items

-- the steps of the next list; none where no list is left
abbrev pub next_list : List (Vec Step) → List Step
next_list [] = []
next_list (list ∷ lists) = list.items

-- the lists behind it
abbrev pub lists_behind : List (Vec Step) → List (Vec Step)
lists_behind [] = []
lists_behind (list ∷ lists) = lists

-- Before a call the sessions take the steps of the next list, or those before one for which there
-- was no memory. What came is of them alone, and they take part still.
pub record PlaysNext (before now : Stage) : Type 0 where
  pub left : now.left ≡ lists_behind before.left
  pub front : TakesFront (next_list before.left) (scene_in before) (scene_in now)
  pub advances : Advances (scene_in before) (scene_in now)
  pub take_part : TakePart (scene_in now)

-- the sessions take all steps of the next list
pub record TakesList (before now : Stage) : Type 0 where
  pub left : now.left ≡ lists_behind before.left
  pub taken : TakesSteps (next_list before.left) (scene_in before) (scene_in now)

-- there was no memory for a step of the next list, and those before it are taken
pub record BreaksOff (before now : Stage) : Type 0 where
  pub left : now.left ≡ lists_behind before.left
  pub taken : TakesFront (next_list before.left) (scene_in before) (scene_in now)

-- the folder in memory makes a call that tells this; no session takes a step, and the lists stay
pub record CallsAtOnce (before now : Stage) (Told : Moment → Moment → Type 0) : Type 0 where
  pub told : Told (moment_of before.files) (moment_of now.files)
  pub others : now.others ≡ before.others
  pub left : now.left ≡ before.left

-- The next list is taken, and then the call is made. Where the list breaks off, the call answers Memory
-- and isn't made.
abbrev pub CallsNext : {T : Type 0} → Stage → Stage → (Moment → Moment → Type 0)
    → Result T FolderFault → Type 0
CallsNext before now Told result =
    ((between : Stage) × TakesList before between × CallsAtOnce between now Told)
    ⊎ (BreaksOff before now × (result ≡ Err Memory))
