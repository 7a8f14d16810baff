-- What a folder tells of itself at one moment: its history, which events of others may come next, how
-- often it has failed, and what it was asked.
use Rattle.std.specs.Prelude.{◌≡◌, ◌∷◌, ℕ, List, Option}
use Rattle.acct_outside.specs.Folder.{Folder}
use Rattle.acct_outside.specs.History.{Event, History}
use Rattle.acct_outside.specs.Others.{Admission}
use Rattle.acct_outside.specs.Journal.{Entry}

-- a told history with the folder at its first moment
pub record Past : Type 0 where
  pub first : Folder
  pub history : History

-- which events of others the folder admits, its history where it tells one, how often it failed, and
-- its journal, the newest entry first
pub record Moment : Type 1 where
  pub admits : Admission
  pub told : Option Past
  pub faults : ℕ
  pub journal : List Entry

-- the journal has this entry more
abbrev pub Notes : Moment → Moment → Entry → Type 0
Notes before now entry = now.journal ≡ entry ∷ before.journal

-- the folder admits no more than before
abbrev pub Narrows : Admission → Admission → Type 0
Narrows before now = (history : History) (event : Event) → now history event → before history event
