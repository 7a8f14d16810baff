-- Which calls of a folder in memory are to fail, and what they do then.
use Rattle.std.specs.Prelude.{ℕ, Bool, false, ◌==◌, if◌then◌else◌, List, [], ◌∷◌, Option, None, Some, is_none}
use Rattle.memory_folder.specs.declared.mishap.Mishap.{Mishap}
use Rattle.memory_folder.specs.declared.Effect.{Effect}
use Rattle.memory_folder.specs.declared.Effect.TheVariants.{Nothing}
use Rattle.acct_outside.specs.Folder.{Folder}
use Rattle.acct_outside.specs.Calls.{Call, appends, renames}

-- what the call with this number does as it fails, by the first mishap that is planned for it
abbrev pub planned_effect : ℕ → List Mishap → Option Effect
planned_effect number [] = None
planned_effect number (mishap ∷ plan) =
    if mishap.call == number then Some mishap.effect else planned_effect number plan

-- the call fails here by itself: an append whose name is absent, or a rename whose source is
abbrev pub is_refused : Folder → Call → Bool
is_refused folder (appends name piece) = is_none (folder.file name)
is_refused folder (renames from to) = is_none (folder.file from)
is_refused folder call = false

-- what the call does here as it fails, and None where it isn't to fail: one that fails by itself
-- does nothing, another does what is planned
abbrev pub effect_due : Folder → Call → Option Effect → Option Effect
effect_due folder call planned = if is_refused folder call then Some Nothing else planned
