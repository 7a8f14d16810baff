-- Which lines of the six tables a deed leaves: its edits are those of its tool, or of the commands of a
-- batch one after another, and each line that they don't touch stays byte for byte.
use Rattle.std.specs.Prelude.{◌≡◌, ℕ, ◌≤◌, Bool, false, codes, List, [], ◌∷◌, count_by, bytes_eq, Option, Some, unwrap_or, Result, ⊤, if◌then◌else◌}
use Rattle.std.specs.declared.result.Result.TheVariants.{Ok, Err}
use Rattle.std.specs.List.{AllByRecursion}
use Rattle.acct_text.specs.declared.files.Files.{Files}
use Rattle.acct_text.specs.Lines.{Line, texts_of}
use Rattle.account_model.specs.Format.{Format}
use Rattle.account_model.specs.Edits.{Edit, Arrange}
use Rattle.account_model.specs.Records.{passwd_format, shadow_format, group_format, gshadow_format, subid_format, greatest_days}
use Rattle.account_model.specs.Tables.{Script, no_edits, files_after, followed_by, table_lines}
use Rattle.account_model.specs.WrittenScript.{IsWrittenScript}
use Rattle.account_model.specs.TouchedLines.{KeepsOrder, AreAmong, untouched_texts}
use Rattle.account_model.specs.declared.refusal.Refusal.{Refusal}
use Rattle.account_model.specs.Settings.{Setting, settings_of}
use Rattle.account_model.specs.declared.tool.Tool.{Tool}
use Rattle.account_model.specs.declared.tool.Tool.TheVariants.{Pwck, Grpck}
use Rattle.account_model.specs.Request.{Request, has_option}
use Rattle.account_model.specs.Words.{is_batch}
use Rattle.account_model.specs.Action.{Action, Made, outcome_of}
use Rattle.account_model.specs.Change.{action_of}
use Rattle.account_model.specs.BatchLines.{LineRequest, line_requests}
use Rattle.account_model.specs.Answer.{deed}

-- ---- The edits of a deed

-- the edits of what a tool does, by its outcome: one that refuses edits nothing, and as a line of a
-- batch it is passed by or refuses the whole
abbrev pub edits_by : Result Made Refusal → Action → Script
edits_by (Ok made) action = action.script
edits_by (Err refusal) action = no_edits

-- the edits of a command on these files
abbrev pub edits_on : Request → List ℕ → ℕ → Files → List Setting → Script
edits_on request input day files settings =
    edits_by (outcome_of (action_of request input day files settings) files)
    (action_of request input day files settings)

-- these edits, and then those that follow on the files that they leave
abbrev pub then_edits : Script → Files → (Files → Script) → Script
then_edits first files rest = followed_by first (rest (files_after first files))

-- the edits of the commands of a batch, each on the files that those before it leave
abbrev pub edits_of_lines : List LineRequest → ℕ → List Setting → Files → Script
edits_of_lines [] day settings files = no_edits
edits_of_lines (line ∷ rest) day settings files =
    then_edits (edits_on line.request [] day files settings) files
    (edits_of_lines rest day settings)

-- the edits that make a deed
abbrev pub edits_of_deed : Request → List ℕ → ℕ → Files → Option (List ℕ) → Script
edits_of_deed request input day files defs = if is_batch request.tool
    then edits_of_lines (line_requests input) day (settings_of (unwrap_or defs [])) files
    else edits_on request input day files (settings_of (unwrap_or defs []))

-- ---- The lines that stay

-- how often the text stands among the texts
abbrev pub times : List ℕ → List (List ℕ) → ℕ
times text texts = count_by (bytes_eq text) texts

-- the edit sorts (pwck(8) and grpck(8), `-s`)
abbrev pub IsSorting : {R : Type 0} → Edit R → Type 0
IsSorting (Arrange key) = ⊤
IsSorting edit = ⊥

-- Of the old lines of a table those that the edits don't touch stay byte for byte: each text stands as
-- often as it did, and where no edit sorts, all in their old order. A sort alone changes nothing else:
-- the new texts are the old ones in another order.
pub record LeavesUntouched {R : Type 0} (format : Format R) (edits : List (Edit R))
    (old new : List Line) : Type 0 where
  pub stay : (text : List ℕ)
      → times text (untouched_texts format edits old) ≤ times text (texts_of new)
  pub in_order : AllByRecursion KeepsOrder edits
      → AreAmong (untouched_texts format edits old) (texts_of new)
  pub sorted : AllByRecursion IsSorting edits → (text : List ℕ)
      → times text (texts_of new) ≡ times text (texts_of old)

-- so it is in each table
pub record LeaveUntouched (edits : Script) (old new : Files) : Type 0 where
  pub passwd : LeavesUntouched passwd_format edits.passwd (table_lines old.passwd)
      (table_lines new.passwd)
  pub shadow : LeavesUntouched shadow_format edits.shadow (table_lines old.shadow)
      (table_lines new.shadow)
  pub group : LeavesUntouched group_format edits.group (table_lines old.group)
      (table_lines new.group)
  pub gshadow : LeavesUntouched gshadow_format edits.gshadow (table_lines old.gshadow)
      (table_lines new.gshadow)
  pub subuid : LeavesUntouched subid_format edits.subuid (table_lines old.subuid)
      (table_lines new.subuid)
  pub subgid : LeavesUntouched subid_format edits.subgid (table_lines old.subgid)
      (table_lines new.subgid)

-- the new files are what the edits make of the old ones, and leave their untouched lines; what is printed
-- reads back
pub record IsByEdits (edits : Script) (old new : Files) : Type 0 where
  pub written : IsWrittenScript edits
  pub makes : files_after edits old ≡ new
  pub leave : LeaveUntouched edits old new

-- each deed is so, on a day that shadow(5) holds
abbrev pub DeedsLeaveUntouched : Type 0
DeedsLeaveUntouched = (request : Request) (input : List ℕ) (day : ℕ) (old : Files)
    (defs : Option (List ℕ)) (new : Files) → day ≤ greatest_days
    → deed request input day old defs ≡ Some new
    → IsByEdits (edits_of_deed request input day old defs) old new

-- ---- The order

-- the tool is asked to sort
abbrev pub sorts_by : Tool → Request → Bool
sorts_by Pwck request = has_option (codes "s") request
sorts_by Grpck request = has_option (codes "s") request
sorts_by tool request = false

-- the command sorts: `pwck -s` and `grpck -s`, which no line of a batch is (pwck(8), grpck(8))
abbrev pub is_sort : Request → Bool
is_sort request = sorts_by request.tool request

-- no edit sorts
pub record KeepOrder (edits : Script) : Type 0 where
  pub passwd : AllByRecursion KeepsOrder edits.passwd
  pub shadow : AllByRecursion KeepsOrder edits.shadow
  pub group : AllByRecursion KeepsOrder edits.group
  pub gshadow : AllByRecursion KeepsOrder edits.gshadow
  pub subuid : AllByRecursion KeepsOrder edits.subuid
  pub subgid : AllByRecursion KeepsOrder edits.subgid

-- so it is with each deed of a command that doesn't sort
abbrev pub DeedsKeepOrder : Type 0
DeedsKeepOrder = (request : Request) (input : List ℕ) (day : ℕ) (old : Files)
    (defs : Option (List ℕ)) → is_sort request ≡ false
    → KeepOrder (edits_of_deed request input day old defs)
