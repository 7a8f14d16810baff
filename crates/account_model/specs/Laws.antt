-- The laws of commands that other crates rely on.
use Rattle.std.specs.Prelude.{None, ◌≡◌, ℕ, ◌≤◌, true, List, Option, Some, Ok}
use Rattle.std.specs.List.{AllByRecursion}
use Rattle.acct_text.specs.declared.files.Files.{Files}
use Rattle.acct_text.specs.Lines.{lines_of}
use Rattle.account_model.specs.Records.{passwd_format, shadow_format, group_format, gshadow_format, greatest_days}
use Rattle.account_model.specs.Text.{first_some}
use Rattle.account_model.specs.Settings.{Setting}
use Rattle.account_model.specs.Batch.{IsDoneOn, Written, batch}
use Rattle.account_model.specs.BatchLines.{LineRequest}
use Rattle.account_model.specs.Request.{Request}
use Rattle.account_model.specs.WrittenScript.{IsWrittenScript}
use Rattle.account_model.specs.Change.{action_of}
use Rattle.account_model.specs.Problems.{IsReport}
use Rattle.account_model.specs.Pwck.{user_problems, shadow_problems, passwd_report, shadow_report}
use Rattle.account_model.specs.Grpck.{group_problems, gshadow_problems, group_report, gshadow_report}
use Rattle.account_model.specs.Answer.{deed}
use Rattle.acct_text.specs.Contents.{IsChange}
use Rattle.acct_text.specs.Files.{table_of}

-- a tool that doesn't refuse prints only records that read back; its day is one that shadow(5) holds
abbrev pub ToolsAreWritten : Type 0
ToolsAreWritten =
    (request : Request) (input : List ℕ) (day : ℕ) (files : Files) (settings : List Setting)
    → day ≤ greatest_days
    → first_some (action_of request input day files settings).refusals ≡ None
    → IsWrittenScript (action_of request input day files settings).script

-- what pwck and grpck print of a table is the report of its lines
pub record ReportsAreWhole : Type 0 where
  pub passwd : (files : Files) (bytes : List ℕ) → files.passwd ≡ Some bytes
      → IsReport passwd_format (user_problems files) (lines_of bytes) (passwd_report files)
  pub shadow : (files : Files) (today : ℕ) (bytes : List ℕ) → files.shadow ≡ Some bytes
      → IsReport shadow_format (shadow_problems files today) (lines_of bytes)
      (shadow_report files today)
  pub group : (files : Files) (bytes : List ℕ) → files.group ≡ Some bytes
      → IsReport group_format (group_problems files) (lines_of bytes) (group_report files)
  pub gshadow : (files : Files) (bytes : List ℕ) → files.gshadow ≡ Some bytes
      → IsReport gshadow_format (gshadow_problems files) (lines_of bytes) (gshadow_report files)

-- what a command makes is a change
abbrev pub DeedsAreChanges : Type 0
DeedsAreChanges = (request : Request) (input : List ℕ) (day : ℕ) (old : Files)
    (defs : Option (List ℕ)) (new : Files)
    → deed request input day old defs ≡ Some new → IsChange (table_of old) (table_of new)

-- a batch with `--ensure` leaves the files as they are, byte for byte, where each of its lines is done on them
pub record LeavesAll (lines : List LineRequest) (day : ℕ) (settings : List Setting) (files : Files)
    : Type 0 where
  pub written : Written
  pub is : batch true lines day settings files ≡ Ok written
  pub stays : written.files ≡ files

-- so it is with all lines, on any day and under any settings
abbrev pub DoneLinesStay : Type 0
DoneLinesStay = (lines : List LineRequest) (day : ℕ) (settings : List Setting) (files : Files)
    → AllByRecursion (IsDoneOn day settings files) lines → LeavesAll lines day settings files
