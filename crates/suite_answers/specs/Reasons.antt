-- Of each cause: how far its commit came, its status, and what a line says of it. The statuses are
-- those of the account model ("EXIT VALUES" of each tool's page), the texts this suite's own.
use Rattle.std.specs.Prelude.{ℕ, List, [], ◌++◌, codes, decimal, Option}
use Rattle.acct_outside.specs.declared.Name.TheVariants.{Table, Defs}
use Rattle.acct_outside.specs.declared.CommitStage.{CommitStage}
use Rattle.acct_outside.specs.declared.CommitStage.TheVariants.{Before, Unsure, Committed}
use Rattle.account_model.specs.declared.tool.Tool.{Tool}
use Rattle.account_model.specs.Answer.{TableTooLarge, SettingsTooLarge, TableAbsent, BadSettingAt, file_problem_text}
use Rattle.account_model.specs.Messages.{line_by}
use Rattle.account_model.specs.Statuses.{clock_fault_status, file_status, input_fault_status, lock_status, memory_status, output_fault_status, update_status}
use Rattle.suite_answers.specs.declared.cause.Which.{Which}
use Rattle.suite_answers.specs.declared.cause.Which.TheVariants.{Input, File}
use Rattle.suite_answers.specs.declared.cause.Cause.{Cause}
use Rattle.suite_answers.specs.declared.cause.Cause.TheVariants.{Changed, Held, Gone, Raced, Outrun, LockDamaged, Exhausted, IntentDamaged, TooLarge, NoTable, BadSetting, DiskFault, InputFault, OutputFault, ClockFault, Memory}

-- ---- The stage

-- how far the commit came
abbrev pub stage_of : Cause → CommitStage
stage_of Changed = Committed
stage_of (DiskFault stage) = stage
stage_of (OutputFault stage) = stage
stage_of (Memory stage) = stage
stage_of cause = Before

-- what a fault at a stage left of the change; after the commit the next command does what is left
abbrev pub stage_text : CommitStage → List ℕ
stage_text Before = codes "nothing was changed"
stage_text Unsure = codes "it isn't known whether the change was made"
stage_text Committed = codes "the change was made, and the next command finishes it"

-- ---- The status

-- the status; that of a change, of what stays, of a refusal and of words comes with these
abbrev pub status_of : Tool → Cause → ℕ
status_of tool (Held token) = lock_status tool
status_of tool (Gone number) = lock_status tool
status_of tool (Raced number) = lock_status tool
status_of tool (Outrun number greater) = lock_status tool
status_of tool (LockDamaged number) = lock_status tool
status_of tool Exhausted = lock_status tool
status_of tool (IntentDamaged part) = update_status tool
status_of tool (TooLarge which) = file_status tool
status_of tool (NoTable tab) = file_status tool
status_of tool (BadSetting line) = file_status tool
status_of tool (DiskFault stage) = update_status tool
status_of tool InputFault = input_fault_status
status_of tool (OutputFault stage) = output_fault_status
status_of tool ClockFault = clock_fault_status
status_of tool (Memory stage) = memory_status
status_of tool cause = 0

-- ---- The text

-- the text where something is too large: of files only tables, login.defs and the intent are
abbrev pub too_large_text : Which → List ℕ
too_large_text Input = codes "input is too large"
too_large_text (File (Table tab)) = file_problem_text (TableTooLarge tab)
too_large_text (File Defs) = file_problem_text SettingsTooLarge
too_large_text (File name) = codes "intent is too large"

-- what is said of want of memory at a stage
abbrev pub memory_text : CommitStage → List ℕ
memory_text stage = stage_text stage ++ codes ": want of memory"

-- what a line says of the cause, behind the tool's name; nothing of one that has no such line
abbrev pub reason_text : Cause → List ℕ
reason_text (Held token) = codes "accounts are locked by " ++ token
reason_text (Gone number) = codes "lock " ++ decimal number ++ codes " vanished"
reason_text (Raced number) = codes "lock " ++ decimal number ++ codes " was taken first"
reason_text (Outrun number greater) =
    codes "lock " ++ decimal number ++ codes " was outrun by " ++ decimal greater
reason_text (LockDamaged number) = codes "lock " ++ decimal number ++ codes " is damaged"
reason_text Exhausted = codes "lock numbers are used up"
reason_text (IntentDamaged part) = codes "intent is damaged in part " ++ decimal part
reason_text (TooLarge which) = too_large_text which
reason_text (NoTable tab) = file_problem_text (TableAbsent tab)
reason_text (BadSetting line) = file_problem_text (BadSettingAt line)
reason_text (DiskFault stage) = stage_text stage ++ codes ": folder fault"
reason_text InputFault = codes "input fault"
reason_text ClockFault = codes "clock fault"
reason_text (Memory stage) = memory_text stage
reason_text cause = []

-- the line of want of memory at a stage
abbrev pub memory_message : Option Tool → CommitStage → List ℕ
memory_message tool stage = line_by tool (memory_text stage)
