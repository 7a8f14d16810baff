-- What the steps that change the account files give by the answer of their one call, and the calls
-- on one table of an intent (docs/ARCHITECTURE.md, "The commit").
use Rattle.std.specs.Prelude.{◌≡◌, ℕ, ◌-◌, nat_lt, if◌then◌else◌, Result, Ok, Err}
use Rattle.acct_text.specs.Bytes.{Bytes}
use Rattle.acct_outside.specs.declared.Name.TheVariants.{Table, Staged}
use Rattle.acct_outside.specs.declared.FolderFault.{FolderFault}
use Rattle.acct_outside.specs.declared.FolderFault.TheVariants.{Failed, Memory}
use Rattle.acct_outside.specs.declared.CommitStage.{CommitStage}
use Rattle.acct_outside.specs.declared.CommitStage.TheVariants.{Before, Unsure, Committed}
use Rattle.acct_outside.specs.declared.StageFault.{StageFault}
use Rattle.acct_outside.specs.Pieces.{piece_at, piece_count}
use Rattle.acct_outside.specs.Calls.{Call, writes, appends, renames}
use Rattle.intent_file.specs.Intent.{NewTable}

-- a fault of the folder with the stage of the session's own commit
abbrev pub at_stage : CommitStage → FolderFault → StageFault
at_stage stage fault = record { fault = fault; stage = stage }

-- a fault of the folder before the session's own commit
abbrev pub before_commit : FolderFault → StageFault
before_commit = at_stage Before

-- a fault of the call that commits: failed, it may have happened; without memory it didn't
abbrev pub at_commit : FolderFault → StageFault
at_commit Failed = at_stage Unsure Failed
at_commit Memory = before_commit Memory

-- a fault of the folder after the session's own commit
abbrev pub after_commit : FolderFault → StageFault
after_commit = at_stage Committed

-- a call that can't be refused: done it leads to this state, and a fault is given as this says
abbrev pub LeadsTo : {A State Fault : Type 0} → State → (FolderFault → Fault) →
    Result A FolderFault → Result State Fault → Type 0
LeadsTo next given_as (Ok answer) (Ok state) = state ≡ next
LeadsTo next given_as (Err fault) (Err came) = came ≡ given_as fault
LeadsTo _ _ _ _ = ⊥

-- the call that stages the first piece of the bytes of a listed table
abbrev pub stages : NewTable → Call
stages new = writes (Staged new.table) (piece_at 0 new.bytes)

-- the call that stages the piece at this place behind those in front of it
abbrev pub stages_more : ℕ → NewTable → Call
stages_more place new = appends (Staged new.table) (piece_at place new.bytes)

-- how many pieces of a text are left to append, once so many are staged; none before its write
abbrev pub pieces_left : ℕ → Bytes → ℕ
pieces_left staged text = if nat_lt 0 staged then piece_count text - staged else 0

-- the call that puts the staged bytes of a listed table in place
abbrev pub installs : NewTable → Call
installs new = renames (Staged new.table) (Table new.table)
