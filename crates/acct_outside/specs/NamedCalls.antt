-- The calls that the program names, as calls of a history, and which of them a session makes that has
-- begun.
use Rattle.std.specs.Prelude.{⊤, []}
use Rattle.acct_outside.specs.declared.Call.{Call as FolderCall}
use Rattle.acct_outside.specs.declared.Call.TheVariants.{Begin, Locks, Read, Verdict as Ask, Create, Write, Append, Rename, Remove, Answered}
use Rattle.acct_outside.specs.Calls.{Call, Command, begins, lists, reads, asks, creates, writes, appends, renames, removes, answers}
use Rattle.acct_outside.specs.Contract.{IsName, IsLockNumber}

-- no words and no input
abbrev pub no_command : Command
no_command = record { words = []; input = []; day = 0 }

-- A call of the program as a call of a history. A begin by itself says no words.
abbrev pub call_of : FolderCall → Call
call_of Begin = begins no_command
call_of Locks = lists
call_of (Read name) = reads name
call_of (Ask token) = asks token
call_of (Create number) = creates number
call_of (Write name bytes) = writes name bytes
call_of (Append name piece) = appends name piece
call_of (Rename from to) = renames from to
call_of (Remove name) = removes name
call_of (Answered status) = answers status

-- A call of a session that has begun. The lock numbers that it names are in their bounds.
abbrev pub IsLaterCall : FolderCall → Type 0
IsLaterCall Begin = ⊥
IsLaterCall (Read name) = IsName name
IsLaterCall (Create number) = IsLockNumber number
IsLaterCall (Write name bytes) = IsName name
IsLaterCall (Append name piece) = IsName name
IsLaterCall (Rename from to) = IsName from × IsName to
IsLaterCall (Remove name) = IsName name
IsLaterCall _ = ⊤
