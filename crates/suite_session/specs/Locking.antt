-- Where a session goes on the way to its lock, and the causes of answers that tell of a lock or of
-- a fault of the folder.
use Rattle.std.specs.Prelude.{⊤, ◌≤◌, if◌then◌else◌, ◌==◌, length}
use Rattle.acct_outside.specs.declared.CommitStage.{CommitStage}
use Rattle.acct_outside.specs.declared.CommitStage.TheVariants.{Before}
use Rattle.acct_outside.specs.declared.FolderFault.{FolderFault}
use Rattle.acct_outside.specs.declared.FolderFault.TheVariants.{Failed, Memory as NoMemory}
use Rattle.account_model.specs.Request.{Request, is_report}
use Rattle.lock_steps.specs.declared.LockRefusal.{LockRefusal}
use Rattle.lock_steps.specs.declared.LockRefusal.TheVariants.{Held, Gone, Raced, Outrun, Damaged, Exhausted}
use Rattle.lock_steps.specs.declared.LockEnd.{LockEnd}
use Rattle.lock_steps.specs.declared.LockEnd.TheVariants.{Refused, Folder}
use Rattle.lock_steps.specs.States.{Lister}
use Rattle.lock_steps.specs.declared.judging.Told.{Told}
use Rattle.lock_steps.specs.declared.judging.Told.TheVariants.{Judged, Ask}
use Rattle.lock_steps.specs.declared.claiming.Confirmed.{Confirmed}
use Rattle.lock_steps.specs.declared.claiming.Confirmed.TheVariants.{Keeper, Loser}
use Rattle.suite_session.specs.Left.{most_lower}
use Rattle.suite_session.specs.declared.state.State.{State}
use Rattle.suite_session.specs.declared.state.State.TheVariants.{Reading, Claiming, Asking, ReadingIntent, Withdrawing, Watching}
use Rattle.suite_answers.specs.declared.cause.Cause.{Cause}
use Rattle.suite_answers.specs.declared.cause.Cause.TheVariants.{Held as LockHeld, Gone as LockGone, Raced as LockRaced, Outrun as LockOutrun, LockDamaged, Exhausted as LocksExhausted, DiskFault, Memory}

-- the state of a session that has judged the greatest lock: a report takes none
abbrev pub after_judging : Request → Lister → State
after_judging request judged = if is_report request then Watching judged else Claiming judged

-- the state after the first listing
abbrev pub after_look : Request → Lister → State
after_look request seen =
    if seen.greatest == 0 then after_judging request seen else Reading seen

-- the state after the read of the greatest lock
abbrev pub after_read : Request → Told → State
after_read request (Judged judged) = after_judging request judged
after_read request (Ask asking) = Asking asking

-- the state after the second listing
abbrev pub after_listing : Confirmed → State
after_listing (Keeper keeper) = ReadingIntent keeper
after_listing (Loser loser) = Withdrawing loser

-- a second listing shows no more lower locks than one can
abbrev pub ShowsFew : Confirmed → Type 0
ShowsFew (Keeper keeper) = length keeper.lower ≤ most_lower
ShowsFew (Loser loser) = ⊤

-- the cause of a fault of the folder at a stage
abbrev pub cause_of_fault : CommitStage → FolderFault → Cause
cause_of_fault stage Failed = DiskFault stage
cause_of_fault stage NoMemory = Memory stage

-- the cause of a refused lock
abbrev pub cause_of_refusal : LockRefusal → Cause
cause_of_refusal (Held token) = LockHeld token
cause_of_refusal (Gone number) = LockGone number
cause_of_refusal (Raced number) = LockRaced number
cause_of_refusal (Outrun number greater) = LockOutrun number greater
cause_of_refusal (Damaged number) = LockDamaged number
cause_of_refusal Exhausted = LocksExhausted

-- the cause of a step on the way to the lock that doesn't lead on
abbrev pub cause_of_end : LockEnd → Cause
cause_of_end (Refused refusal) = cause_of_refusal refusal
cause_of_end (Folder fault) = cause_of_fault Before fault
