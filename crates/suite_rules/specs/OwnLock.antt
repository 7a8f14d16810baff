-- How far a session is with the lock of its own, found from its own events (docs/ARCHITECTURE.md,
-- "The lock"). Each step leads on, and none leads back: a session makes one lock at most.
use Rattle.std.specs.Prelude.{ℕ, Bool, true, false, ◌==◌, if◌then◌else◌, Option, Some, None}
use Rattle.acct_outside.specs.declared.Name.{Name}
use Rattle.acct_outside.specs.declared.Name.TheVariants.{FreeStage, Lock}
use Rattle.acct_outside.specs.declared.Created.{Created}
use Rattle.acct_outside.specs.declared.Created.TheVariants.{Done, Exists}
use Rattle.acct_outside.specs.Folder.{greatest}
use Rattle.acct_outside.specs.Calls.{Call, Answer, CallResult, Effect, lists, creates, renames, done, failed, died, happened, effect_of}

-- how far a session is with its own lock
pub data OwnLock : Type 0 where
  -- it hasn't called create
  lock_uncalled : OwnLock
  -- it has called create, which made no lock
  lock_called : OwnLock
  -- its create of this number failed, or it died in it, and the lock was made
  lock_unsure : ℕ → OwnLock
  -- its create of this number was done
  lock_made : ℕ → OwnLock
  -- it is keeper of this number: after its create was done it listed the number as the greatest
  lock_kept : ℕ → OwnLock
  -- its lock of this number has the free text
  lock_freed : ℕ → OwnLock

-- the number of the lock that it made
abbrev pub made_number : OwnLock → Option ℕ
made_number lock_uncalled = None
made_number lock_called = None
made_number (lock_unsure number) = Some number
made_number (lock_made number) = Some number
made_number (lock_kept number) = Some number
made_number (lock_freed number) = Some number

-- the number of the lock that it made and hasn't freed
abbrev pub held_number : OwnLock → Option ℕ
held_number (lock_freed number) = None
held_number own = made_number own

-- the number that it keeps, or kept until it freed its lock
abbrev pub kept_number : OwnLock → Option ℕ
kept_number (lock_kept number) = Some number
kept_number (lock_freed number) = Some number
kept_number _ = None

-- the session is keeper
abbrev pub is_keeper : OwnLock → Bool
is_keeper (lock_kept number) = true
is_keeper _ = false

-- the session has called create
abbrev pub has_called_create : OwnLock → Bool
has_called_create lock_uncalled = false
has_called_create _ = true

-- its create made this lock; one that has made a lock keeps to it
abbrev pub makes : OwnLock → OwnLock → OwnLock
makes lock lock_uncalled = lock
makes lock lock_called = lock
makes lock own = own

-- its create of the number came to no answer, and had this effect
abbrev pub unanswered_create : ℕ → Effect → OwnLock → OwnLock
unanswered_create number happened own = makes (lock_unsure number) own
unanswered_create number _ own = makes lock_called own

-- it called create of the number
abbrev pub create_step : ℕ → CallResult Created → OwnLock → OwnLock
create_step number (done Done) own = makes (lock_made number) own
create_step number (done Exists) own = makes lock_called own
create_step number (failed effect) own = unanswered_create number effect own
create_step number (died effect) own = unanswered_create number effect own

-- it listed locks of which this number is the greatest
abbrev pub confirm_step : ℕ → OwnLock → OwnLock
confirm_step top (lock_made number) = if top == number then lock_kept number else lock_made number
confirm_step top own = own

-- the free text came to this lock, where its own has the other number
abbrev pub freed_at : ℕ → Option ℕ → OwnLock → OwnLock
freed_at number None own = own
freed_at number (Some held) own = if number == held then lock_freed held else own

-- it moved a file, and this happened to the move
abbrev pub free_step : Name → Name → Effect → OwnLock → OwnLock
free_step FreeStage (Lock number) happened own = freed_at number (held_number own) own
free_step _ _ _ own = own

-- its own lock after one of its calls
abbrev pub own_step : (call : Call) → CallResult (Answer call) → OwnLock → OwnLock
own_step lists (done numbers) own = confirm_step (greatest numbers) own
own_step (creates number) result own = create_step number result own
own_step (renames from to) result own = free_step from to (effect_of (renames from to) result) own
own_step _ _ own = own
