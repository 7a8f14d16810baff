-- What each step gives by the answer of its one call (docs/ARCHITECTURE.md, "Taking over"). A fault
-- of the folder is given as it came; every other answer leads on or to one refusal.
use Rattle.std.specs.Prelude.{◌≡◌, ◌≢◌, ⊤, ℕ, ◌+◌, ◌<◌, nat_lt, List, drop, filter, Result, Ok, Err}
use Rattle.acct_text.specs.Bytes.{Bytes}
use Rattle.acct_outside.specs.declared.FolderFault.{FolderFault}
use Rattle.acct_outside.specs.declared.FolderFault.TheVariants.{Failed, Memory}
use Rattle.acct_outside.specs.declared.Verdict.{Verdict}
use Rattle.acct_outside.specs.declared.Verdict.TheVariants.{Alive, Dead}
use Rattle.acct_outside.specs.declared.Created.{Created}
use Rattle.acct_outside.specs.declared.Created.TheVariants.{Done, Exists}
use Rattle.acct_outside.specs.Names.{greatest_lock}
use Rattle.acct_outside.specs.Tokens.{Token, free_text}
use Rattle.acct_outside.specs.Folder.{greatest}
use Rattle.acct_outside.specs.Calls.{Found, found_absent, found_bytes, found_too_large}
use Rattle.lock_steps.specs.declared.LockRefusal.TheVariants.{Held, Gone, Raced, Outrun, Damaged, Exhausted}
use Rattle.lock_steps.specs.declared.LockEnd.{LockEnd}
use Rattle.lock_steps.specs.declared.LockEnd.TheVariants.{Refused, Folder}
use Rattle.lock_steps.specs.declared.judging.Told.{Told}
use Rattle.lock_steps.specs.declared.judging.Told.TheVariants.{Judged, Ask}
use Rattle.lock_steps.specs.declared.claiming.Confirmed.{Confirmed}
use Rattle.lock_steps.specs.declared.claiming.Confirmed.TheVariants.{Keeper, Loser}
use Rattle.lock_steps.specs.declared.keeping.Ended.{Ended}
use Rattle.lock_steps.specs.States.{Lister, Asker, Maker, Overtaken, Kept}
use Rattle.lock_steps.specs.LockText.{IsHeldBy, IsDamaged}

-- the end of a step at which the folder failed
abbrev pub folder_failed : LockEnd
folder_failed = Folder Failed

-- a listing leads on, unless its greatest number is the last that a lock can have
abbrev pub Looks : Token → Result (List ℕ) FolderFault → Result Lister LockEnd → Type 0
Looks token (Ok numbers) (Ok seen) = (greatest numbers ≢ greatest_lock)
    × (seen ≡ record { token = token; greatest = greatest numbers })
Looks token (Ok numbers) (Err (Refused Exhausted)) = greatest numbers ≡ greatest_lock
Looks token (Err fault) (Err (Folder came)) = came ≡ fault
Looks _ _ _ = ⊥

-- the text of the greatest lock: free leads on, held leads to the question for its session, and
-- another is damaged; the token of its session may find no memory
abbrev pub ReadsText : Lister → Bytes → Result Told LockEnd → Type 0
ReadsText seen text (Ok (Judged judged)) = (text ≡ free_text) × (judged ≡ seen)
ReadsText seen text (Ok (Ask asking)) = IsHeldBy text asking.asked
    × (asking ≡ record { token = seen.token; greatest = seen.greatest; asked = asking.asked })
ReadsText seen text (Err (Refused (Damaged number))) = IsDamaged text × (number ≡ seen.greatest)
ReadsText seen text (Err (Folder Memory)) = ⊤
ReadsText _ _ _ = ⊥

-- a read of the greatest lock: absent it is gone, and too large it is damaged
abbrev pub Reads : Lister → Result Found FolderFault → Result Told LockEnd → Type 0
Reads seen (Ok (found_bytes text)) result = ReadsText seen text result
Reads seen (Ok found_absent) (Err (Refused (Gone number))) = number ≡ seen.greatest
Reads seen (Ok found_too_large) (Err (Refused (Damaged number))) = number ≡ seen.greatest
Reads seen (Err fault) (Err (Folder came)) = came ≡ fault
Reads _ _ _ = ⊥

-- a verdict: dead leads on, alive refuses with the token that was asked for
abbrev pub AsksAlive : Asker → Result Verdict FolderFault → Result Lister LockEnd → Type 0
AsksAlive asking (Ok Dead) (Ok judged) =
    judged ≡ record { token = asking.token; greatest = asking.greatest }
AsksAlive asking (Ok Alive) (Err (Refused (Held token))) = token ≡ asking.asked
AsksAlive asking (Err fault) (Err (Folder came)) = came ≡ fault
AsksAlive _ _ _ = ⊥

-- a create of the next number: done leads on, and where the lock stands it was raced
abbrev pub Claims : Lister → Result Created FolderFault → Result Maker LockEnd → Type 0
Claims judged (Ok Done) (Ok claimed) =
    claimed ≡ record { token = judged.token; number = judged.greatest + 1 }
Claims judged (Ok Exists) (Err (Refused (Raced number))) = number ≡ judged.greatest + 1
Claims judged (Err fault) (Err (Folder came)) = came ≡ fault
Claims _ _ _ = ⊥

-- the keeper of the lock that was made, where these numbers are listed
abbrev pub kept_of : Maker → List ℕ → Kept
kept_of claimed numbers = record {
  token = claimed.token;
  number = claimed.number;
  lower = filter (λ other. nat_lt other claimed.number) numbers;
}

-- the session whose lock was outrun, where these numbers are listed
abbrev pub loser_of : Maker → List ℕ → Overtaken
loser_of claimed numbers =
    record { token = claimed.token; number = claimed.number; greatest = greatest numbers }

-- a second listing: the own lock is the greatest, or a greater one stands, or neither does
abbrev pub Confirms : Maker → Result (List ℕ) FolderFault → Result Confirmed LockEnd → Type 0
Confirms claimed (Ok numbers) (Ok (Keeper keeper)) = (greatest numbers ≡ claimed.number)
    × (keeper ≡ kept_of claimed numbers)
Confirms claimed (Ok numbers) (Ok (Loser loser)) = (claimed.number < greatest numbers)
    × (loser ≡ loser_of claimed numbers)
Confirms claimed (Ok numbers) (Err (Refused (Outrun number other))) =
    (greatest numbers < claimed.number) × (number ≡ claimed.number) × (other ≡ greatest numbers)
Confirms claimed (Err fault) (Err (Folder came)) = came ≡ fault
Confirms _ _ _ = ⊥

-- the removal of a lock that was outrun: once it is done the step refuses with both numbers
abbrev pub Withdraws : Overtaken → Result (Unit {0}) FolderFault → LockEnd → Type 0
Withdraws loser (Ok unit) (Refused (Outrun number other)) =
    (number ≡ loser.number) × (other ≡ loser.greatest)
Withdraws loser (Err fault) (Folder came) = came ≡ fault
Withdraws _ _ _ = ⊥

-- a fault of the folder where a keeper frees its lock: given as it came
abbrev pub as_it_came : FolderFault → FolderFault
as_it_came fault = fault

-- the keeper once the first of the lower locks is removed
abbrev pub cleaned_once : Kept → Kept
cleaned_once keeper = record keeper { lower = drop 1 keeper.lower }

-- the state that frees the keeper's lock
abbrev pub freeing_of : Kept → Maker
freeing_of keeper = record { token = keeper.token; number = keeper.number }

-- the state of a session that has freed its lock
abbrev pub the_end : Ended
the_end = record {}
