-- The journal of a folder: what it was asked, call by call, and what each call came to. Contracts alone
-- speak of it. It has each call of the trait `Folder` but `faults`, also one that the history has no event
-- of, and where no history is told.
use Rattle.std.specs.Prelude.{◌≡◌, ℕ, List, [], ◌∷◌, Option, None, Some, Result, Ok, Err}
use Rattle.acct_text.specs.Bytes.{Bytes}
use Rattle.acct_outside.specs.declared.FolderFault.{FolderFault}
use Rattle.acct_outside.specs.Calls.{Call, Answer, lists}

-- what a call came to: it failed or found no memory; a listing showed these numbers; another was done
pub data Reply : Type 0 where
  was_refused : Reply
  showed : List ℕ → Reply
  was_done : Reply

-- the folder was named by a prefix, or asked for a call
pub data Entry : Type 0 where
  enters : Bytes → Reply → Entry
  makes : Call → Reply → Entry

-- what a call came to that shows no numbers
abbrev pub plain_reply : {T : Type 0} → Result T FolderFault → Reply
plain_reply (Ok answer) = was_done
plain_reply (Err fault) = was_refused

-- what a listing came to
abbrev pub listing_reply : Result (List ℕ) FolderFault → Reply
listing_reply (Ok numbers) = showed numbers
listing_reply (Err fault) = was_refused

-- what a call came to
abbrev pub reply_of : (call : Call) → Result (Answer call) FolderFault → Reply
reply_of lists result = listing_reply result
reply_of _ result = plain_reply result

-- the newest entry came to this
abbrev pub replied : Reply → List Entry → List Entry
replied reply [] = []
replied reply (enters prefix was ∷ older) = enters prefix reply ∷ older
replied reply (makes call was ∷ older) = makes call reply ∷ older

-- the newest entry, of a call that came to this, is done exactly where the call was
abbrev pub Settles : {T : Type 0} → List Entry → List Entry → Result T FolderFault → Type 0
Settles old new (Ok answer) = new ≡ replied was_done old
Settles old new (Err fault) = new ≡ old

-- the prefix by which the folder was named last; none where it has no name
abbrev pub last_entered : List Entry → Option Bytes
last_entered [] = None
last_entered (enters prefix was_done ∷ older) = Some prefix
last_entered (entry ∷ older) = last_entered older
