-- What each call of a folder does to the history that it tells: events of other sessions that it
-- admits, and then the call's own event; and to its journal, which has each call.
use Rattle.std.specs.Prelude.{◌≡◌, ⊤, ℕ, ◌≤◌, Bool, true, false, List, [], ◌∷◌, length, Option, None, Some, IfSome, Result, Ok, Err}
use Rattle.std.specs.Global.{Vec}
use Rattle.acct_text.specs.Bytes.{Bytes}
use Rattle.acct_outside.specs.declared.Name.{Name}
use Rattle.acct_outside.specs.declared.Name.TheVariants.{Lock}
use Rattle.acct_outside.specs.declared.FolderFault.{FolderFault}
use Rattle.acct_outside.specs.declared.FolderFault.TheVariants.{Failed, Memory}
use Rattle.acct_outside.specs.declared.Found.{Found as Reading}
use Rattle.acct_outside.specs.declared.Found.TheVariants.{Absent, Held, TooLarge}
use Rattle.acct_outside.specs.Names.{greatest_lock}
use Rattle.acct_outside.specs.Tokens.{Token}
use Rattle.acct_outside.specs.Folder.{Folder}
use Rattle.acct_outside.specs.Calls.{Call, Answer, CallResult, Command, Effect, Found, found_absent, found_bytes, found_too_large, found_within, begins, lists, reads, done, failed}
use Rattle.acct_outside.specs.History.{History, after, own_events}
use Rattle.acct_outside.specs.Life.{Life, life, unbegun, is_running}
use Rattle.acct_outside.specs.Gives.{GivesResult}
use Rattle.acct_outside.specs.Others.{Admission, AdmitsNoneOf, ByOthers, ByOthersThen}
use Rattle.acct_outside.specs.Faults.{CountsFailure}
use Rattle.acct_outside.specs.Journal.{Entry, enters, listing_reply, makes, plain_reply, reply_of}
use Rattle.acct_outside.specs.Moment.{Past, Moment, Narrows, Notes}

-- the number of a lock
pub record IsLockNumber (n : ℕ) : Type 0 where
  pub low : 1 ≤ n
  pub high : n ≤ greatest_lock

-- a name of the folder: a lock's has a number in its bounds
abbrev pub IsName : Name → Type 0
IsName (Lock n) = IsLockNumber n
IsName _ = ⊤

-- a begin gave the token of such a life
abbrev pub was_begun : Life → Bool
was_begun unbegun = false
was_begun _ = true

-- the token was given by a begin of the history
abbrev pub has_begun : Token → History → Bool
has_begun token history = was_begun (life token history)

-- no event of the session is admitted next, after whatever history
abbrev pub NeverAdmits : Admission → Token → Type 0
NeverAdmits admits token = (history : History) → AdmitsNoneOf admits history token

-- the session may call the folder: where a history is told, a begin there gave its token, and the
-- folder admits no event of it
pub record ActsIn (admits : Admission) (token : Token) (past : Past) : Type 0 where
  pub begun : has_begun token past.history ≡ true
  pub own : NeverAdmits admits token

-- where a history is told, the session may call the folder
abbrev pub MayAct : Moment → Token → Type 0
MayAct now token = IfSome now.told (ActsIn now.admits token)

-- the same of a session that runs
pub record RunsIn (admits : Admission) (token : Token) (past : Past) : Type 0 where
  pub runs : is_running token past.history ≡ true
  pub own : NeverAdmits admits token

-- where a history is told, the session may answer
abbrev pub MayAnswer : Moment → Token → Type 0
MayAnswer now token = IfSome now.told (RunsIn now.admits token)

-- what holds of the history before and after the call, where one is told; its first moment stays
abbrev pub WhereTold : Option Past → Option Past → (Folder → History → History → Type 0) → Type 0
WhereTold None None P = ⊤
WhereTold (Some before) (Some now) P =
    (now.first ≡ before.first) × P before.first before.history now.history
WhereTold _ _ P = ⊥

-- The folder tells this event of the session, after events of others that it admits. The event's
-- result is one that it gives there.
pub record TellsEvent (admits : Admission) (token : Token) (call : Call)
    (result : CallResult (Answer call)) (gives : History → CallResult (Answer call) → Type 0)
    (old new : History) : Type 0 where
  pub others_then :
      ByOthersThen admits old (record { token = token; call = call; result = result }) new
  pub given : gives others_then.between result

-- An answer is a done call, and a failure is a call that failed with some effect. Want of memory
-- has no event of its own.
abbrev pub TellsCall : Admission → Token → (call : Call)
    → (History → CallResult (Answer call) → Type 0) → Result (Answer call) FolderFault
    → History → History → Type 0
TellsCall admits token call gives (Ok answer) old new =
    TellsEvent admits token call (done answer) gives old new
TellsCall admits token call gives (Err Failed) old new =
    (effect : Effect) × TellsEvent admits token call (failed effect) gives old new
TellsCall admits token call gives (Err Memory) old new = ByOthers admits old new

-- where the folder tells its history, the call has its event, with a result that the folder gives
abbrev pub Tells : Moment → Moment → Token → (call : Call)
    → Result (Answer call) FolderFault → Type 0
Tells before now token call result =
    WhereTold before.told now.told
    (λ first old new.
    TellsCall before.admits token call
    (λ between r. GivesResult (after first between) between token call r) result old new)

-- the journal has the call with what it came to
abbrev pub NotesCall : Moment → Moment → (call : Call) → Result (Answer call) FolderFault → Type 0
NotesCall before now call result = Notes before now (makes call (reply_of call result))

-- a read gives what stands there up to its limit, which for an event of a lawful history is the
-- limit of the name
abbrev pub GivesRead : ℕ → Folder → (name : Name) → CallResult Found → Type 0
GivesRead limit folder name (done found) = found ≡ found_within limit (folder.file name)
GivesRead limit folder name _ = ⊤

-- what a read of the program found, as an event has it
abbrev pub found_of : Reading → Found
found_of Absent = found_absent
found_of (Held bytes) = found_bytes bytes
found_of TooLarge = found_too_large

-- what a read of the program answered, as an event has it
abbrev pub found_result : Result Reading FolderFault → Result Found FolderFault
found_result (Ok found) = Ok (found_of found)
found_result (Err fault) = Err fault

-- where the folder tells its history, the read has its event, with what stands up to its limit
abbrev pub TellsRead : Moment → Moment → Token → Name → ℕ
    → Result Reading FolderFault → Type 0
TellsRead before now token name limit result =
    WhereTold before.told now.told
    (λ first old new.
    TellsCall before.admits token (reads name)
    (λ between r. GivesRead limit (after first between) name r) (found_result result) old new)

-- what is held is within the limit
abbrev pub IsWithinLimit : ℕ → Reading → Type 0
IsWithinLimit limit (Held bytes) = length bytes ≤ limit
IsWithinLimit limit _ = ⊤

-- The begin's event has the token that it gave, or none where it failed. The session's events are
-- its begin alone.
abbrev pub TellsBegin : Admission → Command → Result Token FolderFault
    → Folder → History → History → Type 0
TellsBegin admits command (Ok token) first old new =
    TellsEvent admits token (begins command) (done tt)
    (λ between r. GivesResult (after first between) between token (begins command) r) old new
    × (own_events token new
    ≡ record { token = token; call = begins command; result = done tt } ∷ [])
TellsBegin admits command (Err Failed) first old new =
    (effect : Effect) × TellsEvent admits [] (begins command) (failed effect)
    (λ between r. GivesResult (after first between) between [] (begins command) r) old new
TellsBegin admits command (Err Memory) first old new = ByOthers admits old new

-- a listing's numbers
abbrev pub locks_result : Result (Vec ℕ) FolderFault → Result (List ℕ) FolderFault
locks_result (Ok numbers) = Ok numbers.items
locks_result (Err fault) = Err fault

-- The folder goes from one moment to the next: this is what its history shows, it admits no more
-- than before, it tells a failure only where its count rose, and its journal has this entry more.
pub record Passes {T : Type 0} (before now : Moment) (Told : Type 0) (entry : Entry)
    (result : Result T FolderFault) : Type 0 where
  pub told : Told
  pub narrows : Narrows before.admits now.admits
  pub faults : CountsFailure Failed before.faults now.faults result
  pub noted : Notes before now entry

-- with nothing new in its history
abbrev pub EntersFolder : Moment → Moment → Bytes → Result (Unit {0}) FolderFault → Type 0
EntersFolder before now prefix result =
    Passes before now (now.told ≡ before.told) (enters prefix (plain_reply result)) result

-- with the begin of a session
abbrev pub BeginsSession : Moment → Moment → Command → Result Token FolderFault → Type 0
BeginsSession before now command result =
    Passes before now (WhereTold before.told now.told (TellsBegin before.admits command result))
    (makes (begins command) (plain_reply result)) result

-- with the listing of a session
abbrev pub ListsLocks : Moment → Moment → Token → Result (Vec ℕ) FolderFault → Type 0
ListsLocks before now token result =
    Passes before now (Tells before now token lists (locks_result result))
    (makes lists (listing_reply (locks_result result))) result

-- with the read of a session
abbrev pub ReadsFolder : Moment → Moment → Token → Name → ℕ → Result Reading FolderFault → Type 0
ReadsFolder before now token name limit result =
    Passes before now (TellsRead before now token name limit result)
    (makes (reads name) (plain_reply result)) result

-- with another call of a session
abbrev pub CallsFolder : Moment → Moment → Token → (call : Call)
    → Result (Answer call) FolderFault → Type 0
CallsFolder before now token call result =
    Passes before now (Tells before now token call result) (makes call (reply_of call result))
    result
