-- The results that a folder gives at a point of its history.
use Rattle.std.specs.Prelude.{◌≡◌, ℕ, false, [], IsSome, IsNone}
use Rattle.acct_outside.specs.declared.Name.TheVariants.{Lock}
use Rattle.acct_outside.specs.declared.Verdict.{Verdict}
use Rattle.acct_outside.specs.declared.Verdict.TheVariants.{Alive, Dead}
use Rattle.acct_outside.specs.declared.Created.{Created}
use Rattle.acct_outside.specs.declared.Created.TheVariants.{Done, Exists}
use Rattle.acct_outside.specs.Names.{name_limit}
use Rattle.acct_outside.specs.Tokens.{Token, IsToken}
use Rattle.acct_outside.specs.Folder.{Folder}
use Rattle.acct_outside.specs.Calls.{Call, Answer, CallResult, Effect, found_within, begins, lists, reads, asks, creates, appends, renames, removes, answers, done, failed, died, happened, left}
use Rattle.acct_outside.specs.History.{Event, History, after}
use Rattle.acct_outside.specs.Life.{life, unbegun, is_running}

-- Dead is told only of a session that doesn't run
abbrev pub GivesVerdict : History → Token → Verdict → Type 0
GivesVerdict history asked Alive = Unit {0}
GivesVerdict history asked Dead = is_running asked history ≡ false

-- Create answers Exists exactly where the lock stands
abbrev pub GivesCreated : Folder → ℕ → Created → Type 0
GivesCreated folder n Done = IsNone (folder.file (Lock n))
GivesCreated folder n Exists = IsSome (folder.file (Lock n))

-- the answer that the folder gives, where the call is done: a begin a token that no earlier begin
-- gave, a listing the lock numbers, a read what stands there within the name's limit; an append
-- is done only where its name stands, a rename only where its source stands
abbrev pub GivesAnswer : Folder → History → Token → (call : Call) → Answer call → Type 0
GivesAnswer folder history token (begins command) answer =
    IsToken token × (life token history ≡ unbegun)
GivesAnswer folder history token lists answer = answer ≡ folder.locks
GivesAnswer folder history token (reads name) answer =
    answer ≡ found_within (name_limit name) (folder.file name)
GivesAnswer folder history token (asks asked) answer = GivesVerdict history asked answer
GivesAnswer folder history token (creates n) answer = GivesCreated folder n answer
GivesAnswer folder history token (appends name piece) answer = IsSome (folder.file name)
GivesAnswer folder history token (renames from to) answer = IsSome (folder.file from)
GivesAnswer folder history token _ answer = Unit {0}

-- what a call may have done that didn't answer: a create, an append or a rename happened only where
-- it could, and only a write or an append leaves bytes behind. On a reading call the effect is without meaning
abbrev pub GivesEffect : Folder → Call → Effect → Type 0
GivesEffect folder (creates n) happened = IsNone (folder.file (Lock n))
GivesEffect folder (creates n) (left content) = ⊥
GivesEffect folder (appends name piece) happened = IsSome (folder.file name)
GivesEffect folder (renames from to) happened = IsSome (folder.file from)
GivesEffect folder (renames from to) (left content) = ⊥
GivesEffect folder (removes name) (left content) = ⊥
GivesEffect _ _ _ = Unit {0}

-- a begin that failed or within which its session died gives the empty token; an answer is never
-- refused
abbrev pub GivesResult : Folder → History → Token → (call : Call) → CallResult (Answer call)
    → Type 0
GivesResult folder history token call (done answer) = GivesAnswer folder history token call answer
GivesResult folder history token (begins command) (failed effect) = token ≡ []
GivesResult folder history token (begins command) (died effect) = token ≡ []
GivesResult folder history token (answers status) (failed effect) = ⊥
GivesResult folder history token call (failed effect) = GivesEffect folder call effect
GivesResult folder history token call (died effect) = GivesEffect folder call effect

-- the event has a result that the folder gives after the history
abbrev pub Gives : Folder → History → Event → Type 0
Gives first history e = GivesResult (after first history) history e.token e.call e.result
