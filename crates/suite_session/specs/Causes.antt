-- What a session met that its answer tells of. Each cause comes of one call of its own: what that
-- answered, and how the session stood when it made it (docs/ARCHITECTURE.md, "Taking over").
use Rattle.std.specs.Prelude.{◌≡◌, ◌≢◌, ◌⊎◌, ⊤, true, ◌∷◌, ◌++◌, ℕ, ◌+◌, ◌<◌, List, None, Some}
use Rattle.acct_outside.specs.declared.Name.{Name}
use Rattle.acct_outside.specs.declared.Name.TheVariants.{Intent, Lock}
use Rattle.acct_outside.specs.declared.Created.TheVariants.{Exists}
use Rattle.acct_outside.specs.declared.Verdict.TheVariants.{Alive}
use Rattle.acct_outside.specs.Names.{greatest_lock}
use Rattle.acct_outside.specs.Tokens.{Token}
use Rattle.acct_outside.specs.Folder.{greatest}
use Rattle.acct_outside.specs.Calls.{Call, Answer, Effect, Found, lists, reads, asks, creates, removes, answers, done, failed, found_absent, found_bytes, found_too_large}
use Rattle.acct_outside.specs.History.{History}
use Rattle.acct_text.specs.Bytes.{Bytes}
use Rattle.intent_file.specs.Parts.{FirstFault}
use Rattle.suite_rules.specs.OwnLock.{lock_uncalled, kept_number}
use Rattle.suite_rules.specs.Standing.{Standing, standing}
use Rattle.lock_steps.specs.LockText.{IsDamaged}
use Rattle.lock_steps.specs.States.{Lister}
use Rattle.lock_steps.specs.Stands.{HasNoLock, HasListed, HasLooked, HasReadHeld, HasJudged, HasMade, WasOvertaken}
use Rattle.suite_answers.specs.declared.cause.Which.TheVariants.{File}
use Rattle.suite_answers.specs.declared.cause.Cause.{Cause}
use Rattle.suite_answers.specs.declared.cause.Cause.TheVariants.{Held, Gone, Raced, Outrun, LockDamaged, Exhausted, IntentDamaged, TooLarge, DiskFault, InputFault, ClockFault}

-- the session made this call when it stood so, and this was the answer
pub record Met (token : Token) (call : Call) (answer : Answer call) (Stood : Standing → Type 0)
    (history : History) : Type 0 where
  pub newer : History
  pub older : History
  pub parts : history ≡ newer ++ record { token = token; call = call; result = done answer } ∷ older
  pub stood : Stood (standing token older)

-- ---- On the way to the lock

-- the session has listed the locks, with this greatest one
abbrev pub lister : Token → ℕ → Lister
lister token number = record { token = token; greatest = number }

-- the session has no lock, and hasn't listed any
pub record HasListedNone (standing : Standing) : Type 0 where
  pub owns : HasNoLock standing
  pub unlisted : standing.listing ≡ None

-- the greatest lock of its first listing had the last number that a lock can have
abbrev pub MetLast : Token → History → Type 0
MetLast token history = (numbers : List ℕ) × (greatest numbers ≡ greatest_lock)
    × Met token lists numbers HasListedNone history

-- the greatest lock, which it had listed, was gone when it read it; another number comes after it
abbrev pub MetNoLock : Token → ℕ → History → Type 0
MetNoLock token number history = (0 < number)
    × Met token (reads (Lock number)) found_absent (HasLooked (lister token number)) history
    × (number ≢ greatest_lock)

-- neither of the two texts of a lock was found
abbrev pub IsNoLockText : Found → Type 0
IsNoLockText found_absent = ⊥
IsNoLockText (found_bytes text) = IsDamaged text
IsNoLockText found_too_large = ⊤

-- it read the greatest lock, which it had listed, and found no text of a lock
abbrev pub MetDamage : Token → ℕ → History → Type 0
MetDamage token number history = (found : Found) × IsNoLockText found
    × Met token (reads (Lock number)) found (HasLooked (lister token number)) history
    × (number ≢ greatest_lock)

-- it had read the greatest lock as held by another session, which was told alive
abbrev pub MetHolder : Token → Token → History → Type 0
MetHolder token holder history = (number : ℕ) × Met token (asks holder) Alive
    (HasReadHeld (record { token = token; greatest = number; asked = holder })) history
    × (number ≢ greatest_lock)

-- it had judged the greatest lock, and the next one stood when it made that
abbrev pub MetNext : Token → ℕ → History → Type 0
MetNext token number history = (before : ℕ) × (number ≡ before + 1)
    × Met token (creates number) Exists (HasJudged (lister token before)) history

-- it listed the locks once its create was done, and the greatest was another than its own
abbrev pub MetOther : Token → ℕ → ℕ → History → Type 0
MetOther token number other history = (numbers : List ℕ) × (greatest numbers ≡ other)
    × (other ≢ number)
    × Met token lists numbers (HasMade (record { token = token; number = number })) history

-- a greater lock than its own was listed, and it removed its own
abbrev pub MetGreater : Token → ℕ → ℕ → History → Type 0
MetGreater token number other history = (number < other) × Met token (removes (Lock number)) tt
    (WasOvertaken (record { token = token; number = number; greatest = other })) history

-- its own lock was listed no more, nor a greater one; no lawful history has this
abbrev pub MetLoss : Token → ℕ → ℕ → History → Type 0
MetLoss token number other history = (numbers : List ℕ) × (greatest numbers ≡ other)
    × (other < number)
    × Met token lists numbers (HasMade (record { token = token; number = number })) history

-- it gave up its own lock, as another one was the greatest
abbrev pub HasYielded : Token → ℕ → ℕ → History → Type 0
HasYielded token number other history =
    MetGreater token number other history ⊎ MetLoss token number other history

-- ---- Without a lock

-- it had judged the greatest lock, and then listed another as the greatest
abbrev pub MetChange : Token → ℕ → ℕ → History → Type 0
MetChange token number other history = (numbers : List ℕ) × (greatest numbers ≡ other)
    × (other ≢ number) × Met token lists numbers (HasJudged (lister token number)) history

-- it has judged the greatest lock, which has this number, and has found this at the name since
abbrev pub HasWatched : ℕ → Name → Found → Standing → Type 0
HasWatched number name found = HasListed lock_uncalled number
    (λ listing. (listing.is_judged ≡ true) × (listing.watched name ≡ Some found))

-- it listed the locks again, with the same greatest one, and had found this at the name in between
abbrev pub MetShown : Token → Name → Found → History → Type 0
MetShown token name found history =
    (numbers : List ℕ) × Met token lists numbers (HasWatched (greatest numbers) name found) history

-- ---- The intent

-- the session is or was keeper
abbrev pub HasKept : Standing → Type 0
HasKept standing = (number : ℕ) × (kept_number standing.own ≡ Some number)

-- as keeper it found this at the intent; or it has shown that without a lock, which a second listing
-- confirmed
abbrev pub MetIntent : Token → Found → History → Type 0
MetIntent token found history =
    Met token (reads Intent) found HasKept history ⊎ MetShown token Intent found history

-- it found an intent of which this part is the first that doesn't stand
abbrev pub MetBadIntent : Token → ℕ → History → Type 0
MetBadIntent token part history =
    (bytes : Bytes) × FirstFault bytes part × MetIntent token (found_bytes bytes) history

-- it found that the intent has more bytes than one may have
abbrev pub MetLargeIntent : Token → History → Type 0
MetLargeIntent token = MetIntent token found_too_large

-- ---- A fault of the folder

-- one of the session's calls, other than its answer, failed with some effect
pub record HasFailed (token : Token) (history : History) : Type 0 where
  pub newer : History
  pub older : History
  pub call : Call
  pub no_answer : (status : ℕ) → call ≢ answers status
  pub effect : Effect
  pub parts : history ≡ newer
      ++ record { token = token; call = call; result = failed effect } ∷ older

-- ---- All causes

-- one of a session's calls shows the cause
abbrev pub ComesOfCall : Cause → Type 0
ComesOfCall (Held holder) = ⊤
ComesOfCall (Gone number) = ⊤
ComesOfCall (Raced number) = ⊤
ComesOfCall (Outrun number other) = ⊤
ComesOfCall (LockDamaged number) = ⊤
ComesOfCall Exhausted = ⊤
ComesOfCall (IntentDamaged part) = ⊤
ComesOfCall (TooLarge (File Intent)) = ⊤
ComesOfCall (DiskFault stage) = ⊤
ComesOfCall cause = ⊥

-- what the session met where its answer has this cause; of a file that is too large, but for the intent,
-- a tool's answer tells, of the input and the clock no session, and of a stream or of want of memory no call
abbrev pub HasMet : Token → History → Cause → Type 0
HasMet token history (Held holder) = MetHolder token holder history
HasMet token history (Gone number) = MetNoLock token number history
HasMet token history (Raced number) = MetNext token number history
HasMet token history (Outrun number other) =
    MetOther token number other history ⊎ MetChange token number other history
HasMet token history (LockDamaged number) = MetDamage token number history
HasMet token history Exhausted = MetLast token history
HasMet token history (IntentDamaged part) = MetBadIntent token part history
HasMet token history (TooLarge (File Intent)) = MetLargeIntent token history
HasMet token history (TooLarge which) = ⊥
HasMet token history (DiskFault stage) = HasFailed token history
HasMet token history InputFault = ⊥
HasMet token history ClockFault = ⊥
HasMet token history cause = ⊤

-- ---- What it is to tell

-- however the session stood
abbrev pub Anyhow : Standing → Type 0
Anyhow standing = ⊤

-- The session is to tell the cause once one of its calls answered so, whatever it has listed or read since
-- or before: a holder that is told alive, a lock that is gone or damaged, one that stands already. Of what
-- else it met it is to tell what shows that.
abbrev pub MustTell : Token → History → Cause → Type 0
MustTell token history (Held holder) = Met token (asks holder) Alive Anyhow history
MustTell token history (Gone number) = Met token (reads (Lock number)) found_absent Anyhow history
MustTell token history (Raced number) = Met token (creates number) Exists Anyhow history
MustTell token history (LockDamaged number) = (found : Found) × IsNoLockText found
    × Met token (reads (Lock number)) found Anyhow history
MustTell token history cause = HasMet token history cause
