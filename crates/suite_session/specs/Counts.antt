-- What each turn leaves of the calls that a session makes at most: an append fewer where it makes one, and
-- else another call fewer, with as many more as the second listing shows lower locks. Each goes on with the
-- text that is staged.
use Rattle.std.specs.Prelude.{◌≡◌, ◌⊎◌, ◌∷◌, ⊤, ◌+◌, ◌<◌, ◌≤◌, ℕ, if◌then◌else◌, List, nat_lt, filter, length, Option, IfSome}
use Rattle.acct_outside.specs.Tokens.{Token}
use Rattle.acct_outside.specs.Folder.{greatest}
use Rattle.acct_outside.specs.Calls.{Call, lists}
use Rattle.acct_outside.specs.Journal.{Entry, makes, showed}
use Rattle.acct_outside.specs.History.{History}
use Rattle.acct_outside.specs.Moment.{Past}
use Rattle.lock_steps.specs.Stands.{HasMade}
use Rattle.suite_session.specs.declared.state.State.{State}
use Rattle.suite_session.specs.declared.state.State.TheVariants.{Looking, Reading, Asking, Claiming, Confirming}
use Rattle.suite_session.specs.Runner.{Runner}
use Rattle.suite_session.specs.Causes.{Met}
use Rattle.suite_session.specs.Left.{appends_left, calls_left, is_append, most_lower, watching_calls}
use Rattle.suite_session.specs.NextCall.{state_call}
use Rattle.suite_session.specs.Texts.{GoesOn}

-- the session listed the locks once its create was done, its own was the greatest, and there were so
-- many lower ones
pub record ListedLower (token : Token) (history : History) (lower : ℕ) : Type 0 where
  pub number : ℕ
  pub numbers : List ℕ
  pub listed : Met token lists numbers (HasMade (record { token = token; number = number })) history
  pub kept : greatest numbers ≡ number
  pub are_lower : lower ≡ length (filter (λ other. nat_lt other number) numbers)

-- so many lower locks, which the history shows, or none
abbrev pub CountsLower : Token → History → ℕ → Type 0
CountsLower token history lower = (lower ≡ 0) ⊎ ListedLower token history lower

-- how many lower locks than the greatest a listing showed
abbrev pub lower_in : List ℕ → ℕ
lower_in numbers = length (filter (λ other. nat_lt other (greatest numbers)) numbers)

-- how many the call showed that the folder was asked for last
abbrev pub last_lower : List Entry → ℕ
last_lower (makes call (showed numbers) ∷ older) = lower_in numbers
last_lower journal = 0

-- the second listing of a session that takes a lock is still to come
abbrev pub IsToList : State → Type 0
IsToList (Looking looking) = ⊤
IsToList (Reading seen) = ⊤
IsToList (Asking asking) = ⊤
IsToList (Claiming judged) = ⊤
IsToList (Confirming claimed) = ⊤
IsToList state = ⊥

-- the appends that a call makes: one or none
abbrev pub appends_by : Call → ℕ
appends_by call = if is_append call then 1 else 0

-- the other calls that it is: none or one
abbrev pub others_by : Call → ℕ
others_by call = if is_append call then 0 else 1

-- a turn leaves an append fewer where its call is one, and else another call fewer
pub record LeavesFewer (old new : State) : Type 0 where
  pub calls : calls_left new + others_by (state_call old) ≤ calls_left old
  pub appends : appends_left new + appends_by (state_call old) ≤ appends_left old
  pub goes_on : GoesOn old new

-- before that listing a turn leaves a call fewer; it leads on towards the listing, or no more calls are
-- left than a report has that has judged the greatest lock
pub record Nears (old new : State) : Type 0 where
  pub fewer : calls_left new < calls_left old
  pub appends : appends_left new ≤ appends_left old
  pub next : IsToList new ⊎ (calls_left new ≤ watching_calls)
  pub goes_on : GoesOn old new

-- the listing, which is the last call in this journal, leaves a call fewer, with the lower locks that it
-- shows, and no others
pub record Listed (told : Option Past) (journal : List Entry) (runner : Runner) (old new : State)
    : Type 0 where
  pub lower : ℕ
  pub most : lower ≤ most_lower
  pub counts : IfSome told (λ past. CountsLower runner.token past.history lower)
  pub shown : (lower ≡ 0) ⊎ (lower ≡ last_lower journal)
  pub fewer : calls_left new + most_lower < calls_left old + lower
  pub appends : appends_left new ≤ appends_left old
  pub goes_on : GoesOn old new

-- what a turn leaves of the calls: one fewer, after the second listing with the lower locks that it shows.
-- The calls up to that listing are no appends.
abbrev pub CountsTo : Option Past → List Entry → Runner → State → State → Type 0
CountsTo told journal runner (Looking looking) new = Nears (Looking looking) new
CountsTo told journal runner (Reading seen) new = Nears (Reading seen) new
CountsTo told journal runner (Asking asking) new = Nears (Asking asking) new
CountsTo told journal runner (Claiming judged) new = Nears (Claiming judged) new
CountsTo told journal runner (Confirming claimed) new =
    Listed told journal runner (Confirming claimed) new
CountsTo told journal runner old new = LeavesFewer old new
