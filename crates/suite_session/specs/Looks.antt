-- How often a session looks at what others change: it lists the locks before its create and after it (a
-- report before its reads and after them), reads one lock, asks for one holder, and reads the intent
-- once. It looks at nothing again until that suits it (docs/ARCHITECTURE.md, "Taking over").
use Rattle.std.specs.Prelude.{◌+◌, ◌≤◌, ℕ, Bool, true, false, if◌then◌else◌, filter, length}
use Rattle.acct_outside.specs.declared.Name.TheVariants.{Intent, Lock}
use Rattle.acct_outside.specs.Tokens.{Token}
use Rattle.acct_outside.specs.Calls.{Call, asks, lists, reads}
use Rattle.acct_outside.specs.History.{History, own_events}
use Rattle.lock_steps.specs.Watching.{Gatherer}
use Rattle.suite_session.specs.declared.state.State.{State}
use Rattle.suite_session.specs.declared.state.State.TheVariants.{Looking, Reading, Asking, Claiming, Confirming, ReadingIntent, Watching, Gathering}
use Rattle.suite_session.specs.NextCall.{state_call}

-- what a session looks at: the numbers of the locks, the text of one, whether its holder runs, the intent
pub data Look : Type 0 where
  at_locks : Look
  at_text : Look
  at_holder : Look
  at_intent : Look

-- the call looks at that
abbrev pub looks_at : Call → Look → Bool
looks_at lists at_locks = true
looks_at (reads (Lock number)) at_text = true
looks_at (asks token) at_holder = true
looks_at (reads Intent) at_intent = true
looks_at call look = false

-- how many of the events do
abbrev pub looks_in : Look → History → ℕ
looks_in look events = length (filter (λ event. looks_at event.call look) events)

-- how often a session looks at it at most
abbrev pub most_looks : Look → ℕ
most_looks at_locks = 2
most_looks look = 1

-- the session has looked at nothing more often
abbrev pub LooksOnce : Token → History → Type 0
LooksOnce token history =
    (look : Look) → looks_in look (own_events token history) ≤ most_looks look

-- ---- On its way

-- the looks of a call: one or none
abbrev pub looks_by : Call → Look → ℕ
looks_by call look = if looks_at call look then 1 else 0

-- those of the names that a report is to read, and of its second listing
abbrev pub gathering_looks : Gatherer → Look → ℕ
gathering_looks reading look =
    length (filter (λ name. looks_at (reads name) look) reading.left) + looks_by lists look

-- the looks that a state has left at most
abbrev pub looks_left : State → Look → ℕ
looks_left (Looking looking) look = most_looks look
looks_left (Reading seen) look = 1
looks_left (Asking asking) at_text = 0
looks_left (Asking asking) look = 1
looks_left (Claiming judged) at_locks = 1
looks_left (Claiming judged) at_intent = 1
looks_left (Confirming claimed) at_locks = 1
looks_left (Confirming claimed) at_intent = 1
looks_left (ReadingIntent keeper) at_intent = 1
looks_left (Watching watcher) at_locks = 1
looks_left (Watching watcher) at_intent = 1
looks_left (Gathering reading) look = gathering_looks reading look
looks_left state look = 0

-- a turn that looks leaves a look fewer, and any other no more
abbrev pub LooksLess : State → State → Type 0
LooksLess old new = (look : Look) →
    looks_left new look + looks_by (state_call old) look ≤ looks_left old look

-- on its way a session has looked so often that with the looks that are left none is one too many
abbrev pub HasLooksLeft : Token → State → History → Type 0
HasLooksLeft token state history = (look : Look) →
    looks_in look (own_events token history) + looks_left state look ≤ most_looks look
