-- Which events a session makes: at most most_calls, and one for each lower lock that its second listing
-- showed; and appends, one for each piece of a text behind its first.
use Rattle.std.specs.Prelude.{◌⊎◌, ◌+◌, ◌≤◌, ℕ, List, filter, length, map, not}
use Rattle.acct_outside.specs.Tokens.{Token}
use Rattle.acct_outside.specs.Calls.{Call}
use Rattle.acct_outside.specs.History.{History, own_events}
use Rattle.acct_outside.specs.Others.{Admission}
use Rattle.suite_session.specs.declared.state.State.{State}
use Rattle.suite_session.specs.declared.state.State.TheVariants.{Looking, Reading, Asking, Watching, Gathering, Answering}
use Rattle.suite_session.specs.Counts.{CountsLower, IsToList}
use Rattle.suite_session.specs.Grows.{Grows}
use Rattle.suite_session.specs.Left.{appends_left, calls_left, is_append, most_appends, most_calls, most_lower, watching_calls}
use Rattle.suite_session.specs.Reports.{ChangesNothing, report_calls}
use Rattle.suite_session.specs.Texts.{LeadTo, StageTexts}

-- how many of the events are appends
abbrev pub appends_in : History → ℕ
appends_in events = length (filter (λ event. is_append event.call) events)

-- how many are other calls
abbrev pub others_in : History → ℕ
others_in events = length (filter (λ event. not (is_append event.call)) events)

-- their calls
abbrev pub calls_of : History → List Call
calls_of events = map (λ event. event.call) events

-- the session's events but appends are at most most_calls, and one for each lower lock that its second
-- listing showed; they stage texts in their pieces, with most_appends at most
pub record IsWithinBound (token : Token) (history : History) : Type 0 where
  pub lower : ℕ
  pub counts : CountsLower token history lower
  pub within : others_in (own_events token history) ≤ most_calls + lower
  pub appended : appends_in (own_events token history) ≤ most_appends
  pub stage : StageTexts (calls_of (own_events token history))

-- the new events of the history were admitted from others or are the session's, and these are within
-- the bound
pub record IsBounded (admits : Admission) (token : Token) (old new : History) : Type 0 where
  pub made : ℕ
  pub grows : Grows admits token old made new
  pub within : IsWithinBound token new

-- On its way a session has made so many calls that with those that are left they are within the bound;
-- they lead to what it has staged. Before its second listing as many lower locks are counted as one can
-- show.
pub record HasCalled (token : Token) (state : State) (history : History) : Type 0 where
  pub lower : ℕ
  pub most : lower ≤ most_lower
  pub counts : IsToList state ⊎ CountsLower token history lower
  pub within : others_in (own_events token history) + calls_left state ≤ most_calls + lower
  pub appended : appends_in (own_events token history) + appends_left state ≤ most_appends
  pub leads : LeadTo (calls_of (own_events token history)) state

-- The events that a report has left at most: before it has judged the greatest lock it may have to read
-- that, and to ask for its holder. In other states no report stands.
abbrev pub report_left : State → ℕ
report_left (Looking looking) = 3 + watching_calls
report_left (Reading seen) = 2 + watching_calls
report_left (Asking asking) = 1 + watching_calls
report_left (Watching watcher) = calls_left (Watching watcher)
report_left (Gathering reading) = calls_left (Gathering reading)
report_left (Answering answer) = calls_left (Answering answer)
report_left state = 0

-- On its way a report has changed no name, and its events are within the bound with those that are left.
pub record HasCalledFree (token : Token) (state : State) (history : History) : Type 0 where
  pub free : ChangesNothing token history
  pub within : length (own_events token history) + report_left state ≤ report_calls
