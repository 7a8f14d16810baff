-- Claim: a turn of a session on its way keeps its calls within the bound (`called-then`), and what it
-- writes to what is due (`wrote-then`); so do its begin (`called-first`), its answer (`called-last`), and
-- events of others (`called-still`, `within-still`).
-- Way: of a turn's new events one at most is the session's, of the call of its state (`grew-by`), and one
-- such call fewer is left; each new event says itself what it writes.
use Rattle.std.proofs.Common.{List, ◌≡◌, ◌⊎◌, refl, sym, ap, subst, ◌<◌, ◌≤◌, ◌+◌, ◌∙◌, ◌++◌, [], ◌∷◌, ℕ, Bool, true, false, not, cond, filter, length, inl, inr, Some, None, arith}
use Rattle.std.specs.List.{AllByRecursion}
use Rattle.acct_outside.specs.Tokens.{Token}
use Rattle.acct_outside.specs.Calls.{Answer as CallAnswer, Call, CallResult, Command, answers, begins, done}
use Rattle.acct_outside.specs.History.{Event, History, own_events}
use Rattle.acct_outside.specs.Others.{Admission, ByOthers}
use Rattle.acct_outside.specs.Moment.{Past}
use Rattle.acct_outside.specs.Contract.{NeverAdmits}
use Rattle.suite_rules.proofs.StepLemmas.{Stayed, stayed}
use Rattle.suite_answers.specs.declared.answer.Answer.{Answer}
use Rattle.suite_session.specs.declared.state.State.{State}
use Rattle.suite_session.specs.declared.state.State.TheVariants.{Looking, Reading, Asking, Claiming, Confirming, Answering}
use Rattle.suite_session.specs.Runner.{Runner}
use Rattle.suite_session.specs.Writing.{WroteDue}
use Rattle.suite_session.specs.Belongs.{of_others}
use Rattle.suite_session.specs.Bound.{HasCalled, IsWithinBound, appends_in, calls_of, others_in}
use Rattle.suite_session.specs.Counts.{CountsLower, CountsTo, IsToList, LeavesFewer, Nears, appends_by, others_by}
use Rattle.suite_session.specs.Grows.{Grows}
use Rattle.suite_session.specs.Left.{appends_left, calls_left, is_append, most_appends, most_calls, most_lower, watching_calls}
use Rattle.suite_session.specs.NextCall.{state_call}
use Rattle.suite_session.specs.Stands.{FindsNoMemory}
use Rattle.suite_session.specs.Texts.{GoesOn, HoldsText, LeadTo, StageTexts}
use Rattle.suite_session.proofs.WritingLemmas.{IsAlwaysDue, own-wrote, grows-wrote}
use Rattle.suite_session.proofs.DueLemmas.{met-later}
use Rattle.acct_outside.specs.Journal.{Entry}
use Rattle.suite_session.proofs.GrowsLemmas.{grows-extends, others-extend, others-grow}
use Rattle.suite_session.proofs.TextCalls.{lead-first, lead-last, lead-none, lead-then}

-- ---- Own events

-- an event is an append more where its call is one, and else another call more
appends-more : (event : Event) (events : History) →
    appends_in (event ∷ events) ≡ appends_in events + appends_by event.call
appends-more event events = cases (is_append event.call)
  where
    rest : History
    rest = filter (λ one. is_append one.call) events

    cases : (append : Bool) →
        length (cond append (event ∷ rest) rest) ≡ length rest + cond append 1 0
    cases true = omega arith
    cases false = omega arith

-- and another call more where it is none
others-more : (event : Event) (events : History) →
    others_in (event ∷ events) ≡ others_in events + others_by event.call
others-more event events = cases (is_append event.call)
  where
    rest : History
    rest = filter (λ one. not (is_append one.call)) events

    cases : (append : Bool) →
        length (cond (not append) (event ∷ rest) rest) ≡ length rest + cond append 0 1
    cases true = omega arith
    cases false = omega arith

-- the session got one event at most, which is of this call
abbrev pub OneMade : Past → Past → Token → Call → Type 0 → Type 0
OneMade was past token call NoMemory =
    ((result : CallResult (CallAnswer call))
    × (own_events token past.history
    ≡ record { token = token; call = call; result = result } ∷ own_events token was.history))
    ⊎ (NoMemory × (own_events token past.history ≡ own_events token was.history))

-- so its appends and its other calls grew by that call at most
record GrewBy (was past : Past) (token : Token) (call : Call) : Type 0 where
  pub appends : appends_in (own_events token past.history)
      ≤ appends_in (own_events token was.history) + appends_by call
  pub others : others_in (own_events token past.history)
      ≤ others_in (own_events token was.history) + others_by call

-- one call that was made, or none, adds at most what that call counts for
grew-by : (was past : Past) (token : Token) (call : Call) (NoMemory : Type 0) →
    OneMade was past token call NoMemory → GrewBy was past token call
grew-by was past token call NoMemory (inl made) =
    let event : Event = record { token = token; call = call; result = made.0 } in
    let appends = ap appends_in made.1 ∙ appends-more event (own_events token was.history) in
    let others = ap others_in made.1 ∙ others-more event (own_events token was.history) in
    record { appends = omega (arith, appends); others = omega (arith, others) }
grew-by was past token call NoMemory (inr none) =
    let appends = ap appends_in none.1 in
    let others = ap others_in none.1 in
    record { appends = omega (arith, appends); others = omega (arith, others) }

-- so they lead to what the next state has staged
led-then : (was past : Past) (token : Token) (old next : State) →
    OneMade was past token (state_call old) (FindsNoMemory next) → GoesOn old next →
    LeadTo (calls_of (own_events token was.history)) old →
    LeadTo (calls_of (own_events token past.history)) next
led-then was past token old next (inl made) goes_on lead =
    subst (λ (events : History). LeadTo (calls_of events) next) (sym made.1)
    (lead-then (calls_of (own_events token was.history)) old next goes_on lead)
led-then was past token old next (inr none) goes_on lead =
    subst (λ (events : History). LeadTo (calls_of events) next) (sym none.1)
    (lead-none (calls_of (own_events token was.history)) old next none.0 lead)

-- ---- Lower locks

-- what a listing showed it showed later too
counts-later : (token : Token) (old new newer : History) → new ≡ newer ++ old → (lower : ℕ) →
    CountsLower token old lower → CountsLower token new lower
counts-later token old new newer parts lower (inl none) = inl none
counts-later token old new newer parts lower (inr shows) = inr (record {
  number = shows.number;
  numbers = shows.numbers;
  listed = met-later _ _ _ _ old new newer parts shows.listed;
  kept = shows.kept;
  are_lower = shows.are_lower;
})

-- ---- The calls of a session

-- sums of calls
sums-then : (was now old new by most : ℕ) → now ≤ was + by → new + by ≤ old → was + old ≤ most →
    now + new ≤ most
sums-then was now old new by most more fewer within = omega (arith, more, fewer, within)

-- where the second listing is still to come
sums-near : (was now old new by lower : ℕ) → now ≤ was + by → by ≡ 1 → new < old →
    lower ≤ most_lower → was + old ≤ most_calls + lower → now + new ≤ most_calls + most_lower
sums-near was now old new by lower more one fewer most within =
    omega (arith, more, one, fewer, most, within)

-- where no more are left than a report has, after so many calls
sums-few : (was now old new by lower : ℕ) → now ≤ was + by → by ≡ 1 → new ≤ watching_calls →
    20 + most_lower ≤ old → lower ≤ most_lower → was + old ≤ most_calls + lower →
    now + new ≤ most_calls + 0
sums-few was now old new by lower more one few high most within =
    omega (arith, more, one, few, high, most, within)

-- where it showed so many lower locks
sums-listed : (was now old new lower shown : ℕ) → now ≤ was + 1 →
    new + most_lower < old + shown → lower ≤ most_lower → was + old ≤ most_calls + lower →
    now + new ≤ most_calls + shown
sums-listed was now old new lower shown more fewer most within =
    omega (arith, more, fewer, most, within)

-- appends where none comes
sums-same : (was now old new by most : ℕ) → now ≤ was + by → by ≡ 0 → new ≤ old →
    was + old ≤ most → now + new ≤ most
sums-same was now old new by most more none fewer within = omega (arith, more, none, fewer, within)

-- where the first call is all that was made
sums-first : (now new lower : ℕ) → now ≡ 1 → new + 1 ≤ most_calls + lower →
    now + new ≤ most_calls + lower
sums-first now new lower only fewer = omega (arith, only, fewer)

-- where no call is left to come
sums-last : (was now by most : ℕ) → now ≤ was + by → was + by ≤ most → now ≤ most
sums-last was now by most more within = omega (arith, more, within)

-- a session whose begin is its only event has called that
pub called-first : (token : Token) (command : Command) (state : State) (history : History)
    (lower : ℕ) → own_events token history
    ≡ record { token = token; call = begins command; result = done tt } ∷ [] →
    lower ≤ most_lower → IsToList state ⊎ CountsLower token history lower →
    calls_left state + 1 ≤ most_calls + lower → appends_left state ≤ most_appends →
    HoldsText state None → HasCalled token state history
called-first token command state history lower only most counts fewer few holds = record {
  lower = lower;
  most = most;
  counts = counts;
  within = sums-first _ _ lower (ap others_in only) fewer;
  appended = (let none = ap appends_in only in omega (arith, none, few));
  leads = subst (λ (events : History). LeadTo (calls_of events) state) (sym only)
      (lead-first command state holds);
}

-- and has written nothing
pub wrote-first : (token : Token) (command : Command) (history : History) →
    own_events token history
    ≡ record { token = token; call = begins command; result = done tt } ∷ [] →
    WroteDue token history
wrote-first token command history only = own-wrote token history
    (subst (AllByRecursion IsAlwaysDue) (sym only) (λ stood. tt, tt))

module _ (admits : Admission) (runner : Runner) (was past : Past)
    (own : NeverAdmits admits runner.token)
    (grown : Grows admits runner.token was.history 1 past.history) where
  -- the next turn writes what is due
  pub wrote-then : WroteDue runner.token was.history → WroteDue runner.token past.history
  wrote-then = grows-wrote admits runner.token was.history own 1 past.history grown

  -- the history is longer
  longer : (newer : History) × (past.history ≡ newer ++ was.history)
  longer = grows-extends admits runner.token was.history 1 past.history grown

  -- the lower locks that are counted in one state are so in the next
  counted-on : (state next : State) (lower : ℕ) → (IsToList state → ⊥) →
      IsToList state ⊎ CountsLower runner.token was.history lower →
      IsToList next ⊎ CountsLower runner.token past.history lower
  counted-on state next lower listed (inl is) = absurd (listed is)
  counted-on state next lower listed (inr counts) =
      inr (counts-later runner.token was.history past.history longer.0 longer.1 lower counts)

  module _ (call : Call) (grew : GrewBy was past runner.token call) where
    -- before the second listing a turn leads on towards it, or leaves no more calls than a report has
    nears-then : (next state : State) → others_by call ≡ 1 → appends_by call ≡ 0 →
        20 + most_lower ≤ calls_left state → Nears state next →
        LeadTo (calls_of (own_events runner.token past.history)) next →
        HasCalled runner.token state was.history → HasCalled runner.token next past.history
    nears-then next state one none high nears leads called = by-next nears.next
      where
        by-next : IsToList next ⊎ (calls_left next ≤ watching_calls) →
            HasCalled runner.token next past.history
        by-next (inl is) = record {
          lower = most_lower;
          most = omega arith;
          counts = inl is;
          within = sums-near _ _ _ _ _ called.lower grew.others one nears.fewer called.most
              called.within;
          appended = sums-same _ _ _ _ _ most_appends grew.appends none nears.appends
              called.appended;
          leads = leads;
        }
        by-next (inr few) = record {
          lower = 0;
          most = omega arith;
          counts = inr (inl refl);
          within = sums-few _ _ _ _ _ called.lower grew.others one few high called.most
              called.within;
          appended = sums-same _ _ _ _ _ most_appends grew.appends none nears.appends
              called.appended;
          leads = leads;
        }

    -- after it a turn leaves a call fewer
    fewer-then : (next state : State) → state_call state ≡ call → (IsToList state → ⊥) →
        LeavesFewer state next →
        LeadTo (calls_of (own_events runner.token past.history)) next →
        HasCalled runner.token state was.history →
        HasCalled runner.token next past.history
    fewer-then next state called_is listed fewer leads called = record {
      lower = called.lower;
      most = called.most;
      counts = counted-on state next called.lower listed called.counts;
      within = sums-then _ _ _ _ (others_by call) _ grew.others
          (subst (λ (one : Call). calls_left next + others_by one ≤ calls_left state) called_is
          fewer.calls) called.within;
      appended = sums-then _ _ _ _ (appends_by call) _ grew.appends
          (subst (λ (one : Call). appends_left next + appends_by one ≤ appends_left state)
          called_is fewer.appends) called.appended;
      leads = leads;
    }

  -- so its calls are within the bound after the next turn
  pub called-then : (next state : State) (journal : List Entry) →
      OneMade was past runner.token (state_call state) (FindsNoMemory next) →
      CountsTo (Some past) journal runner state next → HasCalled runner.token state was.history →
      HasCalled runner.token next past.history
  called-then next (Looking looking) journal made counts called =
      nears-then (state_call (Looking looking)) (grew-by was past runner.token _ _ made) next
      (Looking looking) refl refl (omega arith) counts
      (led-then was past runner.token (Looking looking) next made counts.goes_on called.leads)
      called
  called-then next (Reading seen) journal made counts called =
      nears-then (state_call (Reading seen)) (grew-by was past runner.token _ _ made) next
      (Reading seen) refl refl (omega arith) counts
      (led-then was past runner.token (Reading seen) next made counts.goes_on called.leads) called
  called-then next (Asking asking) journal made counts called =
      nears-then (state_call (Asking asking)) (grew-by was past runner.token _ _ made) next
      (Asking asking) refl refl (omega arith) counts
      (led-then was past runner.token (Asking asking) next made counts.goes_on called.leads) called
  called-then next (Claiming judged) journal made counts called =
      nears-then (state_call (Claiming judged)) (grew-by was past runner.token _ _ made) next
      (Claiming judged) refl refl (omega arith) counts
      (led-then was past runner.token (Claiming judged) next made counts.goes_on called.leads)
      called
  called-then next (Confirming claimed) journal made counts called =
      let grew = grew-by was past runner.token (state_call (Confirming claimed)) _ made in
      record {
        lower = counts.lower;
        most = counts.most;
        counts = inr counts.counts;
        within = sums-listed _ _ _ _ called.lower counts.lower grew.others counts.fewer called.most
            called.within;
        appended = sums-same _ _ _ _ _ most_appends grew.appends refl counts.appends
            called.appended;
        leads = led-then was past runner.token (Confirming claimed) next made counts.goes_on
            called.leads;
      }
  called-then next state journal made counts called =
      fewer-then (state_call state) (grew-by was past runner.token _ _ made) next state refl
      (λ is. is) counts
      (led-then was past runner.token state next made counts.goes_on called.leads) called

  -- and with its answer
  pub called-last : (given : Answer) (status : ℕ) →
      OneMade was past runner.token (answers status) ⊥ →
      HasCalled runner.token (Answering given) was.history → IsWithinBound runner.token past.history
  called-last given status made called = by-counts called.counts
    where
      grew : GrewBy was past runner.token (answers status)
      grew = grew-by was past runner.token (answers status) ⊥ made

      by-made : OneMade was past runner.token (answers status) ⊥ →
          StageTexts (calls_of (own_events runner.token past.history))
      by-made (inl one) = subst (λ (events : History). StageTexts (calls_of events)) (sym one.1)
          (lead-last status (calls_of (own_events runner.token was.history)) (Answering given)
          called.leads)
      by-made (inr none) = absurd none.0

      by-counts : ⊥ ⊎ CountsLower runner.token was.history called.lower →
          IsWithinBound runner.token past.history
      by-counts (inl never) = absurd never
      by-counts (inr counts) = record {
        lower = called.lower;
        counts = counts-later runner.token was.history past.history longer.0 longer.1
            called.lower counts;
        within = sums-last _ _ _ _ grew.others called.within;
        appended = sums-last _ _ _ _ grew.appends called.appended;
        stage = by-made made;
      }

-- ---- After events of others

-- none of these is the session's
pub others-never : (token : Token) → NeverAdmits (of_others token) token
others-never token history event other is = other is

module _ (token : Token) (old new : History) (came : ByOthers (of_others token) old new) where
  -- the history is longer
  longer-by-others : (newer : History) × (new ≡ newer ++ old)
  longer-by-others = others-extend (of_others token) old new came

  -- what is the session's is as it was
  pub others-leave : Stayed token old new
  others-leave = stayed (of_others token) token (others-never token) old new came

  -- and what it wrote was due
  pub wrote-still : WroteDue token old → WroteDue token new
  wrote-still = grows-wrote (of_others token) token old (others-never token) 0 new
      (others-grow (of_others token) token old 0 new came)

  -- the lower locks that are counted too
  counts-still : {ToList : Type 0} {lower : ℕ} → ToList ⊎ CountsLower token old lower →
      ToList ⊎ CountsLower token new lower
  counts-still (inl is) = inl is
  counts-still {lower = lower} (inr counts) =
      inr (counts-later token old new longer-by-others.0 longer-by-others.1 lower counts)

  -- its calls are within the bound still
  pub called-still : (state : State) → HasCalled token state old → HasCalled token state new
  called-still state called = record {
    lower = called.lower;
    most = called.most;
    counts = counts-still called.counts;
    within = subst (λ (events : History). others_in events + calls_left state
        ≤ most_calls + called.lower)
        (sym others-leave.same_events) called.within;
    appended = subst (λ (events : History). appends_in events + appends_left state ≤ most_appends)
        (sym others-leave.same_events) called.appended;
    leads = subst (λ (events : History). LeadTo (calls_of events) state)
        (sym others-leave.same_events) called.leads;
  }

  pub within-still : IsWithinBound token old → IsWithinBound token new
  within-still called = record {
    lower = called.lower;
    counts = counts-later token old new longer-by-others.0 longer-by-others.1 called.lower
        called.counts;
    within = subst (λ (events : History). others_in events ≤ most_calls + called.lower)
        (sym others-leave.same_events) called.within;
    appended = subst (λ (events : History). appends_in events ≤ most_appends)
        (sym others-leave.same_events) called.appended;
    stage = subst (λ (events : History). StageTexts (calls_of events))
        (sym others-leave.same_events) called.stage;
  }
