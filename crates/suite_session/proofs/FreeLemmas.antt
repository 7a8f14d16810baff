-- Claims: a turn of a report changes no name and keeps its events within their bound (`free-then`); so do its
-- begin (`free-first`), its answer (`free-last`), and events of others (`free-still`, `ran-still`).
-- Way: a session whose calls change no name has called no create (`free-uncalled`), so a report stands in
-- none of the states that write (`stands-free`), and each turn leaves it an event fewer (`left-fewer`).
use Rattle.std.proofs.Common.{List, ◌≡◌, ◌⊎◌, refl, sym, ap, subst, ◌∙◌, ◌<◌, ◌≤◌, ◌+◌, ◌∷◌, [], ℕ, Bool, true, false, length, slice_get, if◌then◌else◌, inl, inr, Some, None, Option, IfSome, true≢false, arith}
use Rattle.std.specs.List.{AllByRecursion}
use Rattle.acct_outside.specs.declared.CommitStage.{CommitStage}
use Rattle.acct_outside.specs.declared.Name.{Name}
use Rattle.acct_outside.specs.Tokens.{Token}
use Rattle.acct_outside.specs.Calls.{Answer as CallAnswer, Call, CallResult, Command, answers, begins, creates, done, lists, reads, renames}
use Rattle.acct_outside.specs.History.{Event, History, is_of, own_events}
use Rattle.acct_outside.specs.Moment.{Past, Moment}
use Rattle.acct_outside.specs.Others.{ByOthers}
use Rattle.account_model.specs.Request.{is_report}
use Rattle.suite_rules.specs.Knowledge.{Knowledge}
use Rattle.suite_rules.specs.OwnLock.{lock_uncalled, lock_made, own_step}
use Rattle.suite_rules.specs.Standing.{Standing, standing, standing_step}
use Rattle.suite_rules.proofs.Own.{own-standing}
use Rattle.lock_steps.specs.NextCall.{next_or}
use Rattle.lock_steps.specs.States.{Kept}
use Rattle.lock_steps.specs.Stands.{Keeps}
use Rattle.lock_steps.specs.Watching.{Gatherer, gathering_call}
use Rattle.suite_answers.specs.declared.answer.Answer.{Answer}
use Rattle.suite_session.specs.declared.state.State.{State}
use Rattle.suite_session.specs.declared.state.State.TheVariants.{Looking, Reading, Asking, Claiming, Confirming, Withdrawing, ReadingIntent, Recovering, Moving, Loading, BackingUp, Committing, Installing, Unlocking, Freeing, Watching, Gathering, Answering}
use Rattle.suite_session.specs.Runner.{Runner}
use Rattle.suite_session.specs.Belongs.{of_others}
use Rattle.suite_session.specs.Bound.{HasCalledFree, report_left}
use Rattle.suite_session.specs.Counts.{CountsTo, IsToList, LeavesFewer, Nears, others_by}
use Rattle.suite_session.specs.Left.{calls_left, most_lower, watching_calls}
use Rattle.suite_session.specs.Moment.{At}
use Rattle.suite_session.specs.NextCall.{state_call}
use Rattle.suite_session.specs.Reports.{AnswersShown, ChangesNothing, IsFreeCall, RunsFree, report_calls}
use Rattle.suite_session.specs.Stands.{StandsAs}
use Rattle.suite_session.proofs.BoundLemmas.{OneMade, others-leave}
use Rattle.acct_outside.specs.Journal.{Entry}
use Rattle.suite_session.proofs.MetLemmas.{told-as}

-- ---- A session whose calls change no name

-- such a call leaves a session without a create
free-step : (call : Call) (result : CallResult (CallAnswer call)) → IsFreeCall call →
    own_step call result lock_uncalled ≡ lock_uncalled
free-step lists (done numbers) free = refl
free-step (creates number) result free = absurd free
free-step (renames from to) result free = absurd free
free-step call result free = refl

-- so it has called none
own-uncalled : (token : Token) (history : History) →
    AllByRecursion (λ event. IsFreeCall event.call) history →
    (standing token history).own ≡ lock_uncalled
own-uncalled token [] free = refl
own-uncalled token (event ∷ history) free = cases (is_of token event)
    (ap (own_step event.call event.result) (own-uncalled token history free.1)
    ∙ free-step event.call event.result free.0) (own-uncalled token history free.1)
  where
    cases : (own : Bool) → own_step event.call event.result (standing token history).own
        ≡ lock_uncalled → (standing token history).own ≡ lock_uncalled →
        (if own then standing_step event.call event.result (standing token history)
        else standing token history).own ≡ lock_uncalled
    cases true step rest = step
    cases false step rest = rest

-- who changed nothing has called for no lock
pub free-uncalled : (token : Token) (history : History) → ChangesNothing token history →
    (standing token history).own ≡ lock_uncalled
free-uncalled token history free =
    ap (λ (stood : Standing). stood.own) (own-standing.same_standing token history)
    ∙ own-uncalled token (own_events token history) free

-- what it has shown without a lock stays after its answer
pub reported-after : (runner : Runner) (answer : Answer) (status : ℕ) (stood : Standing) →
    AnswersShown runner answer stood →
    AnswersShown runner answer (standing_step (answers status) (done tt) stood)
reported-after runner answer status stood reported = record {
  report = reported.report;
  uncalled = reported.uncalled;
  shown = reported.shown;
  shows = rw reported.uncalled reported.shows;
  intent = reported.intent;
  shows_intent = reported.shows_intent;
  is_answer = reported.is_answer;
}

-- ---- The states of a report

-- the state's call changes no name
abbrev pub IsFreeState : State → Type 0
IsFreeState (Looking looking) = Unit {0}
IsFreeState (Reading seen) = Unit {0}
IsFreeState (Asking asking) = Unit {0}
IsFreeState (Watching watcher) = Unit {0}
IsFreeState (Gathering reading) = Unit {0}
IsFreeState (Answering answer) = Unit {0}
IsFreeState state = ⊥

-- a report that has changed no name stands in such a state
abbrev pub StandsFree : Runner → State → Past → Type 0
StandsFree runner state past = is_report runner.asked.request ≡ true →
    ChangesNothing runner.token past.history → IsFreeState state

-- where the session's lock is another than before its create, it has changed a name
held-unfree : (now : Moment) (runner : Runner) (state : State) (commit : CommitStage)
    (Holds : Standing → Type 0) →
    ((stood : Standing) → Holds stood → stood.own ≡ lock_uncalled → ⊥) →
    At now runner commit Holds → IfSome now.told (StandsFree runner state)
held-unfree now runner state commit Holds held =
    told-as now.told (λ past stood report free. absurd (held _ stood.holds.holds
    (free-uncalled runner.token past.history free)))

-- a lock that is kept isn't uncalled, nor is one that was made
kept-held : (keeper : Kept) (Knows : Knowledge → Type 0) (stood : Standing) →
    Keeps keeper Knows stood → stood.own ≡ lock_uncalled → ⊥
kept-held keeper Knows stood keeps uncalled = absurd (cc (sym keeps.locks.owns ∙ uncalled))

-- a lock that was made has been called for
made-held : (number : ℕ) (stood : Standing) → stood.own ≡ lock_made number →
    stood.own ≡ lock_uncalled → ⊥
made-held number stood made uncalled = absurd (cc (sym made ∙ uncalled))

-- so each state of a report is one whose call changes no name
pub stands-free : (now : Moment) (runner : Runner) (state : State) → StandsAs now runner state →
    IfSome now.told (StandsFree runner state)
stands-free now runner (Claiming judged) stands = told-as now.told
    (λ past stood report free. absurd (true≢false (sym report ∙ stands.2))) stands.1
stands-free now runner (Confirming claimed) stands =
    held-unfree now runner (Confirming claimed) _ _ (made-held claimed.number) stands.1
stands-free now runner (Withdrawing loser) stands =
    held-unfree now runner (Withdrawing loser) _ _
    (λ stood overtaken. made-held loser.number stood overtaken.owns) stands.2
stands-free now runner (ReadingIntent keeper) stands =
    held-unfree now runner (ReadingIntent keeper) _ _ (kept-held keeper _) stands.1
stands-free now runner (Recovering recovering) stands =
    held-unfree now runner (Recovering recovering) _ _
    (λ stood recovers. kept-held recovering.keeper _ stood recovers.carries.keeps) stands.1
stands-free now runner (Moving moving) stands =
    held-unfree now runner (Moving moving) _ _
    (λ stood staged. kept-held moving.keeper _ stood staged.recovers.carries.keeps) stands.2
stands-free now runner (Loading reader) stands =
    held-unfree now runner (Loading reader) _ _
    (λ stood read. kept-held reader.keeper _ stood read.keeps) stands.1
stands-free now runner (BackingUp walker answer) stands =
    held-unfree now runner (BackingUp walker answer) _ _
    (λ stood backs. kept-held walker.change.inputs.keeper _ stood backs.keeps) stands.stands
stands-free now runner (Committing stager answer) stands =
    held-unfree now runner (Committing stager answer) _ _
    (λ stood staged. kept-held stager.change.inputs.keeper _ stood staged.keeps) stands.stands
stands-free now runner (Installing walker answer) stands =
    held-unfree now runner (Installing walker answer) _ _
    (λ stood installs. kept-held walker.change.inputs.keeper _ stood installs.carries.keeps)
    stands.stands
stands-free now runner (Unlocking keeper answer) stands =
    held-unfree now runner (Unlocking keeper answer) _ _ (kept-held keeper _) stands.stands
stands-free now runner (Freeing freeing answer) stands =
    held-unfree now runner (Freeing freeing answer) _ _
    (λ stood staged uncalled. absurd (cc (sym staged.locks.owns ∙ uncalled))) stands.stands
stands-free now runner (Reading seen) stands =
    told-as now.told (λ past stood report free. tt) stands.2
stands-free now runner (Answering answer) stands =
    told-as now.told (λ past may report free. tt) stands.may_answer
stands-free now runner state stands = told-as now.told (λ past stood report free. tt) stands.1

-- the call of such a state changes no name
gathering-free : (reading : Gatherer) → IsFreeCall (gathering_call reading)
gathering-free reading = cases (slice_get reading.left 0)
  where
    cases : (next : Option Name) → IsFreeCall (next_or lists reads next)
    cases None = tt
    cases (Some name) = tt

-- each call of a state in which nothing is held changes nothing
state-free : (state : State) → IsFreeState state → IsFreeCall (state_call state)
state-free (Looking looking) free = tt
state-free (Reading seen) free = tt
state-free (Asking asking) free = tt
state-free (Watching watcher) free = tt
state-free (Gathering reading) free = gathering-free reading
state-free (Answering answer) free = tt
state-free state free = absurd free

-- ---- The events that are left

-- a report has no more left than any command in its state
left-most : (state : State) → report_left state ≤ calls_left state
left-most (Looking looking) = omega arith
left-most state = omega arith

-- by how much, before the second listing of a command
abbrev pub list_calls : ℕ
list_calls = 43 + most_lower

-- who is still to list the locks has so many calls more than a report has left
left-listing : (state : State) → IsToList state → report_left state + list_calls ≤ calls_left state
left-listing (Looking looking) is = omega arith
left-listing (Reading seen) is = omega arith
left-listing (Asking asking) is = omega arith
left-listing (Claiming judged) is = omega arith
left-listing (Confirming claimed) is = omega arith
left-listing state is = absurd is

-- before the greatest lock is judged
near-fewer : (old new : State) → report_left old + list_calls ≡ calls_left old →
    watching_calls < report_left old → Nears old new → report_left new < report_left old
near-fewer old new more high nears = by-next nears.next
  where
    fewer : calls_left new < calls_left old
    fewer = nears.fewer

    by-next : IsToList new ⊎ (calls_left new ≤ watching_calls) → report_left new < report_left old
    by-next (inl is) = let least = left-listing new is in omega (arith, more, fewer, least)
    by-next (inr few) = let most = left-most new in omega (arith, few, most, high)

-- and from then on
on-fewer : (old new : State) → others_by (state_call old) ≡ 1 → report_left old ≡ calls_left old →
    LeavesFewer old new → report_left new < report_left old
on-fewer old new one same counts =
    let fewer = counts.calls in
    let most = left-most new in
    omega (arith, one, same, fewer, most)

-- a call that gathers files is no append, and counts once
gathering-other : (reading : Gatherer) → others_by (gathering_call reading) ≡ 1
gathering-other reading = cases (slice_get reading.left 0)
  where
    cases : (next : Option Name) → others_by (next_or lists reads next) ≡ 1
    cases None = refl
    cases (Some name) = refl

-- so each turn leaves an event fewer
left-fewer : (told : Option Past) (journal : List Entry) (runner : Runner) (old new : State) →
    IsFreeState old → CountsTo told journal runner old new → report_left new < report_left old
left-fewer told journal runner (Looking looking) new free counts =
    near-fewer (Looking looking) new refl (omega arith) counts
left-fewer told journal runner (Reading seen) new free counts =
    near-fewer (Reading seen) new refl (omega arith) counts
left-fewer told journal runner (Asking asking) new free counts =
    near-fewer (Asking asking) new refl (omega arith) counts
left-fewer told journal runner (Watching watcher) new free counts =
    on-fewer (Watching watcher) new refl refl counts
left-fewer told journal runner (Gathering reading) new free counts =
    on-fewer (Gathering reading) new (gathering-other reading) refl counts
left-fewer told journal runner (Answering answer) new free counts =
    on-fewer (Answering answer) new refl refl counts
left-fewer told journal runner old new free counts = absurd free

-- ---- The turns of a report

-- its events with one more of a call that changes no name
with-one : (token : Token) (call : Call) (result : CallResult (CallAnswer call))
    (old new : History) → own_events token new
    ≡ record { token = token; call = call; result = result } ∷ own_events token old →
    IsFreeCall call → ChangesNothing token old → ChangesNothing token new
with-one token call result old new is free changes =
    subst (AllByRecursion (λ event. IsFreeCall event.call)) (sym is) (free, changes)

-- a further event makes the events longer by one
one-longer : (events old : History) (event : Event) → events ≡ event ∷ old →
    length events ≡ length old + 1
one-longer events old event is = ap (λ (one : History). length one) is ∙ omega arith

-- a turn
pub free-then : (runner : Runner) (old new : State) (was past : Past) → IsFreeState old →
    (NoMemory : Type 0) (journal : List Entry) →
    OneMade was past runner.token (state_call old) NoMemory →
    CountsTo (Some past) journal runner old new → HasCalledFree runner.token old was.history →
    HasCalledFree runner.token new past.history
free-then runner old new was past free NoMemory journal (inl made) counts called =
    let fewer = left-fewer (Some past) journal runner old new free counts in
    let longer = one-longer _ _ _ made.1 in
    let within = called.within in
    record {
      free = with-one runner.token (state_call old) made.0 was.history past.history made.1
          (state-free old free) called.free;
      within = omega (arith, fewer, longer, within);
    }
free-then runner old new was past free NoMemory journal (inr none) counts called =
    let fewer = left-fewer (Some past) journal runner old new free counts in
    let same = ap (λ (events : History). length events) none.1 in
    let within = called.within in
    record {
      free = subst (AllByRecursion (λ event. IsFreeCall event.call)) (sym none.1) called.free;
      within = omega (arith, fewer, same, within);
    }

-- the begin
pub free-first : (token : Token) (command : Command) (state : State) (history : History) →
    own_events token history
    ≡ record { token = token; call = begins command; result = done tt } ∷ [] →
    report_left state + 1 ≤ report_calls → HasCalledFree token state history
free-first token command state history only few = record {
  free = subst (AllByRecursion (λ event. IsFreeCall event.call)) (sym only) (tt, tt);
  within = (let one = ap (λ (events : History). length events) only in omega (arith, one, few));
}

-- the answer
pub free-last : (runner : Runner) (answer : Answer) (status : ℕ) (was past : Past) →
    own_events runner.token past.history ≡ record {
      token = runner.token;
      call = answers status;
      result = done tt;
    } ∷ own_events runner.token was.history →
    HasCalledFree runner.token (Answering answer) was.history → RunsFree runner.token past.history
free-last runner answer status was past is called =
    let longer = one-longer _ _ _ is in
    let within = called.within in
    record {
      free = with-one runner.token (answers status) (done tt) was.history past.history is tt
          called.free;
      within = omega (arith, longer, within);
    }

-- ---- After events of others

module _ (token : Token) (old new : History) (came : ByOthers (of_others token) old new) where
  same : own_events token new ≡ own_events token old
  same = (others-leave token old new came).same_events

  pub free-still : (state : State) → HasCalledFree token state old → HasCalledFree token state new
  free-still state called = record {
    free = subst (AllByRecursion (λ event. IsFreeCall event.call)) (sym same) called.free;
    within = subst (λ (events : History). length events + report_left state ≤ report_calls)
        (sym same) called.within;
  }

  pub ran-still : RunsFree token old → RunsFree token new
  ran-still ran = record {
    free = subst (AllByRecursion (λ event. IsFreeCall event.call)) (sym same) ran.free;
    within = subst (λ (events : History). length events ≤ report_calls) (sym same) ran.within;
  }
