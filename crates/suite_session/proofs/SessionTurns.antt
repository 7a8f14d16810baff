-- Claim: a step leads on to a state to which the session's events lead (`steps-to`); and the answer of a
-- session is its last event, which the rules permit (`answers-turn`).
-- Way: an answer leaves the session's standing, as an event of its own after those of others.
use Rattle.std.proofs.Common.{◌≡◌, refl, sym, ap, subst, ◌∙◌, ◌+◌, ℕ, ◌<◌, ◌≤◌, Bool, true, false, cond, inl, List, Option, Some, None, IfSome, Result, Ok, arith}
use Rattle.acct_outside.specs.declared.streams.SinkFault.{SinkFault}
use Rattle.acct_outside.specs.Calls.{Call, answers, done}
use Rattle.acct_outside.specs.History.{own_events}
use Rattle.acct_outside.specs.Life.{Life, runs_in, running, faulted, unbegun as not_begun, ended, MayCall}
use Rattle.acct_outside.specs.Journal.{Entry}
use Rattle.acct_outside.specs.Others.{Admission}
use Rattle.acct_outside.specs.Contract.{NeverAdmits, MayAnswer, Tells}
use Rattle.suite_rules.specs.Deeds.{SuiteDeeds}
use Rattle.suite_rules.specs.OwnLock.{OwnLock, is_keeper, kept_number}
use Rattle.suite_rules.specs.Knowledge.{Knowledge}
use Rattle.suite_rules.specs.Standing.{Standing, standing, standing_step, keeper_part}
use Rattle.suite_rules.specs.Rules.{AnswerRule, answer_rule}
use Rattle.suite_rules.specs.Lawful.{Lawful, goes_on}
use Rattle.suite_rules.proofs.StepLemmas.{stayed, stepped, others-lawful}
use Rattle.suite_answers.specs.declared.cause.Cause.{Cause}
use Rattle.suite_answers.specs.declared.cause.Cause.TheVariants.{DiskFault}
use Rattle.suite_answers.specs.declared.answer.Answer.{Answer as FinalAnswer}
use Rattle.suite_session.specs.declared.state.State.{State}
use Rattle.suite_session.specs.declared.state.State.TheVariants.{Looking, Reading, Asking, Claiming, Confirming, Answering}
use Rattle.suite_session.specs.Runner.{IsRead, Runner}
use Rattle.acct_outside.specs.Moment.{Past, Moment, Narrows}
use Rattle.suite_rules.proofs.Parts.{MayAnswerWhere, StaysLawfulWhere, TellsWhere}
use Rattle.suite_session.specs.Answers.{after_streams, Says}
use Rattle.suite_session.specs.Deeds.{AreOfTools}
use Rattle.suite_session.specs.Due.{IsDue}
use Rattle.suite_session.specs.Belongs.{CameTo, IsLedTo, IsOnItsWay}
use Rattle.suite_session.specs.Counts.{CountsTo, LeavesFewer, appends_by, others_by}
use Rattle.suite_session.specs.Grows.{Grew}
use Rattle.suite_session.specs.Left.{appends_left, calls_left, is_append, most_lower}
use Rattle.suite_session.specs.Looks.{LooksLess}
use Rattle.suite_session.specs.NextCall.{state_call}
use Rattle.suite_session.specs.Reports.{AnswersShown}
use Rattle.suite_session.specs.Turning.{TakesTurn, GaveLeft, HasAnswered, StepsTo}
use Rattle.suite_session.specs.Staging.{HasMovedAll}
use Rattle.suite_session.specs.Stands.{FindsNoMemory, HasLeft, MakesOne, IsStopped, StagesTo, StaysTold, TurnsTo}
use Rattle.suite_session.specs.Telling.{DropsNothing, MayFollow, Covers as CauseTells}
use Rattle.suite_session.proofs.TellingLemmas.{tells-others, tells-own}
use Rattle.suite_session.proofs.LeavingLemmas.{left-same}
use Rattle.suite_session.proofs.BelongsLemmas.{state-own}
use Rattle.suite_session.proofs.BoundLemmas.{wrote-then, called-last, called-then}
use Rattle.suite_session.proofs.FreeLemmas.{StandsFree, free-last, free-then, reported-after, stands-free}
use Rattle.suite_session.proofs.GrowsLemmas.{grows-extends, tells-grow}
use Rattle.suite_session.proofs.DueLemmas.{shown-stays}
use Rattle.suite_session.proofs.LooksLemmas.{looked-last, looked-then}
use Rattle.suite_session.proofs.RuleLemmas.{rule-left}
use Rattle.suite_session.proofs.StagingLemmas.{staged-last, staged-then}
use Rattle.suite_session.proofs.StreamLemmas.{left-given}

-- ---- A step

-- a listing leaves fewer, as it shows no more lower locks than one can
listed-fewer : (new old lower : ℕ) → new + most_lower < old + lower → lower ≤ most_lower → new < old
listed-fewer new old lower fewer most = omega (arith, fewer, most)

-- a turn of a session that came to a state leads on to the next
came-on : (admits : Admission) (runner : Runner) (old new : State) (was told : Option Past)
    (journal : List Entry) → CountsTo told journal runner old new → StagesTo (state_call old) new →
    LooksLess old new → IfSome was (StandsFree runner old) →
    MakesOne was told runner.token (state_call old) (FindsNoMemory new) →
    Grew admits runner.token 1 was told → IfSome was (λ past. NeverAdmits admits runner.token) →
    StaysTold was told runner.token old new → IfSome was (CameTo runner old) →
    IfSome told (CameTo runner new)
came-on admits runner old new (Some was) (Some past) journal counts at less free one grew own stays came =
    record {
      named = came.named;
      remembers = stays.1 came.remembers;
      called = called-then admits runner was past own grew.1 new old journal
          one.1 counts came.called;
      looked = looked-then runner.token old new was past (FindsNoMemory new) one.1 less came.looked;
      wrote = wrote-then admits runner was past own grew.1 came.wrote;
      staged = staged-then runner old new was past journal counts one.1 at came.staged;
      free = λ report. free-then runner old new was past
          (free report (came.free report).free) (FindsNoMemory new) journal one.1 counts
          (came.free report);
    }
came-on admits runner old new None (Some past) journal counts at less stands one grew own stays came =
    absurd grew
came-on admits runner old new was told journal counts at less stands one grew own stays came = tt

-- a turn of a session whose events led to a state leads to the next
pub steps-to : (before now : Moment) (runner : Runner) (old new : State) →
    IsLedTo before runner old → TakesTurn before now runner old new →
    StepsTo before now runner (state_call old) new
steps-to before now runner old new led made =
    let turns = made.turns.turns in
    record {
      turns = record {
        stands = record {
          stands = turns.stands;
          came = came-on before.admits runner old new before.told now.told now.journal made.counts
              made.turns.stages made.turns.looks
              (stands-free before runner old led.stands) made.turns.makes_one turns.grew
              (state-own before runner old led.stands) made.turns.remembers led.came;
        };
        grew = turns.grew;
        lawful = turns.lawful;
        narrows = turns.narrows;
        never_falls = turns.never_falls;
        risen = turns.risen;
      };
      makes_one = made.turns.makes_one;
      asks = made.turns.asks;
    }

-- a call is an append or another
one-call : (call : Call) → others_by call + appends_by call ≡ 1
one-call call = cases (is_append call)
  where
    cases : (append : Bool) → cond append 0 1 + cond append 1 0 ≡ 1
    cases true = refl
    cases false = refl

-- sums of both
both-fewer : (new old more less : ℕ) → new < old → more ≤ less → new + more < old + less
both-fewer new old more less fewer few = omega (arith, fewer, few)

-- who leaves fewer calls has fewer calls and appends left in all
call-fewer : (old new : State) → LeavesFewer old new →
    calls_left new + appends_left new < calls_left old + appends_left old
call-fewer old new counts =
    let one = one-call (state_call old) in
    let calls = counts.calls in
    let appends = counts.appends in
    omega (arith, one, calls, appends)

-- and leaves fewer calls
pub turn-fewer : (told : Option Past) (journal : List Entry) (runner : Runner) (old new : State) →
    CountsTo told journal runner old new →
    calls_left new + appends_left new < calls_left old + appends_left old
turn-fewer told journal runner (Looking looking) new counts =
    both-fewer _ _ _ _ counts.fewer counts.appends
turn-fewer told journal runner (Reading seen) new counts =
    both-fewer _ _ _ _ counts.fewer counts.appends
turn-fewer told journal runner (Asking asking) new counts =
    both-fewer _ _ _ _ counts.fewer counts.appends
turn-fewer told journal runner (Claiming judged) new counts =
    both-fewer _ _ _ _ counts.fewer counts.appends
turn-fewer told journal runner (Confirming claimed) new counts =
    both-fewer _ _ _ _ (listed-fewer _ _ _ counts.fewer counts.most) counts.appends
turn-fewer told journal runner old new counts = call-fewer old new counts

-- ---- The answer

-- a session that runs may answer
pub answer-may : (lived : Life) (status : ℕ) → runs_in lived ≡ true → MayCall lived (answers status)
answer-may running status is = tt
answer-may faulted status is = tt
answer-may not_begun status is = cc
answer-may ended status is = cc

-- an answer leaves what a keeper knows
part-left : (own : OwnLock) (keeps : Bool) (began knows : Knowledge) → is_keeper own ≡ keeps →
    keeper_part own own began knows knows ≡ knows
part-left own true began knows is = rw is refl
part-left own false began knows is = rw is refl

-- and all that an answer's cause is shown by
answer-knows : (status : ℕ) (stood : Standing) →
    (standing_step (answers status) (done tt) stood).knows ≡ stood.knows
answer-knows status stood = part-left stood.own _ _ stood.knows refl

-- it may follow whatever was met
answer-follows : (status : ℕ) (met : Cause) → MayFollow met (answers status)
answer-follows status (DiskFault stage) = tt
answer-follows status met = tt

module _ (before now : Moment) (runner : Runner) (status : ℕ) where
  abbrev call : Call
  call = answers status

  -- an answer that was due is so after it too, and what was left is so
  answered-due : (answer : FinalAnswer) (was told : Option Past) →
      MayAnswerWhere before.admits was runner.token →
      TellsWhere before.admits was told runner.token call (Ok tt) →
      Grew before.admits runner.token 1 was told →
      IfSome was (CameTo runner (Answering answer)) →
      IfSome was (IsDue runner answer) → ((IsStopped answer.outcome.cause → ⊥) →
      IfSome was (HasLeft runner.token answer.outcome.cause)) →
      IfSome told (HasAnswered runner answer status)
  answered-due answer None None may tells grew came due left = tt
  answered-due answer (Some was) (Some past) may tells grew came due left =
      let step = stepped before.admits runner.token may.own call (done tt) _
      was.history past.history tells.1 in
      let knows = ap (λ (one : Standing). one.knows) step.next_standing
      ∙ answer-knows status (standing runner.token was.history) in
      let longer = grows-extends before.admits runner.token was.history 1 past.history grew.1 in
      record {
        older = tells.1.others_then.between;
        last = tells.1.others_then.last;
        ended = record {
          named = came.named;
          before = own_events runner.token was.history;
          last = step.next_events;
          due = record {
            asked = ap (λ (one : Standing). one.command) step.next_standing ∙ due.asked;
            commits = ap (λ (one : Standing). one.commit) step.next_standing ∙ due.commits;
            shown = shown-stays runner answer was.history past.history longer.0 longer.1
                (ap (λ (one : Standing). kept_number one.own) step.next_standing)
                knows
                (λ reported. subst (AnswersShown runner answer) (sym step.next_standing)
                (reported-after runner answer status _ reported))
                answer.outcome.cause due.shown;
          };
          drops_nothing = subst (DropsNothing runner.token answer.outcome.cause)
              (sym tells.1.others_then.last)
              (tells-own (CauseTells answer.outcome.cause) runner.token
              (CauseTells answer.outcome.cause) _ tells.1.others_then.between
              (λ met told. (told, answer-follows status met))
              (λ met shows. absurd shows)
              (tells-others (CauseTells answer.outcome.cause) runner.token before.admits may.own
              was.history tells.1.others_then.between tells.1.others_then.others came.remembers));
          left = λ goes_on. left-same runner.token answer.outcome.cause was past
              (ap (λ (one : Standing). one.own) step.next_standing)
              (ap (λ (one : Standing). one.listing) step.next_standing) knows (left goes_on);
          moved = λ goes_on. subst HasMovedAll (sym step.next_standing)
              (staged-last status (standing runner.token was.history) (came.staged goes_on));
          within = called-last before.admits runner was past may.own grew.1 answer status
              (inl (_, step.next_events)) came.called;
          looked = looked-last runner.token (Answering answer) status was past step.next_events
              came.looked;
          wrote = wrote-then before.admits runner was past may.own grew.1 came.wrote;
          free = λ report. free-last runner answer status was past step.next_events
              (came.free report);
        };
      }
  answered-due answer was told may tells grew came due left = absurd tells

  -- it keeps a history lawful, for the deeds of the tools
  answered-lawful : IsRead runner.asked →
      (deeds : SuiteDeeds) → AreOfTools deeds → (answer : FinalAnswer)
      (put : Result (Unit {0}) SinkFault) → status ≡ (after_streams put answer).outcome.status →
      (was told : Option Past) → MayAnswerWhere before.admits was runner.token →
      TellsWhere before.admits was told runner.token call (Ok tt) →
      Says runner.asked answer answer.outcome.cause → IfSome was (IsDue runner answer) →
      StaysLawfulWhere deeds before.admits was told
  answered-lawful read deeds ours answer put is None None may tells says due = tt
  answered-lawful read deeds ours answer put is (Some was) (Some past) may tells says due =
      let came = tells.1.others_then in
      let stay = stayed before.admits runner.token may.own was.history came.between came.others in
      let rule = subst (AnswerRule deeds (standing runner.token was.history)) (sym is)
      (rule-left deeds ours runner answer was.history read due.asked put says due.shown
      due.commits) in (
        tells.0,
        λ others lawful. subst (Lawful deeds was.first) (sym came.last)
            (goes_on _ came.between
            (others-lawful deeds before.admits was.first others was.history came.between came.others
            lawful)
            (record {
              keeps = record {
                life_rule = answer-may _ status (ap runs_in stay.same_life ∙ may.runs);
                permitted = answer_rule status
                    (subst (λ (stood : Standing). AnswerRule deeds stood status)
                    (sym stay.same_standing) rule);
              };
              gives = tells.1.given;
            })),
      )
  answered-lawful read deeds ours answer put is was told may tells says due = absurd tells

  -- it is one event of the session
  pub answer-one : MayAnswer before runner.token →
      Tells before now runner.token call (Ok tt) →
      MakesOne before.told now.told runner.token call ⊥
  answer-one = by-told before.told now.told
    where
      by-told : (was told : Option Past) → MayAnswerWhere before.admits was runner.token →
          TellsWhere before.admits was told runner.token call (Ok tt) →
          MakesOne was told runner.token call ⊥
      by-told None None may tells = tt
      by-told (Some was) (Some past) may tells = (
        tells.0,
        inl (
          _,
          (stepped before.admits runner.token may.own call (done tt) _ was.history past.history
              tells.1).next_events,
        ),
      )
      by-told was told may tells = absurd tells

-- the session has given its answer
pub answers-turn : (before now : Moment) (runner : Runner) (answer : FinalAnswer) →
    IsRead runner.asked →
    IsOnItsWay before runner (Answering answer) →
    Tells before now runner.token (answers answer.outcome.status) (Ok tt) →
    Narrows before.admits now.admits → before.faults ≤ now.faults →
    TurnsTo before now runner.token 1 (GaveLeft before now runner answer) ⊥
answers-turn before now runner answer read stood tells narrows never_falls =
    let status = answer.outcome.status in
    let had = left-given before runner answer stood in
    let grew = tells-grow before.admits runner.token (answers status) (Ok tt) before.told now.told
    (λ past is between others. tt) tells in
    record {
      stands = λ given put may came left. record {
        says = may.gives.says;
        answered = answered-due before now runner status given before.told now.told may.may_answer
            tells grew came may.gives.due may.left;
      };
      grew = grew;
      lawful = λ deeds ours. answered-lawful before now runner status read deeds ours had.given
          had.put (ap (λ (one : FinalAnswer). one.outcome.status) had.left) before.told now.told
          had.may.may_answer tells had.may.gives.says had.may.gives.due;
      narrows = narrows;
      never_falls = never_falls;
      risen = λ fault. absurd fault;
    }
