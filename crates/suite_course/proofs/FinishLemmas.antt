-- Claim: a session that came to its answer, whose streams were served, and that then made its last
-- call, finished (`finishes`).
-- Way: the session belongs to the folder as the streams left it (`streams-belong`), and where one failed
-- it had a text to take (`is-to-put`); its last call leads to its end alone (`ends-begun`).
use Rattle.std.proofs.Common.{◌≡◌, ◌≢◌, ◌⊎◌, ℕ, ◌+◌, ◌≤◌, [], inl, inr, refl, sym, ap, subst, ◌∙◌, Option, Some, None, IfSome, IsSome, Result, Ok, Err, arith}
use Rattle.std.proofs.lemmas.Bool.{cases_lt}
use Rattle.acct_outside.specs.declared.CommitStage.{CommitStage}
use Rattle.acct_outside.specs.declared.streams.SinkFault.{SinkFault}
use Rattle.acct_outside.specs.Faults.{HasRisen, last_count}
use Rattle.account_model.specs.declared.tool.Tool.{Tool}
use Rattle.suite_answers.specs.declared.cause.Cause.{Cause}
use Rattle.suite_answers.specs.declared.cause.Cause.TheVariants.{Memory}
use Rattle.suite_answers.specs.declared.cause.Outcome.{Outcome}
use Rattle.suite_answers.specs.declared.answer.Answer.{Answer}
use Rattle.suite_answers.specs.Reasons.{memory_message}
use Rattle.suite_session.specs.Stands.{IsMemory}
use Rattle.suite_session.specs.declared.state.State.{State}
use Rattle.suite_session.specs.declared.state.State.TheVariants.{Answering}
use Rattle.suite_session.specs.declared.session.Phase.{Phase}
use Rattle.suite_session.specs.declared.session.Phase.TheVariants.{Waiting, Begun, Over, Unbegun}
use Rattle.suite_session.specs.Runner.{Question, Runner}
use Rattle.acct_outside.specs.Moment.{Moment}
use Rattle.suite_session.specs.Belongs.{Belongs}
use Rattle.suite_session.specs.Session.{HasMessage, HasText, IsToPut, answer_of, given_in, outcome_of, state_failed}
use Rattle.suite_session.specs.Turning.{HasAnswered, SessionTurns}
use Rattle.suite_session.specs.Answers.{Says, after_streams}
use Rattle.suite_session.proofs.BelongsLemmas.{output-stays}
use Rattle.suite_course.specs.Streams.{Streams, Serves, memory_stage, text_of}
use Rattle.suite_course.proofs.StreamsLemmas.{serves-texted}
use Rattle.suite_course.specs.Course.{Comes, Concludes, Finished, phase_after}
use Rattle.suite_course.proofs.CourseLemmas.{comes-belongs, turns-then, turns-as, unbegun-stays}
use Rattle.suite_course.proofs.RanLemmas.{stays-turns}

-- ---- A fault of a stream

-- an answer of which the streams were to take a message has one
has-message : (tool : Option Tool) (cause : Cause) (answer : Answer) →
    answer.outcome.cause ≡ cause →
    text_of tool answer ≢ [] → HasMessage answer
has-message tool (Memory stage) answer is some =
    inr (subst (λ (one : Cause). IsMemory one) (sym is) tt)
has-message tool cause answer is some = inl (subst
    (λ (one : Option CommitStage). (elim one [
      | Some stage ↦ memory_message tool stage
      | None ↦ answer.err
    ]) ≢ []) (ap memory_stage is) some)

-- so one of which they were to take something has a text
has-text : (tool : Option Tool) (answer : Answer) →
    (answer.out ≢ []) ⊎ (text_of tool answer ≢ []) → HasText answer
has-text tool answer (inl some) = inl some
has-text tool answer (inr some) = inr (has-message tool answer.outcome.cause answer refl some)

-- where a stream failed, the session had an answer with a text, and hasn't answered
pub is-to-put : (asked : Question) (entry now : Moment) (tool : Tool) (was holds : Streams)
    (put : Result (Unit {0}) SinkFault) (phase : Phase) → Comes asked entry now phase →
    IsSome (answer_of phase) →
    IfSome (answer_of phase) (λ given. Serves (Some tool) given was holds put) →
    (fault : SinkFault) → put ≡ Err fault → IsToPut phase
is-to-put asked entry now tool was holds put (Begun runner (Answering given)) comes some
    served fault is =
    has-text (Some tool) given (serves-texted (Some tool) given was holds put served fault is)
is-to-put asked entry now tool was holds put (Unbegun named given) comes some served fault is =
    has-text (Some tool) given (serves-texted (Some tool) given was holds put served fault is)
is-to-put asked entry now tool was holds put (Waiting question) comes some served fault is =
    absurd (cc some)
is-to-put asked entry now tool was holds put (Over runner given) comes some served fault is =
    absurd comes.turns.stands
is-to-put asked entry now tool was holds put (Begun runner state) comes some served fault is =
    absurd (cc some)

-- so it belongs to the folder as the streams left it
pub streams-belong : (asked : Question) (entry now : Moment) (tool : Tool) (was holds : Streams)
    (put : Result (Unit {0}) SinkFault) (phase : Phase) → Comes asked entry now phase →
    IsSome (answer_of phase) →
    IfSome (answer_of phase) (λ given. Serves (Some tool) given was holds put) →
    Belongs now (phase_after put phase)
streams-belong asked entry now tool was holds (Ok unit) phase comes some served =
    comes-belongs asked entry now phase comes
streams-belong asked entry now tool was holds (Err fault) phase comes some served =
    output-stays now fault phase
    (is-to-put asked entry now tool was holds (Err fault) phase comes some served fault refl)
    (comes-belongs asked entry now phase comes)

-- and it has an answer
state-answers : (fault : SinkFault) (state : State) → IsSome (given_in state) →
    IsSome (given_in (state_failed fault state))
state-answers fault (Answering answer) some = refl
state-answers fault state some = absurd (cc some)

-- a phase that has an answer has one behind the streams
pub streams-answer : (put : Result (Unit {0}) SinkFault) (phase : Phase) →
    IsSome (answer_of phase) → IsSome (answer_of (phase_after put phase))
streams-answer (Ok unit) phase some = some
streams-answer (Err fault) (Waiting asked) some = absurd (cc some)
streams-answer (Err fault) (Begun runner state) some = state-answers fault state some
streams-answer (Err fault) (Over runner answer) some = refl
streams-answer (Err fault) (Unbegun tool answer) some = refl

-- the streams leave a session that answers as one that answers so
pub answers-after : (put : Result (Unit {0}) SinkFault) (runner : Runner) (given : Answer) →
    phase_after put (Begun runner (Answering given))
    ≡ Begun runner (Answering (after_streams put given))
answers-after (Ok unit) runner given = refl
answers-after (Err fault) runner given = refl

-- a command that didn't begin has the answer behind the streams, and still didn't begin
pub unbegun-after : (put : Result (Unit {0}) SinkFault) (tool : Tool) (given : Answer) →
    phase_after put (Unbegun tool given) ≡ Unbegun tool (after_streams put given)
unbegun-after (Ok unit) tool given = refl
unbegun-after (Err fault) tool given = refl

-- ---- The end

-- a count that rose stays risen
risen-later : (before between now : ℕ) → before ≤ between → HasRisen before between →
    between ≤ now →
    HasRisen before now
risen-later before between now below (inl less) later = inl (omega (arith, less, later))
risen-later before between now below (inr last) later = elim (cases_lt last_count now) [
  | inl past ↦ inl (omega (arith, below, last, past))
  | inr within ↦ inr (omega (arith, last, within, later))
]

module _ (asked : Question) (entry between now : Moment) (was holds : Streams) (outcome : Outcome)
    (put : Result (Unit {0}) SinkFault) where
  -- a session that has begun and answers
  ends-begun : (runner : Runner) (given : Answer) →
      Comes asked entry between (Begun runner (Answering given)) →
      Serves (Some asked.request.tool) given was holds put →
      Concludes between now (Begun runner (Answering (after_streams put given))) outcome →
      Finished asked entry now was holds outcome
  ends-begun runner given comes served concludes =
      by-last concludes.last concludes.turns concludes.ends
    where
      by-last : (last : Phase) →
          SessionTurns between now (Begun runner (Answering (after_streams put given))) last →
          outcome_of last ≡ Some outcome → Finished asked entry now was holds outcome
      by-last (Over same_runner final) turns ends =
          let same : after_streams put given ≡ final = cc turns.1 in
          let is : outcome ≡ (after_streams put given).outcome =
          (let one : final.outcome ≡ outcome = cc ends in sym one)
          ∙ ap (λ (one : Answer). one.outcome) (sym same) in
          record {
            given = given;
            says = subst (λ (one : Question). Says one given given.outcome.cause)
                comes.turns.stands.0 comes.turns.stands.1.stands.gives.says;
            put = put;
            served = served;
            ends = is;
            token = runner.token;
            made = comes.made + 1;
            turns = turns-as entry now runner.token (comes.made + 1)
                (λ gave. inl (record {
                  runner = runner;
                  same = comes.turns.stands.0;
                  same_token = refl;
                  fresh = comes.turns.stands.2;
                  answered = subst (λ (one : Answer).
                      IfSome now.told (HasAnswered runner given one.outcome.status)) (sym same)
                      (gave given put comes.turns.stands.1.stands comes.turns.stands.1.came
                      (sym same)).answered;
                }))
                (λ outside. risen-later entry.faults between.faults now.faults
                comes.turns.never_falls (comes.turns.risen outside) turns.2.never_falls)
                (turns-then entry between now runner.token comes.made 1 comes.turns turns.2);
          }
      by-last (Waiting question) turns ends = absurd turns
      by-last (Begun same next) turns ends = absurd (cc ends)
      by-last (Unbegun tool final) turns ends = absurd turns

  -- one whose begin gave no token
  ends-unbegun : (tool : Tool) (given : Answer) → Comes asked entry between (Unbegun tool given) →
      Serves (Some asked.request.tool) given was holds put →
      Concludes between now (Unbegun tool (after_streams put given)) outcome →
      Finished asked entry now was holds outcome
  ends-unbegun tool given comes served concludes =
      by-last concludes.last concludes.turns concludes.ends
    where
      by-last : (last : Phase) →
          SessionTurns between now (Unbegun tool (after_streams put given)) last →
          outcome_of last ≡ Some outcome → Finished asked entry now was holds outcome
      by-last (Unbegun same final) turns ends =
          let is : outcome ≡ (after_streams put given).outcome =
          (let one : final.outcome ≡ outcome = cc ends in sym one)
          ∙ ap (λ (one : Answer). one.outcome) turns.1 in
          record {
            given = given;
            says = comes.turns.stands.1.says;
            put = put;
            served = served;
            ends = is;
            token = [];
            made = comes.made + 0;
            turns = turns-as entry now [] (comes.made + 0)
                (λ unit. inr
                (unbegun-stays asked entry between now given turns.2.told comes.turns.stands.1))
                (λ outside. risen-later entry.faults between.faults now.faults
                comes.turns.never_falls (comes.turns.risen outside)
                (omega (arith, turns.2.faults)))
                (turns-then entry between now [] comes.made 0 comes.turns
                (stays-turns between now [] {S = Unit {0}} {T = ⊥} turns.2.told turns.2.narrows
                (omega (arith, turns.2.faults)) tt (λ none. none)));
          }
      by-last last turns ends = absurd turns

  -- by the session's phase
  finishes-as : (phase : Phase) → Comes asked entry between phase → IsSome (answer_of phase) →
      IfSome (answer_of phase) (λ given. Serves (Some asked.request.tool) given was holds put) →
      Concludes between now (phase_after put phase) outcome →
      Finished asked entry now was holds outcome
  finishes-as (Waiting question) comes some served concludes = absurd (cc some)
  finishes-as (Begun runner (Answering given)) comes some served concludes =
      ends-begun runner given comes served
      (subst (λ (one : Phase). Concludes between now one outcome) (answers-after put runner given)
      concludes)
  finishes-as (Begun runner state) comes some served concludes = absurd (cc some)
  finishes-as (Unbegun tool given) comes some served concludes =
      ends-unbegun tool given comes served
      (subst (λ (one : Phase). Concludes between now one outcome) (unbegun-after put tool given)
      concludes)
  finishes-as (Over runner given) comes some served concludes = absurd comes.turns.stands

  -- the claim, by the tool that the streams were served for
  pub finishes : (tool : Tool) (phase left : Phase) → tool ≡ asked.request.tool →
      Comes asked entry between phase → IsSome (answer_of phase) →
      IfSome (answer_of phase) (λ given. Serves (Some tool) given was holds put) →
      left ≡ phase_after put phase → Concludes between now left outcome →
      Finished asked entry now was holds outcome
  finishes tool phase left same comes some served is concludes = finishes-as phase comes some
      (subst (λ (one : Tool). IfSome (answer_of phase)
      (λ given. Serves (Some one) given was holds put)) same served)
      (subst (λ (one : Phase). Concludes between now one outcome) is concludes)
