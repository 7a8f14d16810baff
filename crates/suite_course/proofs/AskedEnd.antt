-- Claims: with its answer a session has asked the folder for all its calls (`asked-last`); with the name that
-- came first these are all that the command asked for (`asked-there`, `asked-none`).
-- Way: its last turn is the call of the answer, or none where its begin gave no token.
use Rattle.std.proofs.Common.{◌≡◌, ap, refl, subst, ◌∙◌, ℕ, List, [], ◌∷◌, inr, Some, None, Result, arith}
use Rattle.std.specs.Prelude.{IsSome}
use Rattle.acct_outside.specs.declared.streams.SinkFault.{SinkFault}
use Rattle.acct_outside.specs.Calls.{answers}
use Rattle.acct_outside.specs.Journal.{Entry, Reply, enters, makes, was_refused}
use Rattle.acct_outside.specs.Moment.{Moment}
use Rattle.account_model.specs.declared.tool.Tool.{Tool}
use Rattle.suite_answers.specs.declared.answer.Answer.{Answer}
use Rattle.suite_answers.specs.declared.cause.Outcome.{Outcome}
use Rattle.suite_session.specs.declared.state.State.TheVariants.{Answering}
use Rattle.suite_session.specs.declared.session.Phase.{Phase}
use Rattle.suite_session.specs.declared.session.Phase.TheVariants.{Waiting, Begun, Over, Unbegun}
use Rattle.suite_session.specs.Runner.{Question, Runner}
use Rattle.suite_session.specs.Answers.{after_streams}
use Rattle.suite_session.specs.Session.{answer_of, outcome_of}
use Rattle.suite_session.specs.Stands.{AsksOnce}
use Rattle.suite_session.specs.Turning.{SessionTurns}
use Rattle.suite_session.proofs.TextCalls.{stages-texts}
use Rattle.suite_course.specs.Asked.{AreWithin, AsksThere, MakesCalls}
use Rattle.suite_course.specs.Course.{Comes, HasAsked, phase_after}
use Rattle.suite_course.proofs.AskedLemmas.{last-made, none-shown}
use Rattle.suite_course.proofs.FinishLemmas.{answers-after, unbegun-after}

-- after the calls of a session the folder was asked for no other
no-more : (entry between now : Moment) (phase : Phase) (asked : HasAsked entry between phase) →
    now.journal ≡ between.journal → AreWithin asked.calls →
    (calls : List Entry) × MakesCalls calls entry.journal now.journal
no-more entry between now phase asked same within = (
  asked.calls,
  record {
    parts = same ∙ asked.parts;
    are_calls = asked.are_calls;
    stops = asked.stops;
    within = within;
  },
)

-- or for its answer
answered-then : (entry between now : Moment) (phase : Phase) (asked : HasAsked entry between phase)
    (status : ℕ) (WhereRefused : Type 0)
    (asks : AsksOnce between now (answers status) WhereRefused) →
    AreWithin (makes (answers status) asks.reply ∷ asked.calls) →
    (calls : List Entry) × MakesCalls calls entry.journal now.journal
answered-then entry between now phase asked status WhereRefused asks within = (
  makes (answers status) asks.reply ∷ asked.calls,
  record {
    parts = asks.noted ∙ ap (λ (older : List Entry). makes (answers status) asks.reply ∷ older)
        asked.parts;
    are_calls = (tt, asked.are_calls);
    stops = (inr tt, asked.stops);
    within = within;
  },
)

-- the claim
module _ (asked : Question) (entry between now : Moment) (put : Result (Unit {0}) SinkFault)
    (last : Phase) (outcome : Outcome) (ends : outcome_of last ≡ Some outcome) where
  ends-begun : (runner : Runner) (given : Answer) (final : Phase)
      (asks : HasAsked entry between (Begun runner (Answering given))) →
      SessionTurns between now (Begun runner (Answering (after_streams put given))) final →
      outcome_of final ≡ Some outcome →
      (calls : List Entry) × MakesCalls calls entry.journal now.journal
  ends-begun runner given (Over same answer) asks turns ends =
      answered-then entry between now _ asks _ _ turns.4
      (last-made turns.4.reply _ asks.calls given asks.within)
  ends-begun runner given (Waiting question) asks turns ends = absurd turns
  ends-begun runner given (Begun same next) asks turns ends = absurd (cc ends)
  ends-begun runner given (Unbegun tool answer) asks turns ends = absurd turns

  ends-unbegun : (tool : Tool) (given : Answer) (final : Phase)
      (asks : HasAsked entry between (Unbegun tool given)) →
      SessionTurns between now (Unbegun tool (after_streams put given)) final →
      (calls : List Entry) × MakesCalls calls entry.journal now.journal
  ends-unbegun tool given (Unbegun same answer) asks turns =
      no-more entry between now _ asks turns.2.journal asks.within
  ends-unbegun tool given final asks turns = absurd turns

  ends-as : (phase : Phase) → Comes asked entry between phase → IsSome (answer_of phase) →
      SessionTurns between now (phase_after put phase) last →
      (calls : List Entry) × MakesCalls calls entry.journal now.journal
  ends-as (Begun runner (Answering given)) comes some turns = ends-begun runner given last
      comes.asks
      (subst (λ (one : Phase). SessionTurns between now one last) (answers-after put runner given)
      turns)
      ends
  ends-as (Unbegun tool given) comes some turns = ends-unbegun tool given last comes.asks
      (subst (λ (one : Phase). SessionTurns between now one last) (unbegun-after put tool given)
      turns)
  ends-as (Over runner given) comes some turns = absurd comes.turns.stands
  ends-as (Waiting question) comes some turns = absurd (cc some)
  ends-as (Begun runner state) comes some turns = absurd (cc some)

  pub asked-last : (phase left : Phase) → Comes asked entry between phase →
      IsSome (answer_of phase) → left ≡ phase_after put phase →
      SessionTurns between now left last →
      (calls : List Entry) × MakesCalls calls entry.journal now.journal
  asked-last phase left comes some is turns = ends-as phase comes some
      (subst (λ (one : Phase). SessionTurns between now one last) is turns)

-- ---- With the name of the folder

-- the folder was named by the prefix of the request, and the session made its calls
pub asked-there : (asked : Question) (reply : Reply) (entry between now : List Entry)
    (calls : List Entry) → between ≡ enters asked.request.prefix reply ∷ entry →
    MakesCalls calls between now → (reply ≡ was_refused → ⊥) → AsksThere asked entry now
asked-there asked reply entry between now calls named made goes = record {
  reply = reply;
  calls = calls;
  makes_calls = subst (λ (older : List Entry). MakesCalls calls older now) named made;
  refused = λ refused. absurd (goes refused);
}

-- it was named, and asked for no call
pub asked-none : (asked : Question) (reply : Reply) (entry now : List Entry) →
    now ≡ enters asked.request.prefix reply ∷ entry → AsksThere asked entry now
asked-none asked reply entry now named = record {
  reply = reply;
  calls = [];
  makes_calls = record {
    parts = named;
    are_calls = tt;
    stops = tt;
    within = record {
      lower = 0;
      shows = none-shown [];
      within = omega arith;
      stage = stages-texts [] None refl;
      appended = omega arith;
    };
  };
  refused = λ refused. refl;
}
