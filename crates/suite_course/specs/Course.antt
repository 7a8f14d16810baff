-- The course of a session from its entry: its turns one after another, and its end.
use Rattle.std.specs.Prelude.{◌≡◌, ◌⊎◌, ℕ, ◌+◌, ◌≤◌, List, [], ◌++◌, None, Some, IfSome, Result, Ok, Err}
use Rattle.std.specs.List.{AllByRecursion}
use Rattle.acct_outside.specs.Tokens.{Token}
use Rattle.acct_outside.specs.declared.streams.SinkFault.{SinkFault}
use Rattle.suite_answers.specs.declared.cause.Outcome.{Outcome}
use Rattle.suite_answers.specs.declared.answer.Answer.{Answer}
use Rattle.suite_session.specs.declared.state.State.{State}
use Rattle.suite_session.specs.declared.session.Phase.{Phase}
use Rattle.suite_session.specs.declared.session.Phase.TheVariants.{Waiting, Begun, Over, Unbegun}
use Rattle.suite_session.specs.Runner.{Question, Runner}
use Rattle.acct_outside.specs.Journal.{Entry}
use Rattle.acct_outside.specs.Moment.{Moment}
use Rattle.suite_session.specs.Answers.{Says, after_streams}
use Rattle.suite_session.specs.Belongs.{IsLedTo}
use Rattle.suite_session.specs.Counts.{IsToList}
use Rattle.suite_session.specs.Left.{appends_left, calls_left, most_appends, most_calls, most_lower}
use Rattle.suite_session.specs.Session.{answer_of, outcome_of, output_failed}
use Rattle.suite_session.specs.Stands.{IsOutside, TellsOutside, TurnsTo}
use Rattle.suite_session.specs.Texts.{LeadTo}
use Rattle.suite_session.specs.Turning.{HasAnswered, IsNew, IsUnbegun, SessionTurns}
use Rattle.suite_course.specs.Asked.{AreWithin, EndsWhereRefused, IsCall, ShowsLower, WasDone, appends_asked, calls_asked, others_asked}
use Rattle.suite_course.specs.Streams.{Streams, Serves}

-- The session, which was asked this, came so far before its last call: its events led to its state. Until
-- its begin the folder tells what it told at the entry; its token is new since then.
abbrev pub Reached : Question → Moment → Moment → Phase → Type 0
Reached asked entry now (Waiting question) = (question ≡ asked) × (now.told ≡ entry.told)
Reached asked entry now (Begun runner state) =
    (runner.asked ≡ asked) × IsLedTo now runner state × IsNew entry.told runner.token
Reached asked entry now (Over runner answer) = ⊥
Reached asked entry now (Unbegun tool answer) =
    (tool ≡ asked.request.tool) × IsUnbegun asked entry now answer

-- the session tells of a fault of what lies outside it
abbrev pub PhaseTells : Phase → Type 0
PhaseTells (Waiting question) = ⊥
PhaseTells (Begun runner state) = TellsOutside state
PhaseTells (Over runner answer) = ⊥
PhaseTells (Unbegun tool answer) = IsOutside answer.outcome.cause

-- the token of a session on its way; none before its begin, and where that gave none
abbrev pub phase_token : Phase → Token
phase_token (Begun runner state) = runner.token
phase_token phase = []

-- the events of a session that has made at most so many; none before its begin
abbrev pub made_in : Phase → ℕ → ℕ
made_in (Waiting question) made = 0
made_in phase made = made

-- On its way a session has made these calls: with those that are left they are within the bound, and they
-- lead to what it has staged. Before its second listing as many lower locks are counted as one can show.
pub record HasMadeCalls (state : State) (calls : List Entry) : Type 0 where
  pub lower : ℕ
  pub most : lower ≤ most_lower
  pub shows : IsToList state ⊎ ShowsLower calls lower
  pub within : others_asked calls + calls_left state ≤ most_calls + lower
  pub leads : LeadTo (calls_asked calls) state
  pub appended : appends_asked calls + appends_left state ≤ most_appends

-- these are the calls of a session, which come within the bound
abbrev pub MadeWithin : Phase → List Entry → Type 0
MadeWithin (Waiting question) calls = calls ≡ []
MadeWithin (Begun runner state) calls = HasMadeCalls state calls
MadeWithin phase calls = AreWithin calls

-- since an entry the session asked the folder for calls alone; none was refused while it has no answer
pub record HasAsked (entry now : Moment) (phase : Phase) : Type 0 where
  pub calls : List Entry
  pub parts : now.journal ≡ calls ++ entry.journal
  pub are_calls : AllByRecursion IsCall calls
  pub stops : EndsWhereRefused calls
  pub goes : answer_of phase ≡ None → AllByRecursion WasDone calls
  pub within : MadeWithin phase calls

-- from an entry the session has come so far
pub record Comes (asked : Question) (entry now : Moment) (phase : Phase) : Type 0 where
  pub made : ℕ
  pub asks : HasAsked entry now phase
  pub turns : TurnsTo entry now (phase_token phase) (made_in phase made)
      (Reached asked entry now phase) (PhaseTells phase)

-- the session as the streams left it
abbrev pub phase_after : Result (Unit {0}) SinkFault → Phase → Phase
phase_after (Ok unit) phase = phase
phase_after (Err fault) phase = output_failed fault phase

-- the session made its last call, and ended with this outcome
pub record Concludes (before now : Moment) (phase : Phase) (outcome : Outcome) : Type 0 where
  pub last : Phase
  pub turns : SessionTurns before now phase last
  pub ends : outcome_of last ≡ Some outcome

-- The session of the token, which is new since its entry, was asked this, had this answer to give, and
-- answered with the status by its last event.
pub record AnsweredAs (asked : Question) (entry now : Moment) (token : Token) (given : Answer)
    (status : ℕ) : Type 0 where
  pub runner : Runner
  pub same : runner.asked ≡ asked
  pub same_token : runner.token ≡ token
  pub fresh : IsNew entry.told runner.token
  pub answered : IfSome now.told (HasAnswered runner given status)

-- The session came to an answer, which the streams left so, and the outcome is that. It answered with
-- its last event, or its begin gave no token.
pub record Finished (asked : Question) (entry now : Moment) (was holds : Streams)
    (outcome : Outcome) : Type 0 where
  pub given : Answer
  pub says : Says asked given given.outcome.cause
  pub put : Result (Unit {0}) SinkFault
  pub served : Serves (Some asked.request.tool) given was holds put
  pub ends : outcome ≡ (after_streams put given).outcome
  pub token : Token
  pub made : ℕ
  pub turns : TurnsTo entry now token made
      (AnsweredAs asked entry now token given (after_streams put given).outcome.status
      ⊎ IsUnbegun asked entry now given)
      (IsOutside given.outcome.cause)
