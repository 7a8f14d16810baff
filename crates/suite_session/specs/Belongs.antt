-- When a session belongs to a folder, at one moment of it: the condition of a turn. It speaks of the
-- session's own events alone, in a history that may be lawful or not, so the session belongs there still
-- whatever others have done since (docs/ARCHITECTURE.md, "The session").
use Rattle.std.specs.Prelude.{◌≡◌, ◌∷◌, ⊤, true, ℕ, Some, IfSome, Result, Err}
use Rattle.acct_outside.specs.declared.CommitStage.TheVariants.{Before}
use Rattle.acct_outside.specs.declared.FolderFault.{FolderFault}
use Rattle.acct_outside.specs.declared.streams.SinkFault.{SinkFault}
use Rattle.acct_outside.specs.Tokens.{Token, IsToken}
use Rattle.acct_outside.specs.Calls.{answers, done}
use Rattle.acct_outside.specs.History.{History, own_events}
use Rattle.acct_outside.specs.Others.{Admission, ByOthers}
use Rattle.acct_outside.specs.Contract.{NeverAdmits, WhereTold}
use Rattle.acct_outside.specs.Moment.{Past, Moment, Narrows}
use Rattle.account_model.specs.declared.tool.Tool.{Tool}
use Rattle.account_model.specs.Request.{is_report}
use Rattle.suite_rules.specs.Standing.{Standing, standing}
use Rattle.suite_answers.specs.declared.answer.Answer.{Answer}
use Rattle.suite_session.specs.declared.state.State.{State}
use Rattle.suite_session.specs.declared.state.State.TheVariants.{Answering}
use Rattle.suite_session.specs.declared.session.Phase.{Phase}
use Rattle.suite_session.specs.declared.session.Phase.TheVariants.{Waiting, Begun, Over, Unbegun}
use Rattle.suite_session.specs.Runner.{Runner}
use Rattle.suite_session.specs.Answers.{IsTold, Says, after_streams}
use Rattle.suite_session.specs.Writing.{WroteDue}
use Rattle.suite_session.specs.Bound.{HasCalled, HasCalledFree, IsWithinBound}
use Rattle.suite_session.specs.Due.{IsDue}
use Rattle.suite_session.specs.Locking.{cause_of_fault}
use Rattle.suite_session.specs.Looks.{HasLooksLeft, LooksOnce}
use Rattle.suite_session.specs.Reports.{RunsFree}
use Rattle.suite_session.specs.Staging.{HasMovedAll, StagesAt, staged_in}
use Rattle.suite_session.specs.Stands.{HasLeft, IsStopped, StandsAs}
use Rattle.suite_session.specs.Telling.{DropsNothing, Remembers}
use Rattle.suite_session.specs.Session.{HasText, HasTextIn, IsToPut, output_failed, state_after, token_of}

-- ---- A session on its way

-- in this state a session has staged bytes at its name alone; where nothing stopped it, it answers once it
-- has moved all
abbrev pub StagesAs : State → Standing → Type 0
StagesAs (Answering answer) stood = (IsStopped answer.outcome.cause → ⊥) → HasMovedAll stood
StagesAs state stood = StagesAt (staged_in state) stood

-- The runner came to the state, from a begin that gave its token: it drops nothing that it has met, its
-- calls are within the bound with those that are left, and so are its looks, it has written what was due
-- alone, has moved what it has staged but at the name of its state, and a report has changed no name.
pub record CameTo (runner : Runner) (state : State) (past : Past) : Type 0 where
  pub named : IsToken runner.token
  pub remembers : Remembers runner.token state past.history
  pub called : HasCalled runner.token state past.history
  pub looked : HasLooksLeft runner.token state past.history
  pub wrote : WroteDue runner.token past.history
  pub staged : StagesAs state (standing runner.token past.history)
  pub free : is_report runner.asked.request ≡ true →
      HasCalledFree runner.token state past.history

-- the runner's events lead to the state, in which it stands
pub record IsLedTo (now : Moment) (runner : Runner) (state : State) : Type 0 where
  pub stands : StandsAs now runner state
  pub came : IfSome now.told (CameTo runner state)

-- the runner's events lead to the state, or to one of which a stream left this that failed to take its text
pub record IsOnItsWay (now : Moment) (runner : Runner) (state : State) : Type 0 where
  pub own : State
  pub led : IsLedTo now runner own
  pub put : Result (Unit {0}) SinkFault
  pub left : state ≡ state_after put own
  pub texted : (fault : SinkFault) → put ≡ Err fault → HasTextIn own

-- ---- A session that has answered

-- The last of the runner's events is its answer, with this status. What it had to give is due and drops
-- nothing that it has met; it has left the locks and the intent as it must with that, and has moved all that
-- it staged, unless a fault or want of memory stopped it; its events are within the bound, and so are its
-- looks, it has written what was due alone, and a report has changed no name.
pub record HasEnded (runner : Runner) (given : Answer) (status : ℕ) (past : Past) : Type 0 where
  pub named : IsToken runner.token
  pub before : History
  pub last : own_events runner.token past.history
      ≡ record { token = runner.token; call = answers status; result = done tt } ∷ before
  pub due : IsDue runner given past
  pub drops_nothing : DropsNothing runner.token given.outcome.cause past.history
  pub left : (IsStopped given.outcome.cause → ⊥) →
      HasLeft runner.token given.outcome.cause past
  pub moved : (IsStopped given.outcome.cause → ⊥) →
      HasMovedAll (standing runner.token past.history)
  pub within : IsWithinBound runner.token past.history
  pub looked : LooksOnce runner.token past.history
  pub wrote : WroteDue runner.token past.history
  pub free : is_report runner.asked.request ≡ true → RunsFree runner.token past.history

-- the runner had an answer to give, has answered with what the streams left of it, and the folder admits
-- no event of it
pub record HasGiven (now : Moment) (runner : Runner) (answer : Answer) : Type 0 where
  pub given : Answer
  pub put : Result (Unit {0}) SinkFault
  pub left : answer ≡ after_streams put given
  pub texted : (fault : SinkFault) → put ≡ Err fault → HasText given
  pub says : Says runner.asked given given.outcome.cause
  pub own : IfSome now.told (λ past. NeverAdmits now.admits runner.token)
  pub ended : IfSome now.told (HasEnded runner given answer.outcome.status)

-- ---- A session without a token

-- The begin gave no token: the session had an answer that tells a fault of the folder before the commit,
-- or that there was no memory, and the streams left this of it.
pub record HasNoToken (tool : Tool) (answer : Answer) : Type 0 where
  pub given : Answer
  pub put : Result (Unit {0}) SinkFault
  pub left : answer ≡ after_streams put given
  pub texted : (fault : SinkFault) → put ≡ Err fault → HasText given
  pub fault : FolderFault
  pub tells : IsTold tool (cause_of_fault Before fault) given

-- ---- Each session

-- The session belongs to the folder at the moment: it hasn't begun; or its begin gave no token, which
-- its answer tells; or its state is one to which its events lead, or what a failed stream left of one;
-- or it has answered so.
abbrev pub Belongs : Moment → Phase → Type 0
Belongs now (Waiting asked) = ⊤
Belongs now (Unbegun tool answer) = HasNoToken tool answer
Belongs now (Begun runner state) = IsOnItsWay now runner state
Belongs now (Over runner answer) = HasGiven now runner answer

-- the two sessions don't have one token
abbrev pub AreTwo : Phase → Phase → Type 0
AreTwo one other = (token : Token) → token_of one ≡ Some token → token_of other ≡ Some token → ⊥

-- ---- What keeps it so

-- the event is of another session than that of the token
abbrev pub of_others : Token → Admission
of_others token history event = event.token ≡ token → ⊥

-- between two moments no event of the token came, and the folder admits no more than before
pub record OthersCame (before now : Moment) (token : Token) : Type 0 where
  pub came : WhereTold before.told now.told (λ first old new. ByOthers (of_others token) old new)
  pub narrows : Narrows before.admits now.admits

-- A session belongs to a folder still after whatever events of others, be they calls, or the deaths of
-- other sessions; and where a stream failed that was to take a text of its answer.
pub record BelongingStays {F : Type 0} (moment : F → Moment) : Type 0 where
  pub others : (before now : F) (session : Phase) → Belongs (moment before) session →
      IfSome (token_of session) (OthersCame (moment before) (moment now)) →
      Belongs (moment now) session
  pub output : (now : F) (fault : SinkFault) (session : Phase) → IsToPut session →
      Belongs (moment now) session → Belongs (moment now) (output_failed fault session)
