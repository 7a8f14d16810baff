-- What one turn of a session does: its begin, a step, or its answer; and what it leaves to others.
use Rattle.std.specs.Prelude.{◌≡◌, [], ◌∷◌, ⊤, ℕ, Option, IfSome, Result, Err}
use Rattle.acct_outside.specs.Calls.{Call, answers, begins, done}
use Rattle.acct_outside.specs.Tokens.{Token}
use Rattle.acct_outside.specs.History.{History, own_events}
use Rattle.acct_outside.specs.Contract.{TellsBegin, WhereTold}
use Rattle.acct_outside.specs.declared.FolderFault.{FolderFault}
use Rattle.acct_outside.specs.declared.CommitStage.TheVariants.{Before}
use Rattle.acct_outside.specs.declared.streams.SinkFault.{SinkFault}
use Rattle.acct_outside.specs.Moment.{Past, Moment, Narrows}
use Rattle.suite_answers.specs.declared.answer.Answer.{Answer}
use Rattle.suite_session.specs.declared.state.State.{State}
use Rattle.suite_session.specs.declared.state.State.TheVariants.{Looking, Answering}
use Rattle.suite_session.specs.declared.session.Phase.{Phase}
use Rattle.suite_session.specs.declared.session.Phase.TheVariants.{Waiting, Begun, Over, Unbegun}
use Rattle.suite_session.specs.Runner.{Question, Runner}
use Rattle.suite_session.specs.Answers.{IsTold, Says, after_streams, memory_answer}
use Rattle.suite_session.specs.Counts.{CountsTo}
use Rattle.suite_session.specs.Locking.{cause_of_fault}
use Rattle.suite_session.specs.NextCall.{state_call}
use Rattle.suite_session.specs.Stands.{AsksOnce, FindsNoMemory, IsAnswering, IsOutside, MakesOne, MayGive, TellsOutside, Turns, TurnsTo}
use Rattle.suite_session.specs.Belongs.{AreTwo, Belongs, CameTo, HasEnded, IsLedTo}

-- ---- The begin

-- the first state: it lists the locks, or there was no memory for that
abbrev pub IsFirst : Runner → State → Type 0
IsFirst runner (Looking looking) = looking ≡ runner.token
IsFirst runner (Answering answer) = answer ≡ memory_answer Before
IsFirst runner state = ⊥

-- no event of the token is told
abbrev pub IsNew : Option Past → Token → Type 0
IsNew told token = IfSome told (λ past. own_events token past.history ≡ [])

-- The begin gave no token. The folder told it as one that failed, and of no session; or there was no
-- memory, and it has no event. The answer tells that, or that there was no memory to tell it.
pub record IsUnbegun (asked : Question) (before now : Moment) (answer : Answer) : Type 0 where
  pub fault : FolderFault
  pub begin : WhereTold before.told now.told (TellsBegin before.admits asked.command (Err fault))
  pub tells : IsTold asked.request.tool (cause_of_fault Before fault) answer
  pub says : Says asked answer answer.outcome.cause

-- ---- The answer

-- the last event of the history is the session's answer, with this status, by which it has ended
pub record HasAnswered (runner : Runner) (given : Answer) (status : ℕ) (past : Past) : Type 0 where
  pub older : History
  pub last : past.history ≡ record {
    token = runner.token;
    call = answers status;
    result = done tt;
  } ∷ older
  pub ended : HasEnded runner given status past

-- the session had this answer to give, and has answered with the status
pub record Gave (now : Moment) (runner : Runner) (given : Answer) (status : ℕ) : Type 0 where
  pub says : Says runner.asked given given.outcome.cause
  pub answered : IfSome now.told (HasAnswered runner given status)

-- whichever answer it had to give, of which the streams left this one
abbrev pub GaveLeft : Moment → Moment → Runner → Answer → Type 0
GaveLeft before now runner answer = (given : Answer) (put : Result (Unit {0}) SinkFault) →
    MayGive before runner given → IfSome before.told (CameTo runner (Answering given)) →
    answer ≡ after_streams put given → Gave now runner given answer.outcome.status

-- ---- Each turn

-- the folder tells what it told, and was asked nothing
pub record Stays (before now : Moment) : Type 0 where
  pub told : now.told ≡ before.told
  pub narrows : Narrows before.admits now.admits
  pub faults : now.faults ≡ before.faults
  pub journal : now.journal ≡ before.journal

-- One turn of a session that stands in a state, and doesn't answer there, to the next: it does what a turn
-- may do, and leaves a call fewer.
pub record TakesTurn (before now : Moment) (runner : Runner) (old new : State) : Type 0 where
  pub turns : Turns before now runner old new
  pub counts : CountsTo now.told now.journal runner old new

-- A turn of the session of a runner leads to this state. It makes this one call, or none where there was
-- no memory. That call is all that it asks of the folder, and where it is refused the session answers next.
pub record StepsTo (before now : Moment) (runner : Runner) (call : Call) (state : State)
    : Type 0 where
  pub turns : TurnsTo before now runner.token 1 (IsLedTo now runner state) (TellsOutside state)
  pub makes_one : MakesOne before.told now.told runner.token call (FindsNoMemory state)
  pub asks : AsksOnce before now call (IsAnswering state)

-- One turn of a session: its begin, a step, or its answer, by the call that it makes next
-- (specs/NextCall). A begin gives a new token; one that gave none is told as a fault, and leaves nothing
-- to call. A step leaves a call fewer.
abbrev pub SessionTurns : Moment → Moment → Phase → Phase → Type 0
SessionTurns before now (Waiting asked) (Begun runner state) =
    (runner.asked ≡ asked) × StepsTo before now runner (begins asked.command) state
    × IsNew before.told runner.token × IsFirst runner state
SessionTurns before now (Waiting asked) (Unbegun tool answer) = (tool ≡ asked.request.tool)
    × TurnsTo before now [] 1 (IsUnbegun asked before now answer) (IsOutside answer.outcome.cause)
    × AsksOnce before now (begins asked.command) ⊤
SessionTurns before now (Begun runner state) (Begun same next) =
    (same ≡ runner) × StepsTo before now runner (state_call state) next
    × CountsTo now.told now.journal runner state next
SessionTurns before now (Begun runner state) (Over same answer) = (same ≡ runner)
    × (state ≡ Answering answer)
    × TurnsTo before now runner.token 1 (GaveLeft before now runner answer) ⊥
    × MakesOne before.told now.told runner.token (state_call state) ⊥
    × AsksOnce before now (state_call state) ⊥
SessionTurns before now (Over runner answer) (Over same given) =
    (same ≡ runner) × (given ≡ answer) × Stays before now
SessionTurns before now (Unbegun tool answer) (Unbegun same given) =
    (same ≡ tool) × (given ≡ answer) × Stays before now
SessionTurns before now old new = ⊥

-- Another session belongs to the folder still, and where a history is told it has another token.
pub record KeepsOther (before now : Moment) (new other : Phase) : Type 0 where
  pub belongs : Belongs now other
  pub apart : IfSome before.told (λ past. AreTwo new other)

-- so it is with each that belonged there with another token
abbrev pub KeepsOthers : Moment → Moment → Phase → Phase → Type 0
KeepsOthers before now old new = (other : Phase) → Belongs before other → AreTwo old other →
    KeepsOther before now new other
