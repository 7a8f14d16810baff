-- That a session drops nothing that it has met: it tells that, or a fault or want of memory that came
-- later; and until then it only leaves (docs/ARCHITECTURE.md, "Taking over").
use Rattle.std.specs.Prelude.{◌≡◌, ◌⊎◌, ⊤, ◌++◌}
use Rattle.std.specs.List.{AllByRecursion}
use Rattle.acct_outside.specs.declared.Name.TheVariants.{FreeStage, Lock}
use Rattle.acct_outside.specs.Tokens.{Token}
use Rattle.acct_outside.specs.Calls.{Call, writes, renames, removes, answers}
use Rattle.acct_outside.specs.History.{History}
use Rattle.suite_answers.specs.declared.cause.Cause.{Cause}
use Rattle.suite_answers.specs.declared.cause.Cause.TheVariants.{Outrun, DiskFault, OutputFault, Memory}
use Rattle.suite_session.specs.declared.state.State.{State}
use Rattle.suite_session.specs.declared.state.State.TheVariants.{Withdrawing, Unlocking, Freeing, Answering}
use Rattle.suite_session.specs.Causes.{ComesOfCall, MustTell}

-- a fault of the folder or of a stream, or want of memory, may come after whatever a session met
abbrev pub IsLater : Cause → Type 0
IsLater (DiskFault stage) = ⊤
IsLater (OutputFault stage) = ⊤
IsLater (Memory stage) = ⊤
IsLater cause = ⊥

-- a session on its way out removes a lock, stages the free text, moves it to its lock, and answers
abbrev pub IsLeavingCall : Call → Type 0
IsLeavingCall (removes (Lock number)) = ⊤
IsLeavingCall (writes FreeStage bytes) = ⊤
IsLeavingCall (renames FreeStage (Lock number)) = ⊤
IsLeavingCall (answers status) = ⊤
IsLeavingCall call = ⊥

-- what a session may call once it has met this: after a call that failed its answer alone
abbrev pub MayFollow : Cause → Call → Type 0
MayFollow (DiskFault stage) (answers status) = ⊤
MayFollow (DiskFault stage) call = ⊥
MayFollow met call = IsLeavingCall call

-- each of the session's events there is such a call
abbrev pub OnlyFollow : Token → Cause → History → Type 0
OnlyFollow token met =
    AllByRecursion (λ event. event.token ≡ token → MayFollow met event.call)

-- whatever a session has met at some part of its history it is to tell so, and after that part come
-- only calls that may follow
abbrev pub TellsMet : (Cause → Type 0) → Token → History → Type 0
TellsMet Covers token history = (newer older : History) → history ≡ newer ++ older → (met : Cause) →
    ComesOfCall met → MustTell token older met → Covers met × OnlyFollow token met newer

-- an answer with the first cause tells what was met: that itself, or what came later
abbrev pub Covers : Cause → Cause → Type 0
Covers cause met = (cause ≡ met) ⊎ IsLater cause

-- an answer with this cause drops nothing that the session has met
abbrev pub DropsNothing : Token → Cause → History → Type 0
DropsNothing token cause = TellsMet (Covers cause) token

-- a session in this state is to tell this of all that it has met; on its way to its answer it has met
-- nothing, unless that is the answer which it leaves with
abbrev pub IsToTell : State → Cause → Type 0
IsToTell (Withdrawing loser) met = Outrun loser.number loser.greatest ≡ met
IsToTell (Unlocking keeper answer) met = answer.outcome.cause ≡ met
IsToTell (Freeing freeing answer) met = answer.outcome.cause ≡ met
IsToTell (Answering answer) met = Covers answer.outcome.cause met
IsToTell state met = ⊥

-- a session in this state drops nothing that it has met
abbrev pub Remembers : Token → State → History → Type 0
Remembers token state = TellsMet (IsToTell state) token
