-- How a session stands in each of its states, by its own events, and what one turn of it does.
use Rattle.std.specs.Prelude.{◌≡◌, ◌≢◌, ◌⊎◌, ◌∷◌, ⊤, true, false, ℕ, ◌<◌, ◌≤◌, ◌++◌, length, Option, Some, IfSome}
use Rattle.acct_outside.specs.Faults.{HasRisen}
use Rattle.acct_outside.specs.declared.Name.{Name}
use Rattle.acct_outside.specs.declared.Name.TheVariants.{Table, Defs}
use Rattle.acct_outside.specs.Names.{greatest_lock}
use Rattle.acct_outside.specs.Tokens.{Token}
use Rattle.acct_outside.specs.Calls.{Call, Answer as CallAnswer, CallResult, appends, writes}
use Rattle.acct_outside.specs.History.{History, own_events}
use Rattle.acct_outside.specs.Contract.{MayAnswer, WhereTold}
use Rattle.suite_rules.specs.OwnLock.{kept_number}
use Rattle.suite_rules.specs.Standing.{Standing, standing}
use Rattle.lock_steps.specs.States.{Maker, Kept}
use Rattle.suite_rules.specs.Deeds.{SuiteDeeds}
use Rattle.suite_rules.specs.Steps.{StaysLawful}
use Rattle.lock_steps.specs.Stands.{HasLooked, HasReadHeld, HasJudged, HasMade, WasOvertaken, Keeps, KnowsAnything, KnowsNone, HasStagedFree, HasFreed}
use Rattle.lock_steps.specs.Watching.{HasGathered}
use Rattle.recovery.specs.Stands.{Recovers, HasStagedNext}
use Rattle.account_model.specs.declared.tool.Tool.{Tool}
use Rattle.account_model.specs.Answer.{Changed as ChangedTo}
use Rattle.account_model.specs.Request.{is_report}
use Rattle.account_model.specs.SeenFiles.{read_tables}
use Rattle.commit_steps.specs.States.{Change, Walker}
use Rattle.commit_steps.specs.Walks.{token_of}
use Rattle.commit_steps.specs.Stands.{HasRead, BacksUp, HasStagedIntent, Installs}
use Rattle.suite_answers.specs.declared.cause.Which.TheVariants.{File}
use Rattle.suite_answers.specs.declared.cause.Cause.{Cause}
use Rattle.suite_answers.specs.declared.cause.Cause.TheVariants.{Changed, Same, Refused, RefusedLine, NoTable, BadSetting, TooLarge, DiskFault, InputFault, OutputFault, ClockFault, Memory}
use Rattle.suite_answers.specs.declared.answer.Answer.{Answer}
use Rattle.suite_answers.specs.Reasons.{stage_of}
use Rattle.suite_session.specs.declared.state.State.{State}
use Rattle.suite_session.specs.declared.state.State.TheVariants.{Looking, Reading, Asking, Claiming, Confirming, Withdrawing, ReadingIntent, Recovering, Moving, Loading, BackingUp, Committing, Installing, Unlocking, Freeing, Watching, Gathering, Answering}
use Rattle.suite_session.specs.Runner.{IsRead, Runner}
use Rattle.acct_outside.specs.Journal.{Reply, makes, was_refused}
use Rattle.acct_outside.specs.Moment.{Past, Moment, Narrows, Notes}
use Rattle.acct_outside.specs.declared.CommitStage.TheVariants.{Before, Committed}
use Rattle.suite_session.specs.Moment.{At}
use Rattle.suite_session.specs.Answers.{answer_on, IsAnswerOn, given_for, memory_answer, IsTold, Says}
use Rattle.suite_session.specs.Deeds.{AreOfTools}
use Rattle.suite_session.specs.Causes.{HasKept, HasListedNone}
use Rattle.suite_session.specs.Due.{IsDue}
use Rattle.suite_session.specs.Looks.{LooksLess}
use Rattle.suite_session.specs.NextCall.{state_call}
use Rattle.suite_session.specs.Staging.{staged_in}
use Rattle.suite_session.specs.Telling.{Remembers}
use Rattle.suite_session.specs.Grows.{Grew}

-- the cause is a fault of the folder
abbrev pub IsDiskFault : Cause → Type 0
IsDiskFault (DiskFault stage) = ⊤
IsDiskFault cause = ⊥

-- the cause is want of memory
abbrev pub IsMemory : Cause → Type 0
IsMemory (Memory stage) = ⊤
IsMemory cause = ⊥

-- the cause is a fault of what lies outside the session: of the folder, or of the input, the streams or
-- the clock, of which a session by itself tells none
abbrev pub IsOutside : Cause → Type 0
IsOutside (DiskFault stage) = ⊤
IsOutside InputFault = ⊤
IsOutside (OutputFault stage) = ⊤
IsOutside ClockFault = ⊤
IsOutside cause = ⊥

-- a fault outside the session, or want of memory, stopped the command
abbrev pub IsStopped : Cause → Type 0
IsStopped (Memory stage) = ⊤
IsStopped cause = IsOutside cause

-- the cause is what a tool decided on the files
abbrev pub IsDecided : Cause → Type 0
IsDecided Changed = ⊤
IsDecided Same = ⊤
IsDecided (Refused refusal) = ⊤
IsDecided (RefusedLine line refusal) = ⊤
IsDecided (NoTable table) = ⊤
IsDecided (BadSetting line) = ⊤
IsDecided (TooLarge (File (Table table))) = ⊤
IsDecided (TooLarge (File Defs)) = ⊤
IsDecided cause = ⊥

-- a keeper with an answer of its tool knows that no intent stands
abbrev pub KnowsDecided : Token → Cause → Past → Type 0
KnowsDecided token cause past = IsDecided cause → KnowsNone (standing token past.history).knows

-- A session that answers with this cause has freed the lock that it kept, and removed all lower ones. Where
-- it kept one, it knows with an answer of its tool that no intent stands.
pub record HasLeft (token : Token) (cause : Cause) (past : Past) : Type 0 where
  pub freed : (number : ℕ) → kept_number (standing token past.history).own ≡ Some number →
      HasFreed number (standing token past.history)
  pub clean : HasKept (standing token past.history) → KnowsDecided token cause past

-- a keeper frees its lock with the answer to this cause, or there was no memory for its text
abbrev pub LeavesWith : Tool → Kept → Cause → State → Type 0
LeavesWith tool keeper cause (Unlocking kept answer) =
    (kept ≡ keeper) × (answer ≡ given_for tool cause)
LeavesWith tool keeper cause (Answering answer) = answer ≡ memory_answer (stage_of cause)
LeavesWith tool keeper cause state = ⊥

-- the runner has this answer to give: it says what its cause says, and its events show it
pub record HasToGive (now : Moment) (runner : Runner) (answer : Answer) : Type 0 where
  pub says : Says runner.asked answer answer.outcome.cause
  pub due : IfSome now.told (IsDue runner answer)

-- the runner may answer so: no other call of it is left, as it has left the locks and the intent as it
-- must, unless a fault or want of memory stopped it
pub record MayGive (now : Moment) (runner : Runner) (answer : Answer) : Type 0 where
  pub may_answer : MayAnswer now runner.token
  pub gives : HasToGive now runner answer
  pub left : (IsStopped answer.outcome.cause → ⊥) →
      IfSome now.told (HasLeft runner.token answer.outcome.cause)

-- the answer is that on the inputs of the change, which becomes its new files
pub record IsOfChange (runner : Runner) (change : Change) (answer : Answer) : Type 0 where
  pub is_read : IsRead runner.asked
  pub is_answer : IsAnswerOn runner.asked change.inputs.files change.inputs.defs answer
  pub is_change : (answer_on runner.asked change.inputs.files change.inputs.defs).cause
      ≡ ChangedTo change.new

-- it is on its way to the commit of a change, and has the answer to it
pub record StandsChanging (now : Moment) (runner : Runner) (change : Change)
    (Holds : Standing → Type 0) (answer : Answer) : Type 0 where
  pub same : change.inputs.keeper.token ≡ runner.token
  pub stands : At now runner Before Holds
  pub of_change : IsOfChange runner change answer

-- it has committed a change, and has the answer to it
pub record StandsInstalling (now : Moment) (runner : Runner) (walker : Walker) (answer : Answer)
    : Type 0 where
  pub same : token_of walker ≡ runner.token
  pub stands : At now runner Committed (Installs walker)
  pub changed : answer.outcome.cause ≡ Changed
  pub gives : HasToGive now runner answer

-- It keeps its number, and has this answer to give, which tells of no fault outside the session.
pub record StandsUnlocking (now : Moment) (runner : Runner) (keeper : Kept) (answer : Answer)
    : Type 0 where
  pub same : keeper.token ≡ runner.token
  pub stands : At now runner (stage_of answer.outcome.cause) (Keeps keeper KnowsAnything)
  pub clean : IfSome now.told (KnowsDecided runner.token answer.outcome.cause)
  pub quiet : IsOutside answer.outcome.cause → ⊥
  pub gives : HasToGive now runner answer

-- it has staged the free text, and has this answer to give
pub record StandsFreeing (now : Moment) (runner : Runner) (freeing : Maker) (answer : Answer)
    : Type 0 where
  pub same : freeing.token ≡ runner.token
  pub stands : At now runner (stage_of answer.outcome.cause) (HasStagedFree freeing)
  pub clean : IfSome now.told (KnowsDecided runner.token answer.outcome.cause)
  pub quiet : IsOutside answer.outcome.cause → ⊥
  pub gives : HasToGive now runner answer

-- the runner stands in the state
abbrev pub StandsAs : Moment → Runner → State → Type 0
StandsAs now runner (Looking looking) =
    (looking ≡ runner.token) × At now runner Before HasListedNone
StandsAs now runner (Reading seen) = (seen.token ≡ runner.token) × (0 < seen.greatest)
    × At now runner Before (HasLooked seen) × (seen.greatest ≢ greatest_lock)
StandsAs now runner (Asking asking) = (asking.token ≡ runner.token)
    × At now runner Before (HasReadHeld asking) × (asking.greatest ≢ greatest_lock)
StandsAs now runner (Claiming judged) =
    (judged.token ≡ runner.token) × At now runner Before (HasJudged judged)
    × (is_report runner.asked.request ≡ false)
StandsAs now runner (Confirming claimed) =
    (claimed.token ≡ runner.token) × At now runner Before (HasMade claimed)
StandsAs now runner (Withdrawing loser) =
    (loser.token ≡ runner.token) × (loser.number < loser.greatest)
    × At now runner Before (WasOvertaken loser)
StandsAs now runner (ReadingIntent keeper) =
    (keeper.token ≡ runner.token) × At now runner Before (Keeps keeper KnowsAnything)
StandsAs now runner (Recovering recovering) =
    (recovering.keeper.token ≡ runner.token) × At now runner Before (Recovers recovering)
StandsAs now runner (Moving moving) =
    (moving.keeper.token ≡ runner.token) × (0 < length moving.left)
    × At now runner Before (HasStagedNext moving)
StandsAs now runner (Loading reader) =
    (reader.keeper.token ≡ runner.token) × At now runner Before (HasRead reader)
StandsAs now runner (Watching watcher) =
    (watcher.token ≡ runner.token) × At now runner Before (HasJudged watcher)
    × (is_report runner.asked.request ≡ true)
StandsAs now runner (Gathering reading) =
    (reading.token ≡ runner.token) × At now runner Before (HasGathered reading)
    × (is_report runner.asked.request ≡ true)
    × (reading.wanted ≡ read_tables runner.asked.request)
StandsAs now runner (BackingUp walker answer) =
    StandsChanging now runner walker.change (BacksUp walker) answer
StandsAs now runner (Committing stager answer) =
    StandsChanging now runner stager.change (HasStagedIntent stager) answer
StandsAs now runner (Installing walker answer) = StandsInstalling now runner walker answer
StandsAs now runner (Unlocking keeper answer) = StandsUnlocking now runner keeper answer
StandsAs now runner (Freeing freeing answer) = StandsFreeing now runner freeing answer
StandsAs now runner (Answering answer) = MayGive now runner answer

-- the state answers with the cause, or that there was no memory to tell it
abbrev pub AnswersWith : Tool → Cause → State → Type 0
AnswersWith tool cause (Answering answer) = IsTold tool cause answer
AnswersWith tool cause state = ⊥

-- a lawful history stays lawful, for the deeds of the tools
abbrev pub StaysOurs : Moment → Moment → Type 0
StaysOurs before now = (deeds : SuiteDeeds) → AreOfTools deeds → StaysLawful deeds before now

-- the state answers with a fault of what lies outside
abbrev pub TellsOutside : State → Type 0
TellsOutside (Answering answer) = IsOutside answer.outcome.cause
TellsOutside state = ⊥

-- the state answers that there was no memory
abbrev pub FindsNoMemory : State → Type 0
FindsNoMemory (Answering answer) = IsMemory answer.outcome.cause
FindsNoMemory state = ⊥

-- the state answers
abbrev pub IsAnswering : State → Type 0
IsAnswering (Answering answer) = ⊤
IsAnswering state = ⊥

-- the history is longer, where one is told
abbrev pub Extends : Option Past → Option Past → Type 0
Extends before now =
    WhereTold before now (λ first old new. (newer : History) × (new ≡ newer ++ old))

-- Turns of the session of one token, between two moments, to what stands so: the history got events
-- that were admitted from others, and at most so many of the session's own; a lawful one stays lawful;
-- the folder admits no more than before; and its count of faults doesn't fall, and rose where a fault
-- of it is told.
pub record TurnsTo (before now : Moment) (token : Token) (most : ℕ) (Stands TellsFault : Type 0)
    : Type 0 where
  pub stands : Stands
  pub grew : Grew before.admits token most before.told now.told
  pub lawful : StaysOurs before now
  pub narrows : Narrows before.admits now.admits
  pub never_falls : before.faults ≤ now.faults
  pub risen : TellsFault → HasRisen before.faults now.faults

-- the history has exactly one more event of the session, which is of this call; or none, where there was
-- no memory
abbrev pub MakesOne : Option Past → Option Past → Token → Call → Type 0 → Type 0
MakesOne before now token call NoMemory = WhereTold before now (λ first old new.
    ((result : CallResult (CallAnswer call))
    × (own_events token new
    ≡ record { token = token; call = call; result = result } ∷ own_events token old))
    ⊎ (NoMemory × (own_events token new ≡ own_events token old)))

-- The folder was asked for this call alone, and noted it with what it came to; this is so where it was
-- refused: where it failed, or found no memory.
pub record AsksOnce (before now : Moment) (call : Call) (WhereRefused : Type 0) : Type 0 where
  pub reply : Reply
  pub noted : Notes before now (makes call reply)
  pub refused : reply ≡ was_refused → WhereRefused

-- what the session has met is to be told in the one state, so what it has met since in the other
abbrev pub StaysTold : Option Past → Option Past → Token → State → State → Type 0
StaysTold before now token old new = WhereTold before now (λ first older newer.
    Remembers token old older → Remembers token new newer)

-- the state has bytes staged at the name, or answers that it was stopped
abbrev pub HasStagedAt : Name → State → Type 0
HasStagedAt name (Answering answer) = IsStopped answer.outcome.cause
HasStagedAt name state = staged_in state ≡ Some name

-- a call that stages bytes leads to such a state
abbrev pub StagesTo : Call → State → Type 0
StagesTo (writes name bytes) state = HasStagedAt name state
StagesTo (appends name piece) state = HasStagedAt name state
StagesTo call state = ⊤

-- One turn of the runner from a state to another: it makes the call of the old state, or none where there
-- was no memory, drops nothing that it has met, and looks at nothing once more than it may. That call is
-- all that it asks of the folder, and where it is refused the session answers next.
pub record Turns (before now : Moment) (runner : Runner) (old new : State) : Type 0 where
  pub turns : TurnsTo before now runner.token 1 (StandsAs now runner new) (TellsOutside new)
  pub makes_one : MakesOne before.told now.told runner.token (state_call old) (FindsNoMemory new)
  pub asks : AsksOnce before now (state_call old) (IsAnswering new)
  pub remembers : StaysTold before.told now.told runner.token old new
  pub stages : StagesTo (state_call old) new
  pub looks : LooksLess old new
