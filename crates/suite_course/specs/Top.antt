-- What the top call answers: how a command ends that asks for nothing, and what the history of a
-- folder shows of one that ran.
use Rattle.std.specs.Prelude.{◌≡◌, ◌⊎◌, ◌∷◌, ◌++◌, [], ◌≤◌, Some, None, Option, List, slice_get, Result, Err}
use Rattle.acct_outside.specs.declared.CommitStage.TheVariants.{Before}
use Rattle.acct_outside.specs.declared.streams.SinkFault.{SinkFault}
use Rattle.acct_outside.specs.Tokens.{Token}
use Rattle.acct_outside.specs.Faults.{HasRisen}
use Rattle.acct_outside.specs.Folder.{Folder}
use Rattle.acct_outside.specs.Calls.{answers, done}
use Rattle.acct_outside.specs.History.{History, after, own_events}
use Rattle.acct_outside.specs.Others.{Admission}
use Rattle.acct_outside.specs.Contract.{TellsBegin, WhereTold}
use Rattle.acct_outside.specs.declared.FolderFault.{FolderFault}
use Rattle.account_model.specs.declared.tool.Tool.{Tool}
use Rattle.account_model.specs.Options.{Word}
use Rattle.account_model.specs.PlanWords.{command_words}
use Rattle.account_model.specs.Words.{tool_named}
use Rattle.suite_rules.specs.Deeds.{SuiteDeeds}
use Rattle.suite_rules.specs.Standing.{standing}
use Rattle.suite_rules.specs.Lawful.{Lawful}
use Rattle.suite_rules.specs.Steps.{LawfulOthers}
use Rattle.suite_answers.specs.declared.cause.Outcome.{Outcome}
use Rattle.suite_answers.specs.declared.cause.Cause.TheVariants.{Memory}
use Rattle.suite_answers.specs.declared.answer.Answer.{Answer}
use Rattle.suite_answers.specs.Reasons.{stage_of}
use Rattle.suite_session.specs.Runner.{Question}
use Rattle.acct_outside.specs.Moment.{Moment, Narrows}
use Rattle.suite_session.specs.Bound.{IsBounded}
use Rattle.suite_session.specs.Answers.{IsTold, Says, after_streams, memory_answer}
use Rattle.suite_session.specs.Deeds.{AreOfTools}
use Rattle.suite_session.specs.Looks.{LooksOnce}
use Rattle.suite_session.specs.Staging.{HasMovedAll}
use Rattle.suite_session.specs.Telling.{DropsNothing}
use Rattle.suite_session.specs.Writing.{WroteDue}
use Rattle.suite_session.specs.Stands.{HasLeft, IsDiskFault, IsStopped}
use Rattle.suite_session.specs.Locking.{cause_of_fault}
use Rattle.suite_course.specs.Asked.{AsksThere}
use Rattle.suite_course.specs.Open.{StandsOpen}
use Rattle.suite_course.specs.Streams.{Streams, Serves}
use Rattle.suite_course.specs.Alone.{AnswersOnOld, IsAlone, LeavesFolder}
use Rattle.suite_course.specs.Shows.{IfReportsFreely, IsAlwaysSettled, Shows}
use Rattle.suite_course.specs.Plans.{IfPlansExactly}
use Rattle.suite_course.specs.declared.supplies.Lack.{Lack}
use Rattle.suite_course.specs.Supplies.{Supplies, IsLacking, LacksNothing, told_lack}

-- ---- What the history shows

-- for the deeds of the tools, where a history was lawful and all that the folder admits is so
abbrev pub IfLawful : Admission → Folder → History → (SuiteDeeds → Type 0) → Type 0
IfLawful admits first old P = (deeds : SuiteDeeds) → AreOfTools deeds →
    LawfulOthers deeds admits first → Lawful deeds first old → P deeds

-- a history that was lawful before has this now
abbrev pub WhereLawful : Moment → Moment →
    (SuiteDeeds → (first : Folder) → (old new : History) → Type 0) → Type 0
WhereLawful before now P = WhereTold before.told now.told (λ first old new.
    IfLawful before.admits first old (λ deeds. P deeds first old new))

-- the history is a longer one, and lawful
pub record ExtendsLawfully (deeds : SuiteDeeds) (first : Folder) (old new : History) : Type 0 where
  pub newer : History
  pub parts : new ≡ newer ++ old
  pub lawful : Lawful deeds first new

-- the session of this token, which began with what was asked, answered with its last event; its own
-- commit came as far as the outcome's cause says
pub record Answered (asked : Question) (outcome : Outcome) (token : Token) (history : History)
    : Type 0 where
  pub older : History
  pub last : history
      ≡ record { token = token; call = answers outcome.status; result = done tt } ∷ older
  pub began : (standing token history).command ≡ Some asked.command
  pub commits : (standing token history).commit ≡ stage_of outcome.cause

-- ---- What became of the command in the folder

-- A session of this token began in this call, between the two moments, with what was asked, and its
-- last event is its answer. New events were admitted from others or are its own, which are within the
-- bound; those of a report change no name. A lawful history shows what the answer tells, and of a plan that
-- it is its command's at its place, but that it tells of a change in place of making it; of all that the
-- session has met that drops nothing, and it looked at nothing again. Whatever it wrote was due, be it that
-- a call failed. Unless a fault or want of memory stopped it, it has freed the lock that it kept, has moved
-- all that it staged, and with an answer of its tool it knows that no intent stands, be it that it carried
-- one out, whatever others did. And where it was alone since an earlier moment it leaves the locks, the
-- staging names, the intent and the backups as it must with that cause.
pub record HasRun (asked : Question) (admits : Admission) (given : Answer) (outcome : Outcome)
    (first : Folder) (old new : History) (token : Token) : Type 0 where
  pub answered : Answered asked outcome token new
  pub fresh : own_events token old ≡ []
  pub bounded : IsBounded admits token old new
  pub shows : IfLawful admits first old (λ deeds. Shows deeds asked first new token given)
  pub drops_nothing : DropsNothing token given.outcome.cause new
  pub looks_once : LooksOnce token new
  pub wrote : WroteDue token new
  pub free_reports : IfReportsFreely asked token given.outcome.cause new
  pub plan_exact : IfLawful admits first old (λ deeds.
      IfPlansExactly deeds asked first new token given)
  pub left : (IsStopped given.outcome.cause → ⊥) →
      HasLeft token given.outcome.cause (record { first = first; history = new })
  pub moved : (IsStopped given.outcome.cause → ⊥) → HasMovedAll (standing token new)
  pub leaves : IfLawful admits first old (λ deeds. (earlier : History) →
      IsAlone token earlier new → LeavesFolder asked first earlier new token given.outcome.cause)

-- No session began in this call: new events were admitted from others, and then at most the one begin
-- of what was asked, which failed. The answer tells that fault, or that there was no memory, be it for
-- the begin or to tell its fault.
pub record HasNotRun (asked : Question) (admits : Admission) (given : Answer) (first : Folder)
    (old new : History) : Type 0 where
  pub fault : FolderFault
  pub begin : TellsBegin admits asked.command (Err fault) first old new
  pub tells : IsTold asked.request.tool (cause_of_fault Before fault) given

-- the one or the other
abbrev pub RunsOrNot : Question → Admission → Answer → Outcome → Folder → History → History → Type 0
RunsOrNot asked admits given outcome first old new =
    ((token : Token) × HasRun asked admits given outcome first old new token)
    ⊎ HasNotRun asked admits given first old new

-- ---- The whole call

-- the tool that the first word names, of a plan the first behind its form
abbrev pub named_tool : List Word → Option Tool
named_tool words =
    elim (slice_get (command_words words) 0) [ None ↦ None | Some word ↦ tool_named word ]

-- the streams got this answer, and the outcome is what they left of it
pub record PutsAnswer (tool : Option Tool) (given : Answer) (was holds : Streams)
    (outcome : Outcome)
    : Type 0 where
  pub put : Result (Unit {0}) SinkFault
  pub served : Serves tool given was holds put
  pub left : outcome ≡ (after_streams put given).outcome

-- The command asked for nothing that runs. The streams got this answer, or that there was no memory
-- for it, and the outcome is that.
pub record EndsEarly (tool : Option Tool) (answer : Answer) (was holds : Streams)
    (outcome : Outcome) : Type 0 where
  pub given : Answer
  pub is : (given ≡ answer) ⊎ (given ≡ memory_answer Before)
  pub ends : PutsAnswer tool given was holds outcome

-- no fault of a stream was counted
pub record StreamsServe (was holds : Streams) : Type 0 where
  pub out : HasRisen was.out_faults holds.out_faults → ⊥
  pub err : HasRisen was.err_faults holds.err_faults → ⊥

-- The command has no input or no day, or a line of a batch asks for nothing. It tells that, or that
-- there was no memory. Where nothing lacks, the latter is so.
pub record EndsUnsupplied (tool : Tool) (before now : Supplies) (was holds : Streams)
    (outcome : Outcome) : Type 0 where
  pub lack : Lack
  pub due : IsLacking tool before now lack
  pub ends : EndsEarly (Some tool) (told_lack tool lack) was holds outcome
  pub complete : LacksNothing tool before now → StreamsServe was holds →
      outcome.cause ≡ Memory Before

-- The command ran, in the order of its course. The folder admits no more than before and its count of
-- faults doesn't fall, so that a later command in it goes on from here. A session of this command ran
-- there, or its begin gave none. A lawful history stays lawful, and always settles to the fold of its
-- commitments. The answer that was come to says what its cause says, and of what lies outside it tells
-- of a fault of the folder alone, whose count then rose. The streams got that answer, and the outcome is
-- what they left of it. Of a session that was alone, in whose way nothing stood, it is the tool's
-- answer, or there was no memory. All that the folder was asked is that it was named by the prefix of the
-- request, and then the calls of the session, be a history told or not.
pub record Ran (asked : Question) (before now : Moment) (was holds : Streams) (outcome : Outcome)
    : Type 0 where
  pub narrows : Narrows before.admits now.admits
  pub never_falls : before.faults ≤ now.faults
  pub given : Answer
  pub session : WhereTold before.told now.told (RunsOrNot asked before.admits given outcome)
  pub asks : AsksThere asked before.journal now.journal
  pub lawful : WhereLawful before now ExtendsLawfully
  pub settles : WhereLawful before now (λ deeds first old new. IsAlwaysSettled deeds first new)
  pub says : Says asked given given.outcome.cause
  pub failed : IsDiskFault given.outcome.cause → HasRisen before.faults now.faults
  pub ends : PutsAnswer (Some asked.request.tool) given was holds outcome
  pub complete : (HasRisen before.faults now.faults → ⊥) → StreamsServe was holds →
      WhereLawful before now (λ deeds first old new. (token : Token) → IsAlone token old new →
      StandsOpen (after first old) token new →
      AnswersOnOld deeds asked first old new token (after_streams ends.put given))
