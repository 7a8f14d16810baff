-- What a session promises that is turned call by call (`Session::turn`), in the words of the top call.
use Rattle.std.specs.Prelude.{◌≡◌, ⊤, IfSome, Result, Err}
use Rattle.acct_outside.specs.declared.streams.SinkFault.{SinkFault}
use Rattle.acct_outside.specs.History.{History, after}
use Rattle.acct_outside.specs.Moment.{Past, Moment}
use Rattle.suite_rules.specs.Deeds.{SuiteDeeds}
use Rattle.suite_rules.specs.Standing.{standing}
use Rattle.suite_rules.specs.Lawful.{Lawful}
use Rattle.suite_answers.specs.declared.answer.Answer.{Answer}
use Rattle.suite_session.specs.declared.state.State.TheVariants.{Answering}
use Rattle.suite_session.specs.declared.session.Phase.{Phase}
use Rattle.suite_session.specs.declared.session.Phase.TheVariants.{Begun, Over, Unbegun}
use Rattle.suite_session.specs.Runner.{Runner}
use Rattle.suite_session.specs.Answers.{Says, after_streams}
use Rattle.suite_session.specs.Belongs.{Belongs, HasNoToken}
use Rattle.suite_session.specs.Bound.{IsWithinBound}
use Rattle.suite_session.specs.Deeds.{AreOfTools}
use Rattle.suite_session.specs.Looks.{LooksOnce}
use Rattle.suite_session.specs.Session.{HasText}
use Rattle.suite_session.specs.Staging.{HasMovedAll}
use Rattle.suite_session.specs.Stands.{HasLeft, IsDiskFault, IsStopped}
use Rattle.suite_session.specs.Telling.{DropsNothing}
use Rattle.suite_session.specs.Writing.{WroteDue}
use Rattle.suite_course.specs.Open.{StandsOpen}
use Rattle.suite_course.specs.Alone.{AnswersOnOld, IsAlone, LeavesFolder}
use Rattle.suite_course.specs.Shows.{IfReportsFreely, IsAlwaysSettled, Shows}
use Rattle.suite_course.specs.Plans.{IfPlansExactly}

-- What a lawful history shows of a session that has this answer to give, or gave it. The answer says what
-- its cause says: the status, and both texts. The settled files are the fold after each part of the
-- history; what the answer tells is so, also how far the commit came; of all that the session has met it
-- drops nothing, and it looked at nothing again; whatever it wrote was due; its calls are within the bound,
-- and those of a report change no name. A plan answers as its command at its place, but that it tells of a
-- change in place of making it. Unless it was stopped it has freed its lock, has moved all that it staged,
-- and with an answer of its tool it knows that no intent stands. Where it was alone since an earlier moment
-- it leaves the locks, the staging names, the intent and the backups as it must; and where nothing stood in
-- its way, and the folder didn't fail, its answer is the tool's, or there was no memory.
pub record Promises (deeds : SuiteDeeds) (runner : Runner) (answer : Answer) (past : Past)
    : Type 0 where
  pub says : Says runner.asked answer answer.outcome.cause
  pub settles : IsAlwaysSettled deeds past.first past.history
  pub shows : Shows deeds runner.asked past.first past.history runner.token answer
  pub drops_nothing : DropsNothing runner.token answer.outcome.cause past.history
  pub looks_once : LooksOnce runner.token past.history
  pub wrote : WroteDue runner.token past.history
  pub within : IsWithinBound runner.token past.history
  pub free_reports : IfReportsFreely runner.asked runner.token answer.outcome.cause past.history
  pub plan_exact : IfPlansExactly deeds runner.asked past.first past.history runner.token answer
  pub left : (IsStopped answer.outcome.cause → ⊥) →
      HasLeft runner.token answer.outcome.cause past
  pub moved : (IsStopped answer.outcome.cause → ⊥) →
      HasMovedAll (standing runner.token past.history)
  pub leaves : (old : History) → IsAlone runner.token old past.history →
      LeavesFolder runner.asked past.first old past.history runner.token answer.outcome.cause
  pub complete : (old : History) → IsAlone runner.token old past.history →
      StandsOpen (after past.first old) runner.token past.history →
      (IsDiskFault answer.outcome.cause → ⊥) →
      AnswersOnOld deeds runner.asked past.first old past.history runner.token answer

-- So it is with the answer to which the session came, of which the streams left this one: one that
-- failed to take a text changes the cause, at the stage that was reached, and its status; the texts stay.
pub record Promised (deeds : SuiteDeeds) (runner : Runner) (answer : Answer) (past : Past)
    : Type 0 where
  pub given : Answer
  pub put : Result (Unit {0}) SinkFault
  pub left : answer ≡ after_streams put given
  pub texted : (fault : SinkFault) → put ≡ Err fault → HasText given
  pub promises : Promises deeds runner given past

-- a session that began and has its answer to give, or gave it, has promised so; one whose begin gave no
-- token tells that fault of the folder, or that there was no memory
abbrev pub KeepsPromises : SuiteDeeds → Past → Phase → Type 0
KeepsPromises deeds past (Unbegun tool answer) = HasNoToken tool answer
KeepsPromises deeds past (Begun runner (Answering answer)) = Promised deeds runner answer past
KeepsPromises deeds past (Over runner answer) = Promised deeds runner answer past
KeepsPromises deeds past session = ⊤

-- So it is in each lawful history, for the deeds of the tools, with each session that belongs to the
-- folder, however long ago it answered.
abbrev pub AnswersKeepPromises : {F : Type 0} → (F → Moment) → Type 0
AnswersKeepPromises {F} moment = (deeds : SuiteDeeds) → AreOfTools deeds → (folder : F)
    (session : Phase) → Belongs (moment folder) session →
    IfSome (moment folder).told (λ past. Lawful deeds past.first past.history →
    KeepsPromises deeds past session)
