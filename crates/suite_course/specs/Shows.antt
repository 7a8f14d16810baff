-- What a lawful history shows of an answer: the place of a tool's answer, what else the session met, and
-- how far its commit came (docs/ARCHITECTURE.md, "How sessions share the folder").
use Rattle.std.specs.Prelude.{◌≡◌, ◌⊎◌, ◌∷◌, ◌++◌, [], ℕ, ◌+◌, ◌<◌, true, false, Some}
use Rattle.acct_text.specs.declared.Tab.{Tab}
use Rattle.acct_outside.specs.declared.Name.TheVariants.{Table, Defs}
use Rattle.acct_outside.specs.declared.CommitStage.{CommitStage}
use Rattle.acct_outside.specs.declared.CommitStage.TheVariants.{Before, Committed}
use Rattle.acct_outside.specs.Tokens.{Token}
use Rattle.acct_outside.specs.Folder.{Folder, settings_file}
use Rattle.acct_outside.specs.History.{History, after}
use Rattle.account_model.specs.Request.{is_report}
use Rattle.suite_rules.specs.Deeds.{SuiteDeeds}
use Rattle.suite_rules.specs.OwnLock.{kept_number, lock_uncalled}
use Rattle.suite_rules.specs.Shown.{Shown}
use Rattle.suite_rules.specs.Standing.{Standing, standing}
use Rattle.suite_rules.specs.Settled.{settled}
use Rattle.suite_rules.specs.Committed.{committed, commitments_of, place, folded}
use Rattle.suite_answers.specs.declared.cause.Which.TheVariants.{File}
use Rattle.suite_answers.specs.declared.cause.Cause.{Cause}
use Rattle.suite_answers.specs.declared.cause.Cause.TheVariants.{Changed, Same, Refused, RefusedLine, Outrun, TooLarge, NoTable, BadSetting}
use Rattle.suite_answers.specs.declared.answer.Answer.{Answer}
use Rattle.suite_answers.specs.Reasons.{stage_of}
use Rattle.suite_session.specs.Runner.{Question}
use Rattle.suite_session.specs.Reports.{RunsFree}
use Rattle.suite_session.specs.Answers.{IsAnswerSeen}
use Rattle.suite_session.specs.Causes.{HasMet, MetChange, MetGreater}
use Rattle.suite_session.specs.Deeds.{files_of}
use Rattle.suite_session.specs.Stands.{IsMemory}
use Rattle.suite_course.specs.Alone.{AnswersAlone}

-- after each part of the history the settled files are the fold of what was committed by then
abbrev pub IsAlwaysSettled : SuiteDeeds → Folder → History → Type 0
IsAlwaysSettled deeds first new = (newer older : History) → new ≡ newer ++ older → (table : Tab) →
    settled (after first older) table ≡ folded deeds first (committed older) table

-- the answer is that on the fold of the place of a number, under the first login.defs, as the command sees
-- them
abbrev pub IsAnswerAt : SuiteDeeds → Question → Folder → History → ℕ → Answer → Type 0
IsAnswerAt deeds asked first history number given = IsAnswerSeen asked
    (files_of (folded deeds first (place number (committed history)))) (settings_file first) given

-- the session took no lock, and the number is one above the greatest lock that it listed twice in a row,
-- and had judged
pub record HasShownBelow (standing : Standing) (number : ℕ) : Type 0 where
  pub uncalled : standing.own ≡ lock_uncalled
  pub shown : Shown
  pub shows : standing.shown ≡ Some shown
  pub next : number ≡ shown.number + 1

-- The number whose place an answer has: of a report the one above the greatest lock of its two listings, so
-- that the place is all that was committed under that or lower ones; of any other command that of the
-- lock which it kept.
pub record HasNumber (asked : Question) (standing : Standing) (number : ℕ) : Type 0 where
  pub report : is_report asked.request ≡ true → HasShownBelow standing number
  pub keeper : is_report asked.request ≡ false → kept_number standing.own ≡ Some number

-- the session has committed once, and its answer is that at its place, with status 0
pub record HasChanged (deeds : SuiteDeeds) (asked : Question) (first : Folder) (history : History)
    (token : Token) (given : Answer) : Type 0 where
  pub number : ℕ
  pub once : commitments_of token (committed history)
      ≡ record { token = token; number = number; command = asked.command } ∷ []
  pub at_place : IsAnswerAt deeds asked first history number given
  pub succeeds : given.outcome.status ≡ 0
  pub alone : AnswersAlone deeds asked first history token given

-- the session has committed nothing, and its answer is that at the place of its number
pub record HasStayed (deeds : SuiteDeeds) (asked : Question) (first : Folder) (history : History)
    (token : Token) (given : Answer) : Type 0 where
  pub number : ℕ
  pub has_number : HasNumber asked (standing token history) number
  pub none : commitments_of token (committed history) ≡ []
  pub at_place : IsAnswerAt deeds asked first history number given
  pub alone : AnswersAlone deeds asked first history token given

-- A greater lock came: a report had judged the first, and its second listing showed the other as the
-- greatest; any other command listed the other behind its own create, and removed its own lock.
pub record WasOutrun (asked : Question) (token : Token) (number other : ℕ) (history : History)
    : Type 0 where
  pub above : number < other
  pub report : is_report asked.request ≡ true → MetChange token number other history
  pub keeper : is_report asked.request ≡ false → MetGreater token number other history

-- what a lawful history shows of an answer with this cause: a tool's answer is that at its place, and
-- of every other cause what the session met
abbrev pub IsShownAt : SuiteDeeds → Question → Folder → History → Token → Answer → Cause → Type 0
IsShownAt deeds asked first history token given Changed =
    HasChanged deeds asked first history token given
IsShownAt deeds asked first history token given Same =
    HasStayed deeds asked first history token given
IsShownAt deeds asked first history token given (Refused refusal) =
    HasStayed deeds asked first history token given
IsShownAt deeds asked first history token given (RefusedLine line refusal) =
    HasStayed deeds asked first history token given
IsShownAt deeds asked first history token given (NoTable table) =
    HasStayed deeds asked first history token given
IsShownAt deeds asked first history token given (BadSetting line) =
    HasStayed deeds asked first history token given
IsShownAt deeds asked first history token given (TooLarge (File (Table table))) =
    HasStayed deeds asked first history token given
IsShownAt deeds asked first history token given (TooLarge (File Defs)) =
    HasStayed deeds asked first history token given
IsShownAt deeds asked first history token given (Outrun number other) =
    WasOutrun asked token number other history
IsShownAt deeds asked first history token given cause = HasMet token history cause

-- How far the session came with its own commit, by the stage that an answer tells. Where that wasn't
-- called it has committed nothing, and where it was done it has committed once, what it was asked. Where
-- it failed it may have.
pub record ReachesStage (asked : Question) (history : History) (token : Token) (stage : CommitStage)
    : Type 0 where
  pub commits : (standing token history).commit ≡ stage
  pub before : stage ≡ Before → commitments_of token (committed history) ≡ []
  pub done : stage ≡ Committed → (number : ℕ) × (commitments_of token (committed history)
      ≡ record { token = token; number = number; command = asked.command } ∷ [])

-- what a lawful history shows of an answer: the commit came as far as its cause says, and what the
-- cause tells is so
pub record Shows (deeds : SuiteDeeds) (asked : Question) (first : Folder) (history : History)
    (token : Token) (given : Answer) : Type 0 where
  pub stage : ReachesStage asked history token (stage_of given.outcome.cause)
  pub shown : IsShownAt deeds asked first history token given given.outcome.cause

-- ---- A report

-- The session of a report changed no name, and made few events. Where its second listing showed another
-- lock as the greatest, its answer tells just these two, or that there was no memory to tell it.
pub record ReportsFreely (token : Token) (cause : Cause) (history : History) : Type 0 where
  pub runs : RunsFree token history
  pub outrun : (number other : ℕ) → MetChange token number other history →
      (cause ≡ Outrun number other) ⊎ IsMemory cause

-- so it is with that of a command which is one
abbrev pub IfReportsFreely : Question → Token → Cause → History → Type 0
IfReportsFreely asked token cause history =
    is_report asked.request ≡ true → ReportsFreely token cause history
