-- What the own events of a session show of the answer that it gives.
use Rattle.std.specs.Prelude.{◌≡◌, ◌⊎◌, ◌++◌, true, ℕ, Option, Some}
use Rattle.acct_text.specs.Bytes.{Bytes}
use Rattle.acct_text.specs.declared.files.Files.{Files}
use Rattle.acct_text.specs.declared.Tab.{Tab}
use Rattle.acct_text.specs.Files.{table_of}
use Rattle.acct_outside.specs.declared.Name.{Name}
use Rattle.acct_outside.specs.declared.Name.TheVariants.{Table, Defs}
use Rattle.acct_outside.specs.Calls.{reads, found_too_large}
use Rattle.acct_outside.specs.Tokens.{Token}
use Rattle.acct_outside.specs.History.{History}
use Rattle.acct_outside.specs.Moment.{Past}
use Rattle.acct_outside.specs.declared.CommitStage.TheVariants.{Before}
use Rattle.account_model.specs.Request.{is_report}
use Rattle.suite_rules.specs.OwnLock.{kept_number}
use Rattle.suite_rules.specs.Knowledge.{Seen, knows_none}
use Rattle.suite_rules.specs.Standing.{Standing, standing}
use Rattle.suite_rules.specs.Invariant.{IsActiveKeeper}
use Rattle.suite_rules.specs.Laws.{IsCleanKeeper}
use Rattle.commit_steps.specs.States.{AreSound, Reader, next_name}
use Rattle.commit_steps.specs.Stands.{HasRead}
use Rattle.suite_answers.specs.declared.cause.Which.TheVariants.{File}
use Rattle.suite_answers.specs.declared.cause.Cause.{Cause}
use Rattle.suite_answers.specs.declared.cause.Cause.TheVariants.{Changed, Same, Refused, RefusedLine, Outrun, TooLarge, NoTable, BadSetting}
use Rattle.suite_answers.specs.declared.answer.Answer.{Answer}
use Rattle.suite_answers.specs.Reasons.{stage_of}
use Rattle.suite_session.specs.Runner.{Runner}
use Rattle.suite_session.specs.Answers.{IsAnswerOn, given_for}
use Rattle.suite_session.specs.Causes.{Met, HasMet, HasYielded, MetChange}
use Rattle.suite_session.specs.Reports.{AnswersShown}

-- the session has seen the six tables and login.defs
pub record HasSeenAll (seen : Seen) (files : Files) (defs : Option Bytes) : Type 0 where
  pub each_table : (table : Tab) → seen.file (Table table) ≡ Some (table_of files table)
  pub settings : seen.file Defs ≡ Some defs

-- the files agree with what the session has seen of them
pub record AgreeWith (seen : Seen) (files : Files) (defs : Option Bytes) : Type 0 where
  pub each_table : (table : Tab) (content : Option Bytes) →
      seen.file (Table table) ≡ Some content → content ≡ table_of files table
  pub settings : (content : Option Bytes) → seen.file Defs ≡ Some content → content ≡ defs

-- The session is or was keeper, knows of no intent, and has seen all: its answer is that on these.
pub record AnswersAll (runner : Runner) (answer : Answer) (standing : Standing) : Type 0 where
  pub number : ℕ
  pub kept : kept_number standing.own ≡ Some number
  pub seen : Seen
  pub clean : standing.knows ≡ knows_none seen
  pub files : Files
  pub defs : Option Bytes
  pub all : HasSeenAll seen files defs
  pub is_answer : IsAnswerOn runner.asked files defs answer

-- The same where it has seen some: its answer is that on all files that agree with these.
pub record AnswersSome (runner : Runner) (answer : Answer) (standing : Standing) : Type 0 where
  pub number : ℕ
  pub kept : kept_number standing.own ≡ Some number
  pub seen : Seen
  pub clean : standing.knows ≡ knows_none seen
  pub is_answer : (files : Files) (defs : Option Bytes) → AgreeWith seen files defs →
      IsAnswerOn runner.asked files defs answer

-- At an earlier moment of the history the session was a clean keeper that had seen all, and its
-- answer is that on these.
pub record AnsweredAll (runner : Runner) (answer : Answer) (history : History) : Type 0 where
  pub newer : History
  pub older : History
  pub parts : history ≡ newer ++ older
  pub number : ℕ
  pub seen : Seen
  pub clean : IsCleanKeeper older runner.token number seen
  pub files : Files
  pub defs : Option Bytes
  pub all : HasSeenAll seen files defs
  pub is_answer : IsAnswerOn runner.asked files defs answer

-- Once the session was keeper and had read the tables before this name, of which none was missing or
-- too large; it found that this one has too many bytes, and its answer says so.
pub record AnswersLarge (runner : Runner) (answer : Answer) (history : History) (name : Name)
    : Type 0 where
  pub reader : Reader
  pub sound : AreSound reader.next reader.files
  pub is_next : name ≡ next_name reader.next
  pub met : Met runner.token (reads (next_name reader.next)) found_too_large
      (HasRead reader) history
  pub says : answer ≡ given_for runner.asked.request.tool (TooLarge (File name))

-- At an earlier moment of the history the session was a keeper that hadn't called its commit, and none
-- of its calls had failed.
pub record WasKeeper (token : Token) (history : History) : Type 0 where
  pub newer : History
  pub older : History
  pub parts : history ≡ newer ++ older
  pub number : ℕ
  pub active : IsActiveKeeper older token number
  pub uncommitted : (standing token older).commit ≡ Before

-- what it has shown without a lock shows the answer
abbrev pub IsReported : Runner → Answer → History → Type 0
IsReported runner answer history = AnswersShown runner answer (standing runner.token history)

-- what it has seen of all files shows the answer, and it was keeper; or it is a report's
abbrev pub ShowsAll : Runner → Answer → History → Type 0
ShowsAll runner answer history =
    (AnswersAll runner answer (standing runner.token history) × WasKeeper runner.token history)
    ⊎ IsReported runner answer history

-- what it has seen of some files shows the answer, and it was keeper; or it is a report's
abbrev pub ShowsSome : Runner → Answer → History → Type 0
ShowsSome runner answer history =
    (AnswersSome runner answer (standing runner.token history) × WasKeeper runner.token history)
    ⊎ IsReported runner answer history

-- what shows that a file is too large: what the tool answers on all files, or that one alone
abbrev pub ShowsLarge : Runner → Answer → History → Name → Type 0
ShowsLarge runner answer history name =
    ShowsAll runner answer history ⊎ AnswersLarge runner answer history name

-- what shows that the session was outrun: it gave up its own lock, or as a report listed another one
abbrev pub ShowsOutrun : Runner → ℕ → ℕ → History → Type 0
ShowsOutrun runner number other history = HasYielded runner.token number other history
    ⊎ ((is_report runner.asked.request ≡ true) × MetChange runner.token number other history)

-- what shows the cause of an answer: what a tool answers on, or what the session met
abbrev pub IsShown : Runner → Answer → History → Cause → Type 0
IsShown runner answer history Changed = AnsweredAll runner answer history
IsShown runner answer history Same = ShowsAll runner answer history
IsShown runner answer history (Refused refusal) = ShowsAll runner answer history
IsShown runner answer history (RefusedLine line refusal) = ShowsAll runner answer history
IsShown runner answer history (BadSetting line) = ShowsAll runner answer history
IsShown runner answer history (NoTable table) = ShowsSome runner answer history
IsShown runner answer history (TooLarge (File (Table table))) =
    ShowsLarge runner answer history (Table table)
IsShown runner answer history (TooLarge (File Defs)) = ShowsLarge runner answer history Defs
IsShown runner answer history (Outrun number other) =
    ShowsOutrun runner number other history
IsShown runner answer history cause = HasMet runner.token history cause

-- the session was asked this, its own commit came as far as the answer's cause says, and its events
-- show the cause
pub record IsDue (runner : Runner) (answer : Answer) (past : Past) : Type 0 where
  pub asked : (standing runner.token past.history).command ≡ Some runner.asked.command
  pub commits : (standing runner.token past.history).commit
      ≡ stage_of answer.outcome.cause
  pub shown : IsShown runner answer past.history answer.outcome.cause
