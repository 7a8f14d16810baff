-- What a report is and shows: a command that only tells what stands, as `pwck -r`, and each plan. It takes
-- no lock and changes nothing, and its answer is that on what it has shown (docs/ARCHITECTURE.md,
-- "Reports").
use Rattle.std.specs.Prelude.{◌≡◌, ⊤, true, ℕ, ◌≤◌, length, Option, Some}
use Rattle.std.specs.List.{AllByRecursion}
use Rattle.acct_text.specs.Contents.{Contents}
use Rattle.acct_text.specs.Bytes.{Bytes}
use Rattle.acct_outside.specs.Tokens.{Token}
use Rattle.acct_outside.specs.Calls.{Call, begins, lists, reads, asks, answers}
use Rattle.acct_outside.specs.History.{History, own_events}
use Rattle.account_model.specs.Request.{is_report}
use Rattle.suite_rules.specs.OwnLock.{lock_uncalled}
use Rattle.suite_rules.specs.Shown.{AreShown, Shown, ShowsIntent}
use Rattle.suite_rules.specs.Standing.{Standing}
use Rattle.suite_answers.specs.declared.answer.Answer.{Answer}
use Rattle.suite_session.specs.Runner.{Runner}
use Rattle.suite_session.specs.Answers.{IsAnswerSeen}
use Rattle.suite_session.specs.Deeds.{files_of}

-- ---- What a report calls

-- the call changes no name of the folder
abbrev pub IsFreeCall : Call → Type 0
IsFreeCall (begins command) = ⊤
IsFreeCall lists = ⊤
IsFreeCall (reads name) = ⊤
IsFreeCall (asks token) = ⊤
IsFreeCall (answers status) = ⊤
IsFreeCall call = ⊥

-- each call of the session changes no name
abbrev pub ChangesNothing : Token → History → Type 0
ChangesNothing token history =
    AllByRecursion (λ event. IsFreeCall event.call) (own_events token history)

-- the most events of a report: its begin, two listings, the read of a lock, a verdict, the reads of the
-- intent, of six tables and of login.defs, and its answer
abbrev pub report_calls : ℕ
report_calls = 14

-- a report has changed no name, and its events are within the bound
pub record RunsFree (token : Token) (history : History) : Type 0 where
  pub free : ChangesNothing token history
  pub within : length (own_events token history) ≤ report_calls

-- ---- What a report answers on

-- The command is a report and took no lock. What it has shown of the intent is absent or reads, and on all
-- files that are as was shown its answer is that on what it sees of them.
pub record AnswersShown (runner : Runner) (answer : Answer) (standing : Standing) : Type 0 where
  pub report : is_report runner.asked.request ≡ true
  pub uncalled : standing.own ≡ lock_uncalled
  pub shown : Shown
  pub shows : standing.shown ≡ Some shown
  pub intent : Option Bytes
  pub shows_intent : ShowsIntent shown intent
  pub is_answer : (contents : Contents) (defs : Option Bytes) →
      AreShown shown intent contents defs →
      IsAnswerSeen runner.asked (files_of contents) defs answer
