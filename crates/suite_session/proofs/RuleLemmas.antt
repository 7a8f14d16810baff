-- Claim: the answer of a session is one that the rules permit (`rule-of`), for the deeds of the
-- tools, also as the streams left it (`rule-left`).
-- Way: a cause that is no tool's answer has a status of its own (`lock-some` and the others); a
-- change comes after the own commit; and what else has status 0 is an answer on files that the
-- session saw.
use Rattle.std.proofs.Common.{◌≡◌, refl, sym, ap, ◌∙◌, ◌==◌, ◌&&◌, not, ℕ, Bool, true, false, inl, inr, Option, Some, Result, Ok, Err, rules}
use Rattle.acct_text.specs.declared.files.Files.{Files}
use Rattle.acct_text.specs.Bytes.{Bytes}
use Rattle.acct_text.specs.Contents.{Contents}
use Rattle.acct_text.specs.Files.{table_of}
use Rattle.acct_outside.specs.declared.streams.SinkFault.{SinkFault}
use Rattle.acct_outside.specs.declared.streams.SinkFault.TheVariants.{Failed, Memory as NoMemory}
use Rattle.acct_outside.specs.History.{History}
use Rattle.account_model.specs.declared.tool.Tool.{Tool}
use Rattle.account_model.specs.declared.tool.Tool.TheVariants.{Useradd}
use Rattle.account_model.specs.Answer.{AnswerCause, Changed as ModelChanged}
use Rattle.account_model.specs.SeenFiles.{seen_files}
use Rattle.account_model.specs.Statuses.{file_status, lock_status, memory_status, output_fault_status, update_status}
use Rattle.suite_rules.specs.Deeds.{SuiteDeeds}
use Rattle.account_model.proofs.DeedLaws.{faultless-batch}
use Rattle.suite_rules.specs.Standing.{Standing, standing}
use Rattle.suite_rules.specs.Rules.{AnswerRule, answers_refusal, answers_changed, answers_same, answers_shown}
use Rattle.suite_answers.specs.declared.cause.Which.TheVariants.{Input, File}
use Rattle.suite_answers.specs.declared.cause.Cause.{Cause}
use Rattle.suite_answers.specs.declared.cause.Cause.TheVariants.{Changed, Same, Refused, RefusedLine, Syntax, BatchSyntax, IntentDamaged, TooLarge, NoTable, BadSetting, DiskFault, InputFault, OutputFault, ClockFault, Memory}
use Rattle.suite_answers.specs.declared.answer.Answer.{Answer}
use Rattle.suite_answers.specs.Reasons.{stage_of}
use Rattle.suite_session.specs.Runner.{IsRead, Runner}
use Rattle.suite_session.specs.Answers.{after_streams, answer_on, cause_of_answer, given_for, IsAnswerOn, Says}
use Rattle.suite_session.specs.Deeds.{AreOfTools, files_of, is_change, is_unchanging, tools_answer_same, tools_shows_same}
use Rattle.suite_session.specs.Due.{AnswersAll, ShowsAll, IsShown}
use Rattle.suite_session.specs.Reports.{AnswersShown}

-- ---- The statuses

-- that of a lock
lock-some : (tool : Tool) → (lock_status tool == 0) ≡ false
lock-some Useradd = refl
lock-some tool = refl

-- of a folder that can't be changed
update-some : (tool : Tool) → (update_status tool == 0) ≡ false
update-some Useradd = refl
update-some tool = refl

-- of a file that can't be used
pub file-some : (tool : Tool) → (file_status tool == 0) ≡ false
file-some Useradd = refl
file-some tool = refl

-- ---- An answer of status 0 that changes nothing

-- the cause of an answer that tells no change is no change
not-change : (cause : AnswerCause) (told : Cause) → cause_of_answer cause ≡ told →
    (told ≡ Changed → ⊥) → is_change cause ≡ false
not-change (ModelChanged files) told is quiet = absurd (quiet (sym is))
not-change cause told is quiet = refl

-- both tests hold
both-hold : (zero changes : Bool) → zero ≡ true → changes ≡ false → (zero && not changes) ≡ true
both-hold true false is none = refl
both-hold true true is none = absurd (search rules)
both-hold false changes is none = absurd (search rules)

module _ (deeds : SuiteDeeds) (ours : AreOfTools deeds) (runner : Runner) (answer : Answer)
    (history : History) (read : IsRead runner.asked)
    (asked : (standing runner.token history).command ≡ Some runner.asked.command) where
  abbrev stood : Standing
  stood = standing runner.token history

  -- the rules permit it, by its being so
  abbrev Permitted : Type 0
  Permitted = AnswerRule deeds stood answer.outcome.status

  -- one with another status may come
  other-status : (status : ℕ) → (status == 0) ≡ false → AnswerRule deeds stood status
  other-status status is = answers_refusal (λ none. search (rules, is, none))

  other-rule : (answer.outcome.status == 0) ≡ false → Permitted
  other-rule is = other-status answer.outcome.status is

  -- the answer on these files has status 0 and changes nothing
  unchanging : (files : Files) (defs : Option Bytes) → IsAnswerOn runner.asked files defs answer →
      (answer.outcome.status == 0) ≡ true → (cause : Cause) → answer.outcome.cause ≡ cause →
      (cause ≡ Changed → ⊥) → is_unchanging (answer_on runner.asked files defs) ≡ true
  unchanging files defs is_answer zero cause is quiet = both-hold _ _
      (ap (λ status. status == 0) (sym is_answer.has_status) ∙ zero)
      (not-change _ cause (sym is_answer.has_cause ∙ is) quiet)

  -- so it is one that leaves these contents the same
  same-on : (contents : Contents) (defs : Option Bytes) →
      IsAnswerOn runner.asked (files_of contents) defs answer →
      (answer.outcome.status == 0) ≡ true → (cause : Cause) → answer.outcome.cause ≡ cause →
      (cause ≡ Changed → ⊥) →
      deeds.answers_same runner.asked.command contents defs ≡ true
  same-on contents defs is_answer zero cause is quiet =
      (λ i. ours.is_same i runner.asked.command contents defs)
      ∙ rw (
        read.request,
        faultless-batch runner.asked.request runner.asked.command.input
            read.lines_ask,
        tools_answer_same,
      )
      (unchanging (files_of contents) defs is_answer zero cause is quiet)

  -- so it may come
  all-rule : (cause : Cause) → answer.outcome.cause ≡ cause → (cause ≡ Changed → ⊥) →
      AnswersAll runner answer stood → (zero : Bool) → (answer.outcome.status == 0) ≡ zero →
      Permitted
  all-rule cause is quiet all false zero = other-rule zero
  all-rule cause is quiet all true zero = answers_same (record {
    seen = all.seen;
    knows = all.clean;
    has_seen = record {
      command = runner.asked.command;
      files = table_of all.files;
      defs = all.defs;
      is_asked = asked;
      each_table = all.all.each_table;
      settings = all.all.settings;
    };
    same = same-on (table_of all.files) all.defs all.is_answer zero cause is quiet;
  })

  -- so may that on what it has shown without a lock
  shown-rule : (cause : Cause) → answer.outcome.cause ≡ cause → (cause ≡ Changed → ⊥) →
      AnswersShown runner answer stood → (zero : Bool) → (answer.outcome.status == 0) ≡ zero →
      Permitted
  shown-rule cause is quiet reported false zero = other-rule zero
  shown-rule cause is quiet reported true zero = answers_shown (record {
    uncalled = reported.uncalled;
    shown = reported.shown;
    shows = reported.shows;
    command = runner.asked.command;
    is_asked = asked;
    intent = reported.intent;
    shows_intent = reported.shows_intent;
    same = λ contents defs agree.
        (λ i. ours.is_shown i runner.asked.command contents defs)
        ∙ rw (
          read.request,
          faultless-batch runner.asked.request runner.asked.command.input
              read.lines_ask,
          tools_shows_same,
        )
        (unchanging (seen_files runner.asked.request (files_of contents)) defs
        (reported.is_answer contents defs agree) zero cause is quiet);
  })

  -- either of them
  either-rule : (cause : Cause) → answer.outcome.cause ≡ cause → (cause ≡ Changed → ⊥) →
      ShowsAll runner answer history → Permitted
  either-rule cause is quiet (inl all) = all-rule cause is quiet all.0 _ refl
  either-rule cause is quiet (inr reported) = shown-rule cause is quiet reported _ refl

  -- one that tells a cause may come, where the cause has a status of its own
  told-rule : (cause : Cause) → answer ≡ given_for runner.asked.request.tool cause →
      ((given_for runner.asked.request.tool cause).outcome.status == 0) ≡ false → Permitted
  told-rule cause is some =
      other-rule (ap (λ (given : Answer). given.outcome.status == 0) is ∙ some)

  -- by the cause
  by-cause : (cause : Cause) → answer.outcome.cause ≡ cause → Says runner.asked answer cause →
      IsShown runner answer history cause → stood.commit ≡ stage_of cause → Permitted
  by-cause Changed is says shown commits = answers_changed commits
  by-cause Same is says shown commits = either-rule Same is (λ bad. cc) shown
  by-cause (Refused refusal) is says shown commits =
      either-rule (Refused refusal) is (λ bad. cc) shown
  by-cause (RefusedLine line refusal) is says shown commits =
      either-rule (RefusedLine line refusal) is (λ bad. cc) shown
  by-cause (Syntax fault) is says shown commits = absurd says
  by-cause (BatchSyntax line fault) is says shown commits = absurd says
  by-cause (IntentDamaged part) is says shown commits =
      told-rule (IntentDamaged part) says (update-some _)
  by-cause (TooLarge Input) is says shown commits = absurd says
  by-cause (TooLarge (File name)) is says shown commits =
      told-rule (TooLarge (File name)) says (file-some _)
  by-cause (NoTable table) is says shown commits = told-rule (NoTable table) says (file-some _)
  by-cause (BadSetting line) is says shown commits =
      told-rule (BadSetting line) says (file-some _)
  by-cause (DiskFault stage) is says shown commits =
      told-rule (DiskFault stage) says (update-some _)
  by-cause InputFault is says shown commits = absurd says
  by-cause (OutputFault stage) is says shown commits = absurd says
  by-cause ClockFault is says shown commits = absurd says
  by-cause (Memory stage) is says shown commits = told-rule (Memory stage) says refl
  by-cause cause is says shown commits = told-rule cause says (lock-some _)

  -- whatever its cause
  pub rule-of : Says runner.asked answer answer.outcome.cause →
      IsShown runner answer history answer.outcome.cause →
      stood.commit ≡ stage_of answer.outcome.cause → Permitted
  rule-of says shown commits = by-cause answer.outcome.cause refl says shown commits

  -- so may the one that the streams left of it
  pub rule-left : (put : Result (Unit {0}) SinkFault) →
      Says runner.asked answer answer.outcome.cause →
      IsShown runner answer history answer.outcome.cause →
      stood.commit ≡ stage_of answer.outcome.cause →
      AnswerRule deeds stood (after_streams put answer).outcome.status
  rule-left (Ok unit) says shown commits = rule-of says shown commits
  rule-left (Err Failed) says shown commits = other-status output_fault_status refl
  rule-left (Err NoMemory) says shown commits = other-status memory_status refl
