-- Claim: a command that ran alone in a folder without login.defs, with nothing to read and on the day of
-- a rehearsal, leaves what the course says (`if-answered`).
--
-- Way: its input is empty (`no-input`), and its day is that of the clock (`on-day`). So its step is by
-- the answer of the course (`step-answer`), whose cause tells whether it changed the tables
-- (`cause-change`).
use Rattle.std.proofs.Common.{◌≡◌, ◌∙◌, refl, sym, ap, ap₂, subst, ℕ, ◌+◌, Bool, true, false, List, [], Option, Some, None, Result, Ok, Err}
use Rattle.std.specs.Prelude.{if◌then◌else◌, unwrap_or, IfOk}
use Rattle.acct_text.specs.Bytes.{Bytes}
use Rattle.acct_text.specs.declared.files.Files.{Files}
use Rattle.acct_outside.specs.declared.Name.TheVariants.{Intent}
use Rattle.acct_outside.specs.Folder.{Folder}
use Rattle.memory_folder.specs.Logged.{folder_after}
use Rattle.acct_outside.specs.Moment.{Past}
use Rattle.acct_outside.specs.Streams.{WhereBytesTold}
use Rattle.account_model.specs.declared.tool.Tool.{Tool}
use Rattle.account_model.specs.declared.word_fault.WordFault.{WordFault}
use Rattle.account_model.specs.Answer.{Answer, AnswerCause, Unusable, TableTooLarge, answer, new_files}
use Rattle.account_model.specs.Options.{Word}
use Rattle.account_model.specs.Request.{Request, is_report}
use Rattle.account_model.specs.Words.{Asks}
use Rattle.account_model.specs.SeenFiles.{seen_files}
use Rattle.account_model.proofs.AsksLaws.{asks_iff_read}
use Rattle.account_model.proofs.SeenLemmas.{sees-all}
use Rattle.account_model.proofs.DeedLaws.{faultless-deed}
use Rattle.suite_answers.specs.declared.cause.Outcome.{Outcome}
use Rattle.suite_session.specs.Answers.{cause_of_answer}
use Rattle.suite_session.specs.Deeds.{is_change}
use Rattle.suite_session.specs.Stands.{IsDecided}
use Rattle.suite_course.specs.Supplies.{AreSupplied, Supplies, TakesAll, reads_input}
use Rattle.rehearsal.specs.Alone.{IsSuppliedStep, answer_seen, defs_at, files_at}
use Rattle.rehearsal.specs.declared.course.Reached.{Reached}
use Rattle.rehearsal.specs.Answered.{is_changed}
use Rattle.rehearsal.specs.Course.{after_read, rehearsal_day}
use Rattle.rehearsal.specs.Images.{IsAnswered}
use Rattle.suite_session.proofs.ReportStays.{report-stays}

-- a source with nothing left gives no input
no-input : (tool : Tool) (before now : Supplies) (input : Bytes) (day : ℕ) →
    before.left ≡ Some [] → AreSupplied tool before now input day → input ≡ []
no-input tool before now input day none supplied = by-tool (reads_input tool) refl
  where
    by-left : (left : Option Bytes) → WhereBytesTold (Some []) left (TakesAll (Ok input)) →
        input ≡ []
    by-left (Some left) takes = sym takes.0
    by-left None takes = absurd takes

    by-tool : (reads : Bool) → reads_input tool ≡ reads → input ≡ []
    by-tool true reads = by-left now.left
        (subst (λ (left : Option Bytes). WhereBytesTold left now.left (TakesAll (Ok input))) none
        (supplied.all_input reads))
    by-tool false reads = supplied.no_input reads

-- the clock gives one day
on-day : (asked : Bool) (day : ℕ) → (if asked then Some rehearsal_day else None) ≡ Some day →
    day ≡ rehearsal_day
on-day true day is = cc
on-day false day is = absurd (cc)

-- an answer is a change exactly where its cause says so
cause-change : (cause : AnswerCause) → is_changed (cause_of_answer cause) ≡ is_change cause
cause-change (Unusable (TableTooLarge table)) = refl
cause-change cause = refl

module _ (words : List Word) (old new : Past) (outcome : Outcome) (before now : Supplies)
    (asked : Bool) (settings : defs_at old ≡ None) (empty : before.left ≡ Some [])
    (gave : now.gave ≡ (if asked then Some rehearsal_day else None)) where
  -- the answer of the course to a request
  abbrev given : Request → Answer
  given request = answer request [] rehearsal_day (files_at old) None

  -- the answer with what came is this
  step-answer : (request : Request) (input : Bytes) (day : ℕ) →
      AreSupplied request.tool before now input day →
      answer request input day (files_at old) (defs_at old) ≡ given request
  step-answer request input day supplied =
      ap₂ (λ (text : Bytes) (one : ℕ). answer request text one (files_at old) (defs_at old))
      (no-input request.tool before now input day empty supplied)
      (on-day asked day (sym gave ∙ supplied.on_day))
      ∙ ap (λ (defs : Option Bytes). answer request [] rehearsal_day (files_at old) defs) settings

  -- the answer on what the command sees is a change where that on the files is one: a report's is none, and
  -- any other command sees all files
  seen-changes : (request : Request) → Asks words request → (input : Bytes) (day : ℕ) →
      is_changed (cause_of_answer (answer request input day (files_at old) (defs_at old)).cause)
      ≡ is_changed (cause_of_answer (answer_seen request input day old).cause)
  seen-changes request asks input day = cases (is_report request) refl
    where
      cases : (reports : Bool) → is_report request ≡ reports →
          is_changed (cause_of_answer (answer request input day (files_at old) (defs_at old)).cause)
          ≡ is_changed (cause_of_answer (answer_seen request input day old).cause)
      cases true is = let seen = seen_files request (files_at old) in
          cause-change (answer request input day (files_at old) (defs_at old)).cause
          ∙ report-stays words request input day (files_at old) (defs_at old) asks is
          ∙ sym (cause-change (answer request input day seen (defs_at old)).cause
          ∙ report-stays words request input day seen (defs_at old) asks is)
      cases false is = ap (λ (files : Files).
          is_changed (cause_of_answer (answer request input day files (defs_at old)).cause))
          (sym (sees-all request is (files_at old)))

  -- a report leaves the folder, and any other command no intent
  no-intent : (request : Request) → (folder_after old).file Intent ≡ None →
      (is_report request ≡ false → (folder_after new).file Intent ≡ None) →
      (is_report request ≡ true → folder_after new ≡ folder_after old) →
      (folder_after new).file Intent ≡ None
  no-intent request none intent report = cases (is_report request) refl
    where
      cases : (reports : Bool) → is_report request ≡ reports → (folder_after new).file Intent ≡ None
      cases true is = ap (λ (folder : Folder). folder.file Intent) (report is) ∙ none
      cases false is = intent is

  -- so it is with what tells whether it changed the tables
  is-answered : (changes : Bool) → IsDecided outcome.cause →
      changes ≡ is_changed outcome.cause →
      (IsDecided outcome.cause → (request : Request) × Asks words request) →
      ((request : Request) → Asks words request → IsDecided outcome.cause →
      IsSuppliedStep request before now old new outcome) →
      IsAnswered words old new changes
  is-answered changes decided is asks steps =
      let request = (asks decided).0 in
      let step = steps request (asks decided).1 decided in
      let same = step-answer request step.0 step.1 step.2 in
      let files = step.3.files
      ∙ ap (λ (made : Option Files). unwrap_or made (files_at old))
      (faultless-deed request step.0 step.1 (files_at old) (defs_at old) step.2.lines_ask)
      ∙ ap (λ (one : Answer). unwrap_or (new_files one.cause) (files_at old)) same in
      let change = sym (cause-change (given request).cause)
      ∙ (ap (λ (one : Answer). is_changed (cause_of_answer one.cause)) (sym same)
      ∙ (seen-changes request (asks decided).1 step.0 step.1
      ∙ (ap is_changed (sym step.3.cause) ∙ sym is))) in
      record {
        intent = λ none. no-intent request none step.3.intent step.3.report;
        leaves = λ changed.
            let was : Reached = record { files = files_at old; changed = changed } in
            ap (λ (read : Result Request WordFault). after_read read was)
            ((asks_iff_read words request).0 (asks decided).1)
            ∙ (λ i. record {
              files = sym files i;
              changed = if change i then changed + 1 else changed;
            });
      }

  -- the claim
  pub if-answered : {E : Type 0} (told : Result Bool E) →
      IfOk told (λ changes. IsDecided outcome.cause × (changes ≡ is_changed outcome.cause)) →
      (IsDecided outcome.cause → (request : Request) × Asks words request) →
      ((request : Request) → Asks words request → IsDecided outcome.cause →
      IsSuppliedStep request before now old new outcome) →
      IfOk told (λ changes. IsAnswered words old new changes)
  if-answered (Ok changes) tells asks steps = is-answered changes tells.0 tells.1 asks steps
  if-answered (Err error) tells asks steps = tt
