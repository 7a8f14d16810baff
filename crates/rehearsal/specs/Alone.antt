-- A command that is alone in its folder: what it answers, and what it makes of the files.
use Rattle.std.specs.Prelude.{◌≡◌, ℕ, true, false, Option, None, unwrap_or}
use Rattle.acct_text.specs.Bytes.{Bytes}
use Rattle.acct_text.specs.declared.files.Files.{Files}
use Rattle.acct_outside.specs.declared.Name.TheVariants.{Intent}
use Rattle.acct_outside.specs.Folder.{settings_file}
use Rattle.acct_outside.specs.History.{after}
use Rattle.acct_outside.specs.Moment.{Past}
use Rattle.account_model.specs.Request.{Request, is_report}
use Rattle.account_model.specs.Answer.{Answer, answer, deed}
use Rattle.account_model.specs.SeenFiles.{seen_files}
use Rattle.suite_rules.specs.Deeds.{SuiteDeeds}
use Rattle.suite_rules.specs.Lawful.{Lawful}
use Rattle.suite_rules.specs.Settled.{settled}
use Rattle.suite_answers.specs.declared.cause.Outcome.{Outcome}
use Rattle.suite_session.specs.Answers.{cause_of_answer}
use Rattle.suite_session.specs.Deeds.{AreOfTools, files_of}
use Rattle.suite_course.specs.Supplies.{Supplies, AreSupplied}

-- the told history keeps the rules, for the deeds of the tools
abbrev pub IsLawful : Past → Type 0
IsLawful past =
    (deeds : SuiteDeeds) × AreOfTools deeds × Lawful deeds past.first past.history

-- the six tables as they are settled
abbrev pub files_at : Past → Files
files_at past = files_of (settled (after past.first past.history))

-- login.defs as it stands
abbrev pub defs_at : Past → Option Bytes
defs_at past = settings_file (after past.first past.history)

-- a lawful history, after which these files are settled, and neither login.defs nor an intent stands
pub record HasFiles (settles : Files) (past : Past) : Type 0 where
  pub lawful : IsLawful past
  pub files : files_at past ≡ settles
  pub settings : defs_at past ≡ None
  pub intent : (after past.first past.history).file Intent ≡ None

-- the request's answer on what it sees of the settled files
abbrev pub answer_seen : Request → Bytes → ℕ → Past → Answer
answer_seen request input day old =
    answer request input day (seen_files request (files_at old)) (defs_at old)

-- The outcome is that of the request's answer, with this input and on this day, on what it sees of the
-- settled files of before, and these became what the answer makes of them. login.defs stays, and no intent stands; but a
-- report leaves the folder as it was.
pub record IsStep (request : Request) (input : Bytes) (day : ℕ) (old new : Past) (outcome : Outcome)
    : Type 0 where
  pub cause : outcome.cause
      ≡ cause_of_answer (answer_seen request input day old).cause
  pub status : outcome.status ≡ (answer_seen request input day old).status
  pub files : files_at new
      ≡ unwrap_or (deed request input day (files_at old) (defs_at old)) (files_at old)
  pub settings : defs_at new ≡ defs_at old
  pub intent : is_report request ≡ false → (after new.first new.history).file Intent ≡ None
  pub report : is_report request ≡ true → after new.first new.history ≡ after old.first old.history

-- so it is with some input, on some day
abbrev pub IsSomeStep : Request → Past → Past → Outcome → Type 0
IsSomeStep request old new outcome =
    (input : Bytes) × (day : ℕ) × IsStep request input day old new outcome

-- so it is with the input and on the day that came
abbrev pub IsSuppliedStep : Request → Supplies → Supplies → Past → Past → Outcome → Type 0
IsSuppliedStep request before now old new outcome = (input : Bytes) × (day : ℕ)
    × AreSupplied request.tool before now input day × IsStep request input day old new outcome
