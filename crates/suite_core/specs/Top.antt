-- The clauses of the top call, each over what its folder, streams, source and clock tell before it and
-- after it, so that a call that makes it has them as its own.
use Rattle.std.specs.Prelude.{◌≡◌, ◌⊎◌, ℕ, false, List, Some}
use Rattle.acct_text.specs.Bytes.{Bytes}
use Rattle.acct_outside.specs.Moment.{Moment}
use Rattle.account_model.specs.declared.word_fault.WordFault.{WordFault}
use Rattle.account_model.specs.Options.{Word}
use Rattle.account_model.specs.PlanWords.{command_words}
use Rattle.account_model.specs.Request.{Request}
use Rattle.account_model.specs.Words.{Asks, fault}
use Rattle.suite_answers.specs.declared.cause.Outcome.{Outcome}
use Rattle.suite_answers.specs.Answers.{told_words}
use Rattle.suite_session.specs.Runner.{question}
use Rattle.suite_course.specs.Streams.{Streams}
use Rattle.suite_course.specs.Supplies.{AreSupplied, Supplies, reads_input}
use Rattle.suite_course.specs.Top.{EndsEarly, EndsUnsupplied, Ran, named_tool}

-- Words with a fault call nothing but the streams, which get the answer to the first fault.
abbrev pub RefusesFaulty : List Word → (FolderStays InputStays ClockStays : Type 0) →
    Streams → Streams → Outcome → Type 0
RefusesFaulty words FolderStays InputStays ClockStays was holds outcome =
    (found : WordFault) → fault words ≡ Some found → FolderStays × InputStays × ClockStays
    × EndsEarly (named_tool words) (told_words (command_words words) found) was holds outcome

-- Words that ask for something run, with the input and the day that came; or without one of these the
-- folder isn't called.
abbrev pub RunsAsked : List Word → (FolderStays : Type 0) → Supplies → Supplies → Moment → Moment →
    Streams → Streams → Outcome → Type 0
RunsAsked words FolderStays first last before now was holds outcome =
    (request : Request) → Asks words request →
    (FolderStays × EndsUnsupplied request.tool first last was holds outcome)
    ⊎ ((input : Bytes) × (day : ℕ) × AreSupplied request.tool first last input day
    × Ran (question words request input day) before now was holds outcome)

-- A tool that reads no input takes none.
abbrev pub TakesNone : List Word → (InputStays : Type 0) → Type 0
TakesNone words InputStays = (request : Request) → Asks words request →
    reads_input request.tool ≡ false → InputStays
