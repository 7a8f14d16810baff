-- What a report answers once a second listing has confirmed what it has shown (docs/ARCHITECTURE.md,
-- "Reports").
use Rattle.std.specs.Prelude.{◌≡◌, ◌⊎◌, false, ◌||◌, ◌&&◌, Bool, find, if◌then◌else◌, Option, Some, None, is_none}
use Rattle.acct_text.specs.declared.Tab.{Tab}
use Rattle.acct_text.specs.Files.{table_of}
use Rattle.acct_text.specs.Tables.{all_tables}
use Rattle.acct_outside.specs.declared.Name.TheVariants.{Table, Defs, Intent}
use Rattle.acct_outside.specs.declared.CommitStage.TheVariants.{Before}
use Rattle.account_model.specs.Answer.{FileProblem, TableTooLarge, SettingsTooLarge, TableAbsent, must_stand}
use Rattle.lock_steps.specs.declared.gathered.IntentFound.{IntentFound}
use Rattle.lock_steps.specs.declared.gathered.IntentFound.TheVariants.{TooLarge, Damaged}
use Rattle.lock_steps.specs.Gathered.{Gathered, is_large}
use Rattle.lock_steps.specs.Watching.{Report}
use Rattle.suite_answers.specs.declared.cause.Which.TheVariants.{File}
use Rattle.suite_answers.specs.declared.cause.Cause.TheVariants.{IntentDamaged, TooLarge as IsTooLarge}
use Rattle.suite_session.specs.declared.state.State.{State}
use Rattle.suite_session.specs.declared.state.State.TheVariants.{Answering}
use Rattle.suite_session.specs.Runner.{Runner}
use Rattle.suite_session.specs.Answers.{answer_on, cause_of_problem, IsAnswerOn, memory_answer}
use Rattle.suite_session.specs.Deeds.{is_change}
use Rattle.suite_session.specs.Stands.{AnswersWith}

-- the table can't be used: it is too large, or it must stand and is absent
abbrev pub is_unusable : Gathered → Tab → Bool
is_unusable gathered table = is_large gathered (Table table)
    || (must_stand table && is_none (table_of gathered.files table))

-- what is wrong with such a table
abbrev pub bad_table : Gathered → Tab → FileProblem
bad_table gathered table =
    if is_large gathered (Table table) then TableTooLarge table else TableAbsent table

-- what is wrong with login.defs, before its lines are read
abbrev pub bad_settings : Gathered → Option FileProblem
bad_settings gathered = if is_large gathered Defs then Some SettingsTooLarge else None

-- what is wrong with the first file that can't be used, of the tables in their order and login.defs
abbrev pub first_problem : Gathered → Option FileProblem
first_problem gathered = elim (find (is_unusable gathered) all_tables) [
  | Some table ↦ Some (bad_table gathered table)
  | None ↦ bad_settings gathered
]

-- the state answers with what the tool decides on the files, which changes nothing; or there was no memory
abbrev pub AnswersOn : Runner → Gathered → State → Type 0
AnswersOn runner gathered (Answering answer) =
    (IsAnswerOn runner.asked gathered.files gathered.defs answer
    × (is_change (answer_on runner.asked gathered.files gathered.defs).cause ≡ false))
    ⊎ (answer ≡ memory_answer Before)
AnswersOn runner gathered state = ⊥

-- it answers with the problem of a file, and else so
abbrev pub AnswersFiles : Runner → Gathered → Option FileProblem → State → Type 0
AnswersFiles runner gathered (Some problem) state =
    AnswersWith runner.asked.request.tool (cause_of_problem problem) state
AnswersFiles runner gathered None state = AnswersOn runner gathered state

-- it answers that the intent can't be read, and else on the files
abbrev pub AnswersIntent : Runner → Gathered → IntentFound → State → Type 0
AnswersIntent runner gathered TooLarge state =
    AnswersWith runner.asked.request.tool (IsTooLarge (File Intent)) state
AnswersIntent runner gathered (Damaged part) state =
    AnswersWith runner.asked.request.tool (IntentDamaged part) state
AnswersIntent runner gathered found state =
    AnswersFiles runner gathered (first_problem gathered) state

-- the state after the listing that confirms what was shown
abbrev pub ReportsTo : Runner → Report → State → Type 0
ReportsTo runner report state = AnswersIntent runner report.gathered report.gathered.intent state
