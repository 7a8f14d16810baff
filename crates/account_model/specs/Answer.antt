-- What a command answers on given files, and the new files that it makes.
use Rattle.std.specs.List.{list_all}
use Rattle.std.specs.Prelude.{map, ℕ, Bool, true, false, not, ◌&&◌, List, [], ◌∷◌, ◌++◌, codes, decimal, length, nat_le, Option, Some, None, is_some, option_map, unwrap_or, Result, Ok, Err, if◌then◌else◌}
use Rattle.account_model.specs.declared.plan_form.PlanForm.{PlanForm}
use Rattle.account_model.specs.declared.tool.Tool.{Tool}
use Rattle.account_model.specs.declared.tool.Tool.TheVariants.{Batch}
use Rattle.acct_text.specs.declared.Tab.{Tab}
use Rattle.acct_text.specs.declared.Tab.TheVariants.{Passwd, Group}
use Rattle.acct_text.specs.declared.files.Files.{Files}
use Rattle.account_model.specs.declared.refusal.Refusal.{Refusal}
use Rattle.account_model.specs.Text.{first_some}
use Rattle.acct_text.specs.Files.{table_of}
use Rattle.account_model.specs.BatchLines.{first_faulty, line_requests}
use Rattle.account_model.specs.Settings.{Setting, settings_of, bad_line}
use Rattle.account_model.specs.Request.{Request}
use Rattle.account_model.specs.Words.{is_batch}
use Rattle.account_model.specs.Action.{Made, outcome_of}
use Rattle.acct_text.specs.Tables.{table_name, all_tables}
use Rattle.account_model.specs.Batch.{LineRefusal, Written, batch, ensures, written_by}
use Rattle.account_model.specs.Messages.{line_refusal_text, message, refusal_text}
use Rattle.account_model.specs.Statuses.{file_status, refusal_status}
use Rattle.account_model.specs.Change.{action_of}
use Rattle.account_model.specs.PlanTexts.{plan_text}
use Rattle.acct_text.specs.Limits.{table_limit}
use Rattle.acct_text.specs.Contents.{same_content}

-- what is wrong with the files
pub data FileProblem : Type 0 where
  -- the table, or login.defs, passes the limit
  TableTooLarge : Tab → FileProblem
  SettingsTooLarge : FileProblem
  -- a table that must stand is absent
  TableAbsent : Tab → FileProblem
  -- the line of login.defs, counted from 1, has a number that its key doesn't allow
  BadSettingAt : ℕ → FileProblem

-- why a command answers as it does
pub data AnswerCause : Type 0 where
  -- the files can't be used, or what would become of them
  Unusable : FileProblem → AnswerCause
  -- the tool refuses
  Refused : Refusal → AnswerCause
  -- the tool of this line of a batch refuses, counted from 1
  RefusedLine : ℕ → Refusal → AnswerCause
  -- all six tables stay as they are
  Same : AnswerCause
  -- they become these
  Changed : Files → AnswerCause

-- the cause, the status, and what goes to the output and to the error stream
pub record Answer : Type 0 where
  pub cause : AnswerCause
  pub status : ℕ
  pub output : List ℕ
  pub error : List ℕ

-- the bytes pass the limit of a table, of login.defs and of the input
abbrev pub passes_limit : List ℕ → Bool
passes_limit bytes = not (nat_le (length bytes) table_limit)

-- passwd and group must stand
abbrev pub must_stand : Tab → Bool
must_stand Passwd = true
must_stand Group = true
must_stand tab = false

-- what is wrong with a table as it was read
abbrev pub table_problem : Tab → Option (List ℕ) → Option FileProblem
table_problem tab None = if must_stand tab then Some (TableAbsent tab) else None
table_problem tab (Some bytes) = if passes_limit bytes then Some (TableTooLarge tab) else None

-- what is wrong with login.defs; an absent one counts as empty
abbrev pub settings_problem : List ℕ → Option FileProblem
settings_problem bytes =
    if passes_limit bytes then Some SettingsTooLarge else option_map BadSettingAt (bad_line bytes)

-- what is wrong with each table, in their order
abbrev pub problems_of_tables : Files → List (Option FileProblem)
problems_of_tables files = map (λ tab. table_problem tab (table_of files tab)) all_tables

-- the first problem of the files, in the order in which they are read
abbrev pub files_problem : Files → Option (List ℕ) → Option FileProblem
files_problem files defs =
    first_some (problems_of_tables files ++ settings_problem (unwrap_or defs []) ∷ [])

-- the new table passes the limit
abbrev pub new_table_problem : Tab → Option (List ℕ) → Option FileProblem
new_table_problem tab None = None
new_table_problem tab (Some bytes) = if passes_limit bytes then Some (TableTooLarge tab) else None

-- the first new table that passes the limit
abbrev pub new_problem : Files → Option FileProblem
new_problem files = first_some (map (λ tab. new_table_problem tab (table_of files tab)) all_tables)

-- whether all six files are equal
abbrev pub files_eq : Files → Files → Bool
files_eq a b = list_all (λ tab. same_content (table_of a tab) (table_of b tab)) all_tables

-- what is printed of it
abbrev pub file_problem_text : FileProblem → List ℕ
file_problem_text (TableTooLarge tab) = table_name tab ++ codes " is too large"
file_problem_text SettingsTooLarge = codes "login.defs is too large"
file_problem_text (TableAbsent tab) = table_name tab ++ codes " does not exist"
file_problem_text (BadSettingAt line) =
    codes "login.defs line " ++ decimal line ++ codes ": bad number"

-- an answer that says why the files can't be used
abbrev pub unusable : Tool → FileProblem → Answer
unusable tool problem = record {
  cause = Unusable problem;
  status = file_status tool;
  output = [];
  error = message tool (file_problem_text problem);
}

-- an answer that says why the tool refuses
abbrev pub refused : Tool → Refusal → Answer
refused tool refusal = record {
  cause = Refused refusal;
  status = refusal_status tool refusal;
  output = [];
  error = message tool (refusal_text tool refusal);
}

-- an answer that says which line of a batch refuses, and why: the status is that of the line's tool
abbrev pub refused_line : LineRefusal → Answer
refused_line line = record {
  cause = RefusedLine line.number line.refusal;
  status = refusal_status line.tool line.refusal;
  output = [];
  error = message Batch (line_refusal_text line.number line.tool line.refusal);
}

-- an answer with what a command leaves
abbrev pub succeeding : AnswerCause → Written → Answer
succeeding cause written = record {
  cause = cause;
  status = written.status;
  output = written.output;
  error = written.error;
}

-- Same where all six files stay, and else Changed
abbrev pub cause_of : Files → Files → AnswerCause
cause_of old new = if files_eq old new then Same else Changed new

-- the answer to what a command leaves, of which a table may pass the limit
abbrev pub answer_written : Tool → Files → Written → Answer
answer_written tool files written = elim (new_problem written.files) [
  | Some problem ↦ unusable tool problem
  | None ↦ succeeding (cause_of files written.files) written
]

-- the answer to a tool's outcome
abbrev pub answer_outcome : Tool → Files → Result Made Refusal → Answer
answer_outcome tool files (Err refusal) = refused tool refusal
answer_outcome tool files (Ok made) = answer_written tool files (written_by tool made)

-- the answer to what becomes of a batch
abbrev pub answer_lines : Files → Result Written LineRefusal → Answer
answer_lines files (Err line) = refused_line line
answer_lines files (Ok written) = answer_written Batch files written

-- the answer on files that can be used: of a batch by its lines, of any other tool by its action
abbrev pub answer_under : Request → List ℕ → ℕ → Files → List Setting → Answer
answer_under request input day files settings =
    if is_batch request.tool
    then answer_lines files (batch (ensures request) (line_requests input) day settings files)
    else answer_outcome request.tool files
    (outcome_of (action_of request input day files settings) files)

-- the answer to a command that is carried out: the first problem of the files, else the refusal, else what
-- is made
abbrev pub command_answer : Request → List ℕ → ℕ → Files → Option (List ℕ) → Answer
command_answer request input day files defs = elim (files_problem files defs) [
  | Some problem ↦ unusable request.tool problem
  | None ↦ answer_under request input day files (settings_of (unwrap_or defs []))
]

-- the new files of an answer that is a change
abbrev pub new_files : AnswerCause → Option Files
new_files (Changed files) = Some files
new_files cause = None

-- the cause of a plan: it changes nothing
abbrev pub planned_cause : AnswerCause → AnswerCause
planned_cause (Changed files) = Same
planned_cause cause = cause

-- the output of a plan: it tells what would become of the files, where these can be used
abbrev pub plan_output : PlanForm → Files → Answer → List ℕ
plan_output form files made = elim made.cause [
  | Unusable problem ↦ made.output
  | cause ↦
      plan_text form files (unwrap_or (new_files cause) files) made.status made.output made.error
]

-- the answer to a plan, by that to its command: the status and the message are the command's
abbrev pub planned : PlanForm → Files → Answer → Answer
planned form files made = record {
  cause = planned_cause made.cause;
  status = made.status;
  output = plan_output form files made;
  error = made.error;
}

-- the answer to a request, by that to its command
abbrev pub answer_asked : Option PlanForm → Files → Answer → Answer
answer_asked None files made = made
answer_asked (Some form) files made = planned form files made

-- The answer to a request: a command is carried out, or planned.
abbrev pub answer : Request → List ℕ → ℕ → Files → Option (List ℕ) → Answer
answer request input day files defs =
    answer_asked request.plan files (command_answer request input day files defs)

-- A batch of which a line that isn't skipped asks for nothing: it is refused as a whole. What is told of
-- it is the fault of that line.
abbrev pub is_faulty_batch : Request → List ℕ → Bool
is_faulty_batch request input = is_some (first_faulty input) && is_batch request.tool

-- the change that the request stands for on these files, or none; a batch with a faulty line has none,
-- whatever its other lines ask for
abbrev pub deed : Request → List ℕ → ℕ → Files → Option (List ℕ) → Option Files
deed request input day files defs =
    if is_faulty_batch request input
    then None
    else new_files (answer request input day files defs).cause
