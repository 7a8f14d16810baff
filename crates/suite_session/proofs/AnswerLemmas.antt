-- Claims: an answer with which all tables stay comes before the commit, tells of no fault of the
-- folder, says what its cause says and is shown by the files that were seen (`stay-stage`,
-- `stay-quiet`, `stay-says`, `stay-shown`); and so is one that a table is absent (`missed-shown`).
-- Way: a problem of the files is the whole answer (`problem-given`), and a table that is absent is
-- the first problem of all files that agree with what was read before it (`missed-problem`).
use Rattle.std.proofs.Common.{◌≡◌, [], inl, refl, sym, ap, subst, ◌∙◌, ℕ, Bool, true, false, ◌≤◌, length, List, ◌∷◌, Option, Some, None, Result, Ok, Err, if◌then◌else◌, true≢false}
use Rattle.std.specs.Prelude.{IsSome, unwrap_or}
use Rattle.std.proofs.lemmas.Bool.{le-leb}
use Rattle.acct_text.specs.declared.Tab.{Tab}
use Rattle.acct_text.specs.declared.Tab.TheVariants.{Passwd, Shadow, Group, Gshadow, Subuid, Subgid}
use Rattle.acct_text.specs.declared.files.Files.{Files}
use Rattle.acct_text.specs.Bytes.{Bytes}
use Rattle.acct_text.specs.Limits.{table_limit}
use Rattle.acct_text.specs.Files.{table_of}
use Rattle.acct_outside.specs.declared.CommitStage.TheVariants.{Before}
use Rattle.acct_outside.specs.History.{History}
use Rattle.acct_outside.specs.Life.{life, running}
use Rattle.account_model.specs.declared.plan_form.PlanForm.{PlanForm}
use Rattle.account_model.specs.declared.tool.Tool.{Tool}
use Rattle.account_model.specs.declared.tool.Tool.TheVariants.{Batch}
use Rattle.account_model.specs.declared.refusal.Refusal.{Refusal}
use Rattle.account_model.specs.Request.{Request}
use Rattle.account_model.specs.Action.{Made, outcome_of}
use Rattle.account_model.specs.Batch.{LineRefusal, Written, batch, ensures, written_by}
use Rattle.account_model.specs.Change.{action_of}
use Rattle.account_model.specs.BatchLines.{line_requests}
use Rattle.account_model.specs.Settings.{Setting, settings_of}
use Rattle.account_model.specs.Words.{is_batch}
use Rattle.account_model.specs.Text.{first_some}
use Rattle.account_model.specs.Messages.{message}
use Rattle.account_model.specs.Statuses.{file_status}
use Rattle.account_model.specs.Answer.{FileProblem, TableTooLarge, SettingsTooLarge, TableAbsent, BadSettingAt, AnswerCause, Unusable, Same, Changed, Answer as ToolAnswer, answer_asked, command_answer, planned, planned_cause, must_stand, table_problem, files_problem, file_problem_text, new_problem, files_eq, cause_of, unusable, succeeding, answer_lines, answer_outcome, answer_under, answer_written, answer}
use Rattle.suite_rules.specs.OwnLock.{kept_number}
use Rattle.suite_rules.specs.Knowledge.{Knowledge}
use Rattle.suite_rules.specs.Standing.{standing}
use Rattle.lock_steps.specs.States.{Kept}
use Rattle.commit_steps.specs.States.{Inputs, AreSound, read_on}
use Rattle.commit_steps.specs.Stands.{KnowsSome, HasLoaded, HasMissed}
use Rattle.commit_steps.specs.Outcomes.{is_missing}
use Rattle.suite_answers.specs.declared.cause.Cause.{Cause}
use Rattle.suite_answers.specs.declared.cause.Cause.TheVariants.{NoTable as HasNoTable}
use Rattle.suite_answers.specs.declared.answer.Answer.{Answer}
use Rattle.suite_answers.specs.Reasons.{stage_of}
use Rattle.suite_session.specs.Runner.{Question, Runner}
use Rattle.suite_session.specs.Answers.{cause_of_problem, cause_of_answer, answer_on, IsAnswerOn, given_for, Says}
use Rattle.suite_session.specs.Deeds.{is_change}
use Rattle.suite_session.specs.Due.{AgreeWith, AnswersAll, AnswersSome, WasKeeper, ShowsSome, IsShown}
use Rattle.suite_session.specs.Stands.{IsOutside}

-- ---- A problem of the files is the whole answer

-- what is left is Same or Changed
written-usable : (same : Bool) (new : Files) (problem : FileProblem) →
    (if same then Same else Changed new) ≡ Unusable problem → ⊥
written-usable true new problem is = absurd (cc is)
written-usable false new problem is = absurd (cc is)

-- an unusable answer has its problem
unusable-is : (tool : Tool) (found problem : FileProblem) → Unusable found ≡ Unusable problem →
    unusable tool found ≡ unusable tool problem
unusable-is tool found problem is = ap (unusable tool) (cc is)

-- of what is left
written-whole : (tool : Tool) (files : Files) (written : Written) (problem : FileProblem) →
    (answer_written tool files written).cause ≡ Unusable problem →
    answer_written tool files written ≡ unusable tool problem
written-whole tool files written problem = cases (new_problem written.files)
  where
    cases : (found : Option FileProblem) →
        (elim found as (λ one. ToolAnswer) [
          | Some one ↦ unusable tool one
          | None ↦ succeeding (cause_of files written.files) written
        ]).cause ≡ Unusable problem →
        (elim found as (λ one. ToolAnswer) [
          | Some one ↦ unusable tool one
          | None ↦ succeeding (cause_of files written.files) written
        ]) ≡ unusable tool problem
    cases (Some one) is = unusable-is tool one problem is
    cases None is = absurd (written-usable (files_eq files written.files) written.files problem is)

-- of the tool's outcome
outcome-whole : (tool : Tool) (files : Files) (outcome : Result Made Refusal)
    (problem : FileProblem) → (answer_outcome tool files outcome).cause ≡ Unusable problem →
    answer_outcome tool files outcome ≡ unusable tool problem
outcome-whole tool files (Ok made) problem is =
    written-whole tool files (written_by tool made) problem is
outcome-whole tool files (Err refusal) problem is = absurd (cc is)

-- of the lines of a batch
lines-whole : (files : Files) (lines : Result Written LineRefusal) (problem : FileProblem) →
    (answer_lines files lines).cause ≡ Unusable problem →
    answer_lines files lines ≡ unusable Batch problem
lines-whole files (Ok written) problem is = written-whole Batch files written problem is
lines-whole files (Err refused) problem is = absurd (cc is)

-- one tool carries out lines
pub batch-tool : (tool : Tool) → is_batch tool ≡ true → tool ≡ Batch
batch-tool Batch is = refl
batch-tool _ is = absurd (true≢false (sym is))

-- of the answer on files that can be used
under-whole : (request : Request) (input : List ℕ) (day : ℕ) (files : Files)
    (settings : List Setting) (problem : FileProblem) →
    (answer_under request input day files settings).cause ≡ Unusable problem →
    answer_under request input day files settings ≡ unusable request.tool problem
under-whole request input day files settings problem = cases (is_batch request.tool) refl
  where
    lines : Result Written LineRefusal
    lines = batch (ensures request) (line_requests input) day settings files

    outcome : Result Made Refusal
    outcome = outcome_of (action_of request input day files settings) files

    cases : (is_one : Bool) → is_batch request.tool ≡ is_one →
        (if is_one then answer_lines files lines
        else answer_outcome request.tool files outcome).cause ≡ Unusable problem →
        (if is_one then answer_lines files lines
        else answer_outcome request.tool files outcome) ≡ unusable request.tool problem
    cases true is_one is = lines-whole files lines problem is
        ∙ ap (λ (tool : Tool). unusable tool problem) (sym (batch-tool request.tool is_one))
    cases false is_one is = outcome-whole request.tool files outcome problem is

-- of the answer to a command that is carried out
command-whole : (request : Request) (input : List ℕ) (day : ℕ) (files : Files)
    (defs : Option Bytes) (problem : FileProblem) →
    (command_answer request input day files defs).cause ≡ Unusable problem →
    command_answer request input day files defs ≡ unusable request.tool problem
command-whole request input day files defs problem = cases (files_problem files defs)
  where
    settings : List Setting
    settings = settings_of (unwrap_or defs [])

    cases : (found : Option FileProblem) →
        (elim found as (λ one. ToolAnswer) [
          | Some one ↦ unusable request.tool one
          | None ↦ answer_under request input day files settings
        ]).cause ≡ Unusable problem →
        (elim found as (λ one. ToolAnswer) [
          | Some one ↦ unusable request.tool one
          | None ↦ answer_under request input day files settings
        ]) ≡ unusable request.tool problem
    cases (Some one) is = unusable-is request.tool one problem is
    cases None is = under-whole request input day files settings problem is

-- a plan tells it as its command does
asked-unusable : (plan : Option PlanForm) (files : Files) (tool : Tool) (problem : FileProblem) →
    answer_asked plan files (unusable tool problem) ≡ unusable tool problem
asked-unusable None files tool problem = refl
asked-unusable (Some form) files tool problem = refl

-- and no other cause becomes it
planned-unusable : (cause : AnswerCause) (problem : FileProblem) →
    planned_cause cause ≡ Unusable problem → cause ≡ Unusable problem
planned-unusable (Changed new) problem is = absurd (cc is)
planned-unusable cause problem is = is

-- so of the answer, by that to its command
asked-whole : (plan : Option PlanForm) (files : Files) (tool : Tool) (made : ToolAnswer)
    (problem : FileProblem) → (made.cause ≡ Unusable problem → made ≡ unusable tool problem) →
    (answer_asked plan files made).cause ≡ Unusable problem →
    answer_asked plan files made ≡ unusable tool problem
asked-whole None files tool made problem whole is = whole is
asked-whole (Some form) files tool made problem whole is =
    ap (planned form files) (whole (planned-unusable made.cause problem is))

answer-whole : (request : Request) (input : List ℕ) (day : ℕ) (files : Files)
    (defs : Option Bytes) (problem : FileProblem) →
    (answer request input day files defs).cause ≡ Unusable problem →
    answer request input day files defs ≡ unusable request.tool problem
answer-whole request input day files defs problem =
    asked-whole request.plan files request.tool (command_answer request input day files defs) problem
    (command-whole request input day files defs problem)

-- the first problem of the files is the answer
pub problem-answers : (request : Request) (input : List ℕ) (day : ℕ) (files : Files)
    (defs : Option Bytes) (problem : FileProblem) → files_problem files defs ≡ Some problem →
    answer request input day files defs ≡ unusable request.tool problem
problem-answers request input day files defs problem is =
    ap (answer_asked request.plan files) (cases (files_problem files defs) is)
    ∙ asked-unusable request.plan files request.tool problem
  where
    cases : (found : Option FileProblem) → found ≡ Some problem →
        (elim found as (λ one. ToolAnswer) [
          | Some one ↦ unusable request.tool one
          | None ↦ answer_under request input day files (settings_of (unwrap_or defs []))
        ]) ≡ unusable request.tool problem
    cases (Some one) is = ap (unusable request.tool) (cc is)
    cases None is = absurd (cc is)

-- it says what the session says of its cause
module _ (tool : Tool) (given : Answer) where
  whole-says : (cause : Cause) (status : ℕ) (error : Bytes) → given.outcome.cause ≡ cause →
      given.outcome.status ≡ status → given.out ≡ [] → given.err ≡ error →
      given ≡ record {
        outcome = record { status = status; cause = cause };
        out = [];
        err = error;
      }
  whole-says cause status error same_cause same_status same_out same_err = λ i. record {
    outcome = record { status = same_status i; cause = same_cause i };
    out = same_out i;
    err = same_err i;
  }

  problem-says : (problem : FileProblem) → given.outcome.cause ≡ cause_of_problem problem →
      given.outcome.status ≡ file_status tool → given.out ≡ [] →
      given.err ≡ message tool (file_problem_text problem) →
      given ≡ given_for tool (cause_of_problem problem)
  problem-says (TableTooLarge table) same status out err = whole-says _ _ _ same status out err
  problem-says problem same status out err = whole-says _ _ _ same status out err

-- ---- An answer with which all tables stay

module _ (asked : Question) (files : Files) (defs : Option Bytes) (given : Answer)
    (is_answer : IsAnswerOn asked files defs given) where
  -- the problem of the files is all that it says
  problem-given : (problem : FileProblem) →
      (answer_on asked files defs).cause ≡ Unusable problem →
      given ≡ given_for asked.request.tool (cause_of_problem problem)
  problem-given problem is =
      let whole = answer-whole asked.request asked.command.input asked.command.day files defs
      problem is in
      problem-says asked.request.tool given problem
      (is_answer.has_cause ∙ ap cause_of_answer is)
      (is_answer.has_status ∙ ap (λ (one : ToolAnswer). one.status) whole)
      (is_answer.has_out ∙ ap (λ (one : ToolAnswer). one.output) whole)
      (is_answer.has_err ∙ ap (λ (one : ToolAnswer). one.error) whole)

  -- it says what its cause says
  cause-says : (cause : AnswerCause) → (answer_on asked files defs).cause ≡ cause →
      Says asked given (cause_of_answer cause)
  cause-says (Unusable (TableTooLarge table)) is = problem-given (TableTooLarge table) is
  cause-says (Unusable SettingsTooLarge) is = problem-given SettingsTooLarge is
  cause-says (Unusable (TableAbsent table)) is = problem-given (TableAbsent table) is
  cause-says (Unusable (BadSettingAt line)) is = problem-given (BadSettingAt line) is
  cause-says cause is = record { files = files; defs = defs; is_answer = is_answer }

  pub answer-says : Says asked given given.outcome.cause
  answer-says = subst (Says asked given) (sym is_answer.has_cause) (cause-says _ refl)

-- it comes before the commit
pub cause-stage : (cause : AnswerCause) → is_change cause ≡ false →
    stage_of (cause_of_answer cause) ≡ Before
cause-stage (Changed new) stays = absurd (true≢false stays)
cause-stage (Unusable (TableTooLarge table)) stays = refl
cause-stage cause stays = refl

-- an answer to a command that changes nothing tells a cause from before the commit
pub stay-stage : (asked : Question) (files : Files) (defs : Option Bytes) (given : Answer) →
    IsAnswerOn asked files defs given → is_change (answer_on asked files defs).cause ≡ false →
    stage_of given.outcome.cause ≡ Before
stay-stage asked files defs given is_answer stays =
    ap stage_of is_answer.has_cause ∙ cause-stage (answer_on asked files defs).cause stays

-- no tool's answer tells of a fault of the folder
cause-quiet : (cause : AnswerCause) → IsOutside (cause_of_answer cause) → ⊥
cause-quiet (Unusable (TableTooLarge table)) fault = fault
cause-quiet cause fault = fault

-- no answer to a command tells a cause that comes from outside
pub answer-quiet : (asked : Question) (files : Files) (defs : Option Bytes) (given : Answer) →
    IsAnswerOn asked files defs given → IsOutside given.outcome.cause → ⊥
answer-quiet asked files defs given is_answer fault = cause-quiet
    (answer_on asked files defs).cause (subst IsOutside is_answer.has_cause fault)

-- the files that were seen show it
module _ (runner : Runner) (inputs : Inputs) (given : Answer) (history : History)
    (held : HasLoaded inputs (standing runner.token history))
    (runs : life runner.token history ≡ running)
    (is_answer : IsAnswerOn runner.asked inputs.files inputs.defs given) where
  shows-all : AnswersAll runner given (standing runner.token history)
  shows-all = record {
    number = inputs.keeper.number;
    kept = ap kept_number held.keeps.locks.owns;
    seen = held.keeps.knows.seen;
    clean = held.keeps.knows.clean;
    files = inputs.files;
    defs = inputs.defs;
    all = record {
      each_table = held.keeps.knows.each_table;
      settings = held.keeps.knows.settings;
    };
    is_answer = is_answer;
  }

  -- files that agree with all that was seen are those
  shows-some : AnswersSome runner given (standing runner.token history)
  shows-some = record {
    number = inputs.keeper.number;
    kept = ap kept_number held.keeps.locks.owns;
    seen = held.keeps.knows.seen;
    clean = held.keeps.knows.clean;
    is_answer = λ files defs agree.
        subst (λ (one : Option Bytes). IsAnswerOn runner.asked files one given)
        (agree.settings inputs.defs held.keeps.knows.settings)
        (subst (λ (one : Files). IsAnswerOn runner.asked one inputs.defs given)
        (same-files files (λ table. agree.each_table table (table_of inputs.files table)
        (held.keeps.knows.each_table table))) is_answer);
  }
    where
      same-files : (files : Files) →
          ((table : Tab) → table_of inputs.files table ≡ table_of files table) →
          inputs.files ≡ files
      same-files files same = λ i. record {
        passwd = same Passwd i;
        shadow = same Shadow i;
        group = same Group i;
        gshadow = same Gshadow i;
        subuid = same Subuid i;
        subgid = same Subgid i;
      }

  -- it is keeper now
  keeper-now : WasKeeper runner.token history
  keeper-now = record {
    newer = [];
    older = history;
    parts = refl;
    number = inputs.keeper.number;
    active = record { runs = runs; keeps = held.keeps.locks.owns };
    uncommitted = held.uncommitted;
  }

  cause-shown : (cause : AnswerCause) → is_change cause ≡ false →
      IsShown runner given history (cause_of_answer cause)
  cause-shown (Unusable (TableTooLarge table)) stays = inl (inl (shows-all, keeper-now))
  cause-shown (Unusable SettingsTooLarge) stays = inl (inl (shows-all, keeper-now))
  cause-shown (Unusable (TableAbsent table)) stays = inl (shows-some, keeper-now)
  cause-shown (Changed new) stays = absurd (true≢false stays)
  cause-shown cause stays = inl (shows-all, keeper-now)

  pub stay-shown : is_change (answer_on runner.asked inputs.files inputs.defs).cause ≡ false →
      IsShown runner given history given.outcome.cause
  stay-shown stays = subst (IsShown runner given history) (sym is_answer.has_cause)
      (cause-shown _ stays)

-- ---- The first problem

-- an answer that is just a problem is what the session says of its cause
told-problem : (asked : Question) (files : Files) (defs : Option Bytes) (problem : FileProblem) →
    answer_on asked files defs ≡ unusable asked.request.tool problem → (cause : Cause) →
    cause_of_problem problem ≡ cause → (given : Answer) →
    given.outcome.cause ≡ cause → given.outcome.status ≡ file_status asked.request.tool →
    given.out ≡ [] → given.err ≡ message asked.request.tool (file_problem_text problem) →
    IsAnswerOn asked files defs given
told-problem asked files defs problem whole cause of_problem given is status out err = record {
  has_cause = is ∙ (sym of_problem
      ∙ ap (λ (one : ToolAnswer). cause_of_answer one.cause) (sym whole));
  has_status = status ∙ ap (λ (one : ToolAnswer). one.status) (sym whole);
  has_out = out ∙ ap (λ (one : ToolAnswer). one.output) (sym whole);
  has_err = err ∙ ap (λ (one : ToolAnswer). one.error) (sym whole);
}

-- the first problem of files is all that the session says
pub problem-told : (asked : Question) (files : Files) (defs : Option Bytes)
    (problem : FileProblem) → files_problem files defs ≡ Some problem →
    IsAnswerOn asked files defs (given_for asked.request.tool (cause_of_problem problem))
problem-told asked files defs problem is = by-problem problem
    (problem-answers asked.request asked.command.input asked.command.day files defs problem is)
  where
    by-problem : (one : FileProblem) →
        answer_on asked files defs ≡ unusable asked.request.tool one →
        IsAnswerOn asked files defs (given_for asked.request.tool (cause_of_problem one))
    by-problem (TableTooLarge table) whole =
        told-problem asked files defs (TableTooLarge table) whole _ refl _ refl refl refl refl
    by-problem one whole = told-problem asked files defs one whole _ refl _ refl refl refl refl

-- ---- A table that is absent

-- the first problem of a list is its head, where that is one
pub first-is : (found : Option FileProblem) (others : List (Option FileProblem))
    (problem : FileProblem) → found ≡ Some problem → first_some (found ∷ others) ≡ Some problem
first-is found others problem is = ap (λ (one : Option FileProblem). first_some (one ∷ others)) is

-- a head that is none doesn't count
pub first-skips : (found : Option FileProblem) (others : List (Option FileProblem)) →
    found ≡ None → first_some (found ∷ others) ≡ first_some others
first-skips found others is = ap (λ (one : Option FileProblem). first_some (one ∷ others)) is

-- a table within its limit has no problem, where it stands or needn't
pub sound-table : (table : Tab) (content : Option Bytes) →
    (must_stand table ≡ true → IsSome content) →
    ((bytes : Bytes) → content ≡ Some bytes → length bytes ≤ table_limit) →
    table_problem table content ≡ None
sound-table table (Some bytes) stands small =
    rw (le-leb (length bytes) table_limit (small bytes refl)) refl
sound-table table None stands small = absent (must_stand table) refl
  where
    absent : (must : Bool) → must_stand table ≡ must → table_problem table None ≡ None
    absent true must = absurd (true≢false (sym (stands must)))
    absent false must = rw must refl

module _ (keeper : Kept) (files : Files) where
  -- the first problem of files that agree with what was read is that the table is absent
  missed-problem : (table : Tab) → is_missing table None ≡ true → AreSound (Some table) files →
      (knows : Knowledge) →
      (known : KnowsSome (read_on (record { keeper = keeper; files = files; next = Some table })
      table None) knows) →
      (other : Files) (defs : Option Bytes) → AgreeWith known.seen other defs →
      files_problem other defs ≡ Some (TableAbsent table)
  missed-problem Passwd missing sound knows known other defs agree =
      first-is _ _ _ (ap (table_problem Passwd)
      (sym (agree.each_table Passwd None (known.tables Passwd refl))))
  missed-problem Group missing sound knows known other defs agree =
      first-skips _ _ (ap (table_problem Passwd) (sym
      (agree.each_table Passwd files.passwd (known.tables Passwd refl)))
      ∙ sound-table Passwd files.passwd (λ must. sound.passwd refl) (sound.small Passwd))
      ∙ (first-skips _ _ (ap (table_problem Shadow) (sym
      (agree.each_table Shadow files.shadow (known.tables Shadow refl)))
      ∙ sound-table Shadow files.shadow (λ must. absurd (true≢false (sym must)))
      (sound.small Shadow))
      ∙ first-is _ _ _ (ap (table_problem Group) (sym
      (agree.each_table Group None (known.tables Group refl)))))
  missed-problem Shadow missing sound knows known other defs agree =
      absurd (true≢false (sym missing))
  missed-problem Gshadow missing sound knows known other defs agree =
      absurd (true≢false (sym missing))
  missed-problem Subuid missing sound knows known other defs agree =
      absurd (true≢false (sym missing))
  missed-problem Subgid missing sound knows known other defs agree =
      absurd (true≢false (sym missing))

-- so the answer is this on all of them
absent-answers : (asked : Question) (files : Files) (defs : Option Bytes) (table : Tab) →
    files_problem files defs ≡ Some (TableAbsent table) →
    IsAnswerOn asked files defs (given_for asked.request.tool (HasNoTable table))
absent-answers asked files defs table is = problem-told asked files defs (TableAbsent table) is

-- what was read shows it
pub missed-shown : (runner : Runner) (table : Tab) (keeper : Kept) (history : History) →
    is_missing table None ≡ true → HasMissed table keeper (standing runner.token history) →
    life runner.token history ≡ running →
    ShowsSome runner (given_for runner.asked.request.tool (HasNoTable table)) history
missed-shown runner table keeper history missing held runs = inl (
  record {
    number = keeper.number;
    kept = ap kept_number held.is_read.keeps.locks.owns;
    seen = held.is_read.keeps.knows.seen;
    clean = held.is_read.keeps.knows.clean;
    is_answer = λ files defs agree. absent-answers runner.asked files defs table
        (missed-problem keeper held.files table missing held.sound
        (standing runner.token history).knows
        held.is_read.keeps.knows files defs agree);
  },
  record {
    newer = [];
    older = history;
    parts = refl;
    number = keeper.number;
    active = record { runs = runs; keeps = held.is_read.keeps.locks.owns };
    uncommitted = held.is_read.uncommitted;
  },
)
