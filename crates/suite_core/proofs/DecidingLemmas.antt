-- Claim: on files that were loaded, the answer is that of the model (`decides-on`, `decides-setting`).
-- Way: such files have no problem but a bad setting (`loaded-problem`); then the tool's outcome is the
-- decision: the tables that differ are what makes its files new (`none-differs`, `all-same`), and the
-- first of them that passes the limit is what the model finds (`new-among`). So what a command answers
-- and what it decides agree (`command-agrees`), and then so do its plan's (`agreed`).
use Rattle.std.proofs.Common.{◌≡◌, refl, sym, ap, subst, ◌∙◌, [], ◌∷◌, ◌≤◌, ℕ, Bool, true, false, length, List, Option, Some, None, IsSome, IfSome, Result, Ok, Err, arith, rules}
use Rattle.std.specs.Prelude.{map, find, is_some, option_map, if◌then◌else◌, ◌&&◌}
use Rattle.std.specs.Option.{option_or}
use Rattle.std.proofs.lemmas.Bool.{cases_Bool, true≢false}
use Rattle.std.proofs.Common.{inl, inr}
use Rattle.std.specs.List.{list_all}
use Rattle.acct_text.specs.declared.Tab.{Tab}
use Rattle.acct_text.specs.declared.Tab.TheVariants.{Passwd, Shadow, Group, Gshadow, Subuid, Subgid}
use Rattle.acct_text.specs.declared.files.Files.{Files}
use Rattle.acct_outside.proofs.TokenLemmas.{bytes_eq-true}
use Rattle.acct_text.specs.Bytes.{Bytes}
use Rattle.acct_text.specs.declared.new_tables.NewTable.{NewTable}
use Rattle.acct_text.specs.ChangedTables.{changed_among, changed_tables, with_new_table}
use Rattle.acct_text.specs.Contents.{Contents, same_content}
use Rattle.acct_text.specs.Files.{table_of}
use Rattle.acct_text.specs.Limits.{table_limit}
use Rattle.acct_text.specs.Tables.{all_tables, same_table}
use Rattle.intent_file.specs.Intent.{listed_in}
use Rattle.suite_rules.proofs.Changed.{listed-changed}
use Rattle.plan_tool.specs.SeenChanges.{files_with, new_bytes}
use Rattle.account_model.specs.PlanTexts.{plan_text}
use Rattle.account_model.specs.Request.{Request}
use Rattle.account_model.specs.declared.plan_form.PlanForm.{PlanForm}
use Rattle.suite_answers.specs.declared.cause.Cause.TheVariants.{Same as IsSame}
use Rattle.account_model.specs.declared.refusal.Refusal.{Refusal}
use Rattle.account_model.specs.declared.tool.Tool.{Tool}
use Rattle.account_model.specs.Text.{first_some}
use Rattle.account_model.specs.Action.{Action, Made, outcome_of}
use Rattle.account_model.specs.Batch.{LineRefusal, Written, batch, ensures, written_by}
use Rattle.account_model.proofs.BatchLaws.{outcome-made}
use Rattle.account_model.proofs.DeedLaws.{batch-stands, changes-is, files-stand}
use Rattle.account_model.specs.Change.{action_of}
use Rattle.account_model.specs.BatchLines.{line_requests}
use Rattle.account_model.specs.Settings.{Setting, bad_line, settings_of}
use Rattle.account_model.specs.Words.{is_batch}
use Rattle.account_model.specs.Answer.{FileProblem, TableTooLarge, BadSettingAt, Same, Changed, Answer as ToolAnswer, AnswerCause, answer_asked, answer_lines, answer_outcome, answer_under, answer_written, refused, refused_line, succeeding, unusable, passes_limit, must_stand, table_problem, settings_problem, files_problem, new_table_problem, files_eq, cause_of, new_files}
use Rattle.std.specs.Prelude.{IfOk}
use Rattle.std.specs.Result.{result_err}
use Rattle.login_defs.specs.declared.defs.Defs.{Defs}
use Rattle.login_defs.specs.declared.defs.DefsFault.{DefsFault}
use Rattle.login_defs.specs.declared.defs.DefsFault.TheVariants.{BadNumber}
use Rattle.login_defs.specs.Faults.{file_fault}
use Rattle.tool_answers.specs.declared.decision.Decision.{Decision}
use Rattle.tool_answers.specs.declared.decision.Decision.TheVariants.{Change as DecidesChange, Same as DecidesSame, Refuse, RefuseLine}
use Rattle.tool_answers.specs.Decisions.{decision_by, decision_of, decision_of_lines, line_refusal_output, refusal_output, written_decision, written_output}
use Rattle.suite_tools.specs.Deciding.{command_decision}
use Rattle.commit_steps.proofs.WithTables.{makes-change, with-changed}
use Rattle.suite_answers.specs.declared.cause.Cause.TheVariants.{BadSetting}
use Rattle.suite_answers.specs.declared.answer.Answer.{Answer}
use Rattle.suite_session.specs.declared.tools.Decided.{Decided}
use Rattle.suite_session.specs.declared.tools.Decided.TheVariants.{Change as Changes, Stay}
use Rattle.suite_session.specs.Runner.{Question}
use Rattle.suite_session.proofs.AnswerLemmas.{batch-tool}
use Rattle.suite_session.specs.Answers.{answer_on, cause_of_answer, given_for, IsAnswerOn}
use Rattle.suite_session.specs.Deeds.{is_change}
use Rattle.suite_session.specs.Loading.{DecidesOn}
use Rattle.suite_core.specs.Deciding.{bad_line as bad_line_of, decided_by, large_in, large_table, settings_text}

-- what a tool makes has each table where it stood
made-stands :
    (action : Action) (files : Files) (made : Made)
    → outcome_of action files ≡ Ok made
    → (table : Tab)
    → is_some (table_of made.files table) ≡ is_some (table_of files table)
made-stands action files made is table =
    subst (λ (one : Made). is_some (table_of one.files table) ≡ is_some (table_of files table))
    (outcome-made action files made is).makes (files-stand action.script files table)

-- ---- The files that were loaded

-- bytes within the limit don't pass it
within-limit : (bytes : Bytes) → length bytes ≤ table_limit → passes_limit bytes ≡ false
within-limit bytes small = search (rules, small, arith)

-- a table that was loaded has no problem
table-fine : (table : Tab) (content : Option Bytes) → (must_stand table ≡ true → IsSome content) →
    ((bytes : Bytes) → content ≡ Some bytes → length bytes ≤ table_limit) →
    table_problem table content ≡ None
table-fine table (Some bytes) stands small = rw (within-limit bytes (small bytes refl)) refl
table-fine Passwd None stands small = absurd (cc (stands refl))
table-fine Group None stands small = absurd (cc (stands refl))
table-fine Shadow None stands small = refl
table-fine Gshadow None stands small = refl
table-fine Subuid None stands small = refl
table-fine Subgid None stands small = refl

module _ (files : Files) (passwd : IsSome files.passwd) (group : IsSome files.group)
    (small : (table : Tab) (bytes : Bytes) → table_of files table ≡ Some bytes →
    length bytes ≤ table_limit) where
  -- each has none
  each-fine : (table : Tab) → table_problem table (table_of files table) ≡ None
  each-fine Passwd = table-fine Passwd files.passwd (λ must. passwd) (small Passwd)
  each-fine Shadow = table-fine Shadow files.shadow (λ must. absurd (cc must)) (small Shadow)
  each-fine Group = table-fine Group files.group (λ must. group) (small Group)
  each-fine Gshadow = table-fine Gshadow files.gshadow (λ must. absurd (cc must)) (small Gshadow)
  each-fine Subuid = table-fine Subuid files.subuid (λ must. absurd (cc must)) (small Subuid)
  each-fine Subgid = table-fine Subgid files.subgid (λ must. absurd (cc must)) (small Subgid)

  -- so the files have no problem but one of their settings
  pub loaded-problem : (defs : Option Bytes) →
      files_problem files defs ≡ settings_problem (settings_text defs)
  loaded-problem defs = rw (
    each-fine Passwd,
    each-fine Shadow,
    each-fine Group,
    each-fine Gshadow,
    each-fine Subuid,
    each-fine Subgid,
  ) (alone (settings_problem (settings_text defs)))
    where
      alone : (problem : Option FileProblem) → first_some (problem ∷ []) ≡ problem
      alone None = refl
      alone (Some problem) = refl

-- ---- New files

-- the same content is one
same-is : (one other : Option Bytes) → same_content one other ≡ true → one ≡ other
same-is None None same = refl
same-is None (Some bytes) same = absurd (cc same)
same-is (Some bytes) None same = absurd (cc same)
same-is (Some bytes) (Some others) same = ap Some (bytes_eq-true bytes others same)

-- new files, and old ones within the limit of which the same tables stand
module _ (old new : Contents)
    (small : (table : Tab) (bytes : Bytes) → old table ≡ Some bytes → length bytes ≤ table_limit)
    (stands : (table : Tab) → is_some (new table) ≡ is_some (old table)) where
  -- of new tables only those that differ can pass the limit
  new-among : (tables : List Tab) →
      first_some (map (λ table. new_table_problem table (new table)) tables)
      ≡ option_map TableTooLarge (large_table (changed_among tables old new))
  new-among [] = refl
  new-among (table ∷ tables) =
      cases (same_content (old table) (new table)) refl (new table) refl (new-among tables)
    where
      problems : List (Option FileProblem)
      problems = map (λ other. new_table_problem other (new other)) tables

      by-limit : (bytes : Bytes) (passes : Bool) →
          first_some problems
          ≡ option_map TableTooLarge (large_table (changed_among tables old new)) →
          first_some ((if passes then Some (TableTooLarge table) else None) ∷ problems)
          ≡ option_map TableTooLarge (option_map (λ one. one.table)
          (if passes then Some (record { table = table; bytes = bytes })
          else find (λ one. passes_limit one.bytes) (changed_among tables old new)))
      by-limit bytes true rest = refl
      by-limit bytes false rest = rest

      cases : (same : Bool) → same_content (old table) (new table) ≡ same →
          (content : Option Bytes) → new table ≡ content →
          first_some problems
          ≡ option_map TableTooLarge (large_table (changed_among tables old new)) →
          first_some (new_table_problem table content ∷ problems)
          ≡ option_map TableTooLarge (large_table (if same then changed_among tables old new
          else with_new_table table content (changed_among tables old new)))
      cases true same None is rest = rest
      cases true same (Some bytes) is rest = rw (within-limit bytes (small table bytes
          (same-is (old table) (new table) same ∙ is))) rest
      cases false differs None is rest = rest
      cases false differs (Some bytes) is rest = by-limit bytes (passes_limit bytes) rest

  -- where none differs, each is the same
  none-differs : (tables : List Tab) → changed_among tables old new ≡ [] →
      list_all (λ table. same_content (old table) (new table)) tables ≡ true
  none-differs [] none = refl
  none-differs (table ∷ tables) none =
      cases (none-differs tables) (same_content (old table) (new table)) refl (new table) refl none
    where
      absent : (one other : Option Bytes) → is_some other ≡ is_some one → other ≡ None →
          same_content one other ≡ true
      absent None other standing is = rw is refl
      absent (Some bytes) other standing is = absurd (cc (sym standing ∙ ap is_some is))

      cases : (changed_among tables old new ≡ [] →
          list_all (λ other. same_content (old other) (new other)) tables ≡ true) →
          (same : Bool) → same_content (old table) (new table) ≡ same →
          (content : Option Bytes) → new table ≡ content →
          (if same then changed_among tables old new
          else with_new_table table content (changed_among tables old new)) ≡ [] →
          (same && list_all (λ other. same_content (old other) (new other)) tables) ≡ true
      cases rest true same content is empty = rest empty
      cases rest false differs None is empty =
          absurd (cc (sym differs ∙ absent (old table) (new table) (stands table) is))
      cases rest false differs (Some bytes) is empty = absurd (cc empty)

  -- where each is the same, none differs
  all-same : (tables : List Tab) →
      list_all (λ table. same_content (old table) (new table)) tables ≡ true →
      changed_among tables old new ≡ []
  all-same [] same = refl
  all-same (table ∷ tables) same =
      by-test (all-same tables) (same_content (old table) (new table)) same
    where
      by-test : (list_all (λ other. same_content (old other) (new other)) tables ≡ true →
          changed_among tables old new ≡ []) →
          (is_same : Bool) →
          (is_same && list_all (λ other. same_content (old other) (new other)) tables) ≡ true →
          (if is_same then changed_among tables old new
          else with_new_table table (new table) (changed_among tables old new)) ≡ []
      by-test rest true same = rest same
      by-test rest false same = absurd (cc same)

-- ---- The tables of a change

-- what tables hold for one of them is what they list for it
listed-bytes : (tables : List NewTable) (table : Tab) →
    new_bytes tables table ≡ listed_in tables table
listed-bytes [] table = refl
listed-bytes (new ∷ tables) table = elim (cases_Bool (same_table new.table table)) [
  | inl same ↦ rw same refl
  | inr other ↦ rw other (listed-bytes tables table)
]

module _ (old new : Files)
    (stands : (table : Tab) → is_some (table_of new table) ≡ is_some (table_of old table)) where
  -- what the tables that differ hold for a table, or else what stood there, is what will stand there
  new-or-old : (table : Tab) →
      option_or (new_bytes (changed_tables (table_of old) (table_of new)) table)
      (table_of old table)
      ≡ table_of new table
  new-or-old table = ap (λ (bytes : Option Bytes). option_or bytes (table_of old table))
      (listed-bytes (changed_tables (table_of old) (table_of new)) table)
      ∙ listed-changed (table_of old) (table_of new) stands table

  -- so the files with them are the new files
  with-new : files_with (changed_tables (table_of old) (table_of new)) old ≡ new
  with-new = λ i. record {
    passwd = new-or-old Passwd i;
    shadow = new-or-old Shadow i;
    group = new-or-old Group i;
    gshadow = new-or-old Gshadow i;
    subuid = new-or-old Subuid i;
    subgid = new-or-old Subgid i;
  }

-- ---- What a command answers and what it decides

-- what a command that is carried out answers on the files, and what it decides on them
data Agree (tool : Tool) (files : Files) : ToolAnswer → Decision → Type 0 where
  passes : (table : Tab) (decision : Decision) → large_in decision ≡ Some table →
      Agree tool files (unusable tool (TableTooLarge table)) decision
  refuses : (refusal : Refusal) →
      Agree tool files (refused tool refusal) (Refuse refusal (refusal_output tool refusal))
  line_refuses : (line : LineRefusal) →
      Agree tool files (refused_line line)
      (RefuseLine line.number line.refusal (line_refusal_output line))
  stays : (written : Written) →
      Agree tool files (succeeding Same written) (DecidesSame (written_output written))
  changes : (written : Written) (tables : List NewTable) →
      changed_tables (table_of files) (table_of written.files) ≡ tables →
      large_table tables ≡ None → files_with tables files ≡ written.files →
      Agree tool files (succeeding (Changed written.files) written)
      (DecidesChange tables (written_output written))

module _ (files : Files)
    (small : (table : Tab) (bytes : Bytes) → table_of files table ≡ Some bytes →
    length bytes ≤ table_limit) where
  -- what is left where a command isn't refused
  module _ (tool : Tool) (written : Written)
      (stands : (table : Tab) →
      is_some (table_of written.files table) ≡ is_some (table_of files table)) where
    -- the tables that differ once it is done
    abbrev changed : List NewTable
    changed = changed_tables (table_of files) (table_of written.files)

    -- the answer, by the problem of what is left and by whether all tables stay
    abbrev answer_by : Option FileProblem → Bool → ToolAnswer
    answer_by problem same = elim problem as (λ other. ToolAnswer) [
      | Some found ↦ unusable tool found
      | None ↦ succeeding (if same then Same else Changed written.files) written
    ]

    -- by the tables that differ, and the first of them that is large
    by-tables : (tables : List NewTable) (same : Bool) (large : Option Tab) → changed ≡ tables →
        files_eq files written.files ≡ same → large_table tables ≡ large →
        Agree tool files (answer_by (option_map TableTooLarge large) same)
        (decision_by tables (written_output written))
    by-tables [] true large none same is =
        subst (λ (one : Option Tab). Agree tool files
        (answer_by (option_map TableTooLarge one) true) (DecidesSame (written_output written))) is
        (stays written)
    by-tables [] false large none differs is =
        absurd (true≢false (sym (none-differs (table_of files) (table_of written.files) small stands
        all_tables none) ∙ differs))
    by-tables (first ∷ rest) same (Some table) are is large =
        passes table (DecidesChange (first ∷ rest) (written_output written)) large
    by-tables (first ∷ rest) true None are same large =
        absurd (cc (sym are
        ∙ all-same (table_of files) (table_of written.files) small stands all_tables same))
    by-tables (first ∷ rest) false None are differs large =
        changes written (first ∷ rest) are large
        (subst (λ (tables : List NewTable). files_with tables files ≡ written.files) are
        (with-new files written.files stands))

    -- what is left is answered as it is decided
    written-agrees : Agree tool files (answer_written tool files written)
        (decision_by changed (written_output written))
    written-agrees =
        subst (λ (problem : Option FileProblem). Agree tool files
        (answer_by problem (files_eq files written.files))
        (decision_by changed (written_output written)))
        (sym (new-among (table_of files) (table_of written.files) small stands all_tables))
        (by-tables changed (files_eq files written.files) (large_table changed) refl refl refl)

  module _ (request : Request) (input : Bytes) (day : ℕ) (settings : List Setting) where
    -- what the tool comes to by itself
    abbrev outcome : Result Made Refusal
    outcome = outcome_of (action_of request input day files settings) files

    -- what the lines come to
    abbrev lines : Result Written LineRefusal
    lines = batch (ensures request) (line_requests input) day settings files

    tool-agrees : (came : Result Made Refusal) → outcome ≡ came →
        Agree request.tool files (answer_outcome request.tool files came)
        (decision_of request.tool files came)
    tool-agrees (Err refusal) is = refuses refusal
    tool-agrees (Ok made) is = written-agrees request.tool (written_by request.tool made)
        (made-stands (action_of request input day files settings) files made is)

    lines-agree : is_batch request.tool ≡ true → (came : Result Written LineRefusal) →
        lines ≡ came →
        Agree request.tool files (answer_lines files came) (decision_of_lines files came)
    lines-agree is_one (Err line) is = line_refuses line
    lines-agree is_one (Ok written) is =
        subst (λ (one : Tool). Agree request.tool files (answer_written one files written)
        (written_decision files written)) (batch-tool request.tool is_one)
        (written-agrees request.tool written
        (batch-stands (ensures request) (line_requests input) day settings files written is))

    -- on files that can be used a command answers as it decides
    command-agrees : (is_one : Bool) → is_batch request.tool ≡ is_one →
        Agree request.tool files
        (if is_one then answer_lines files lines
        else answer_outcome request.tool files outcome)
        (if is_one then decision_of_lines files lines else decision_of request.tool files outcome)
    command-agrees true is = lines-agree is lines refl
    command-agrees false is = tool-agrees outcome refl

-- ---- The answer

-- a tool's answer, as that of a session
abbrev given_of : ToolAnswer → Answer
given_of told = record {
  outcome = record { status = told.status; cause = cause_of_answer told.cause };
  out = told.output;
  err = told.error;
}

-- what is decided by a tool's answer on the files
abbrev decided_of : Files → AnswerCause → Answer → Decided
decided_of files (Changed new) given =
    Changes (changed_tables (table_of files) (table_of new)) given
decided_of files cause given = Stay given

abbrev decided_on : Files → ToolAnswer → Decided
decided_on files told = decided_of files told.cause (given_of told)

-- what a command decides is what its answer says, carried out or planned
agreed : (tool : Tool) (files : Files) (plan : Option PlanForm) (made : ToolAnswer)
    (decision : Decision) → Agree tool files made decision →
    decided_by tool plan files decision ≡ decided_on files (answer_asked plan files made)
agreed tool files None _ _ (passes table decision large) = rw (large, decided_by) refl
agreed tool files (Some form) _ _ (passes table decision large) = rw (large, decided_by) refl
agreed tool files None _ _ (refuses refusal) = refl
agreed tool files (Some form) _ _ (refuses refusal) = refl
agreed tool files None _ _ (line_refuses line) = refl
agreed tool files (Some form) _ _ (line_refuses line) = refl
agreed tool files None _ _ (stays written) = refl
agreed tool files (Some form) _ _ (stays written) = refl
agreed tool files None _ _ (changes written tables are large new) =
    rw (large, decided_by) (ap (λ (listed : List NewTable). Changes listed (given_of
    (succeeding (Changed written.files) written))) (sym are))
agreed tool files (Some form) _ _ (changes written tables are large new) =
    rw (large, decided_by) (ap (λ (after : Files). Stay (record {
      outcome = record { status = written.status; cause = IsSame };
      out = plan_text form files after written.status written.output written.error;
      err = written.error;
    })) new)

module _ (asked : Question) (files : Files) (defs : Option Bytes) where
  -- what the answer says is decided
  answer-decides : DecidesOn asked files defs (decided_on files (answer_on asked files defs))
  answer-decides = by (answer_on asked files defs).cause refl
    where
      given : Answer
      given = given_of (answer_on asked files defs)

      by : (cause : AnswerCause) → (answer_on asked files defs).cause ≡ cause →
          DecidesOn asked files defs (decided_of files cause given)
      by (Changed new) is =
          let allowed = changes-is asked.request asked.command.input asked.command.day files defs
          new (ap new_files is) in (
            record { has_cause = refl; has_status = refl; has_out = refl; has_err = refl },
            is ∙ ap Changed (sym (with-changed files new allowed)),
            makes-change files new allowed,
          )
      by cause is = (
        record { has_cause = refl; has_status = refl; has_out = refl; has_err = refl },
        ap is_change is,
      )

  -- the answer of the command, by the problem of the files
  by-problem : (problem : Option FileProblem) → files_problem files defs ≡ problem →
      answer_on asked files defs
      ≡ answer_asked asked.request.plan files (elim problem as (λ one. ToolAnswer) [
        | Some found ↦ unusable asked.request.tool found
        | None ↦ answer_under asked.request asked.command.input asked.command.day files
            (settings_of (settings_text defs))
      ])
  by-problem problem is = ap (λ (one : Option FileProblem). answer_asked asked.request.plan files
      (elim one as (λ other. ToolAnswer) [
        | Some found ↦ unusable asked.request.tool found
        | None ↦ answer_under asked.request asked.command.input asked.command.day files
            (settings_of (settings_text defs))
      ])) is

  -- a bad setting is the answer, also to a plan
  setting-told : (plan : Option PlanForm) (line : ℕ) →
      Stay (given_for asked.request.tool (BadSetting line))
      ≡ decided_on files (answer_asked plan files (unusable asked.request.tool (BadSettingAt line)))
  setting-told None line = refl
  setting-told (Some form) line = refl

  pub decides-setting : (line : ℕ) → files_problem files defs ≡ Some (BadSettingAt line) →
      DecidesOn asked files defs (Stay (given_for asked.request.tool (BadSetting line)))
  decides-setting line is = subst (DecidesOn asked files defs)
      (ap (decided_on files) (by-problem (Some (BadSettingAt line)) is)
      ∙ sym (setting-told asked.request.plan line)) answer-decides

  -- the claim
  pub decides-on : files_problem files defs ≡ None →
      ((table : Tab) (bytes : Bytes) → table_of files table ≡ Some bytes →
      length bytes ≤ table_limit) → (decision : Decision) →
      decision
      ≡ command_decision asked.request asked.command.input asked.command.day files
      (settings_of (settings_text defs)) →
      DecidesOn asked files defs
      (decided_by asked.request.tool asked.request.plan files decision)
  decides-on sound small decision is =
      let request = asked.request in
      let settings = settings_of (settings_text defs) in
      let agrees = command-agrees files small request asked.command.input asked.command.day settings
      (is_batch request.tool) refl in
      subst (DecidesOn asked files defs)
      (ap (decided_on files) (by-problem None sound)
      ∙ sym (agreed request.tool files request.plan _ _ agrees)
      ∙ ap (decided_by request.tool request.plan files) (sym is))
      answer-decides

-- ---- The settings that were read

-- login.defs within its limit has no problem but a bad line
pub settings-sound : (defs : Option Bytes) → IfSome defs (λ bytes. length bytes ≤ table_limit) →
    settings_problem (settings_text defs) ≡ option_map BadSettingAt (bad_line (settings_text defs))
settings-sound None small = refl
settings-sound (Some bytes) small = rw (within-limit bytes small) refl

-- where it was read it has no bad line
pub settings-good : {held : Defs} (result : Result Defs DefsFault) (text : Bytes) →
    result_err result ≡ file_fault text → result ≡ Ok held → bad_line text ≡ None
settings-good result text told is = by-line (bad_line text) (sym told ∙ ap result_err is)
  where
    by-line : (line : Option ℕ) → option_map BadNumber line ≡ None → line ≡ None
    by-line None none = refl
    by-line (Some line) none = absurd (cc none)

-- where it wasn't, the fault is its first
pub settings-bad : (result : Result Defs DefsFault) (text : Bytes) (fault : DefsFault) →
    result_err result ≡ file_fault text → result ≡ Err fault →
    bad_line text ≡ Some (bad_line_of fault)
settings-bad result text (BadNumber line) told is =
    by-line (bad_line text) (sym told ∙ ap result_err is)
  where
    by-line : (found : Option ℕ) → option_map BadNumber found ≡ Some (BadNumber line) →
        found ≡ Some line
    by-line None none = absurd (cc none)
    by-line (Some found) same = cc same

-- what follows of a value follows of each that is there
pub if-ok : {X E : Type 0} {P Q : X → Type 0} → ((x : X) → P x → Q x) → (result : Result X E) →
    IfOk result P → IfOk result Q
if-ok follows (Ok x) holds = follows x holds
if-ok follows (Err fault) holds = tt
