-- Claims: what a call of a turn writes is due (`turn-writes`, `turn-writes-then`), a backup as the session is
-- to change each table that its change lists (`is-to-change`); and so it was with each call of a history, as
-- its session goes on (`grows-wrote`) from its begin (`own-wrote`).
-- Way: others' events leave the standing; a listed table differs; the rest goes event by event.
use Rattle.std.proofs.Common.{◌≡◌, ◌≢◌, refl, sym, ap, subst, ◌∙◌, ℕ, Bool, true, false, cond, if◌then◌else◌, List, [], ◌∷◌, slice_get, Option, Some, None, option_map, Result, Ok, Err, All, true≢false}
use Rattle.std.specs.List.{AllByRecursion}
use Rattle.std.proofs.lemmas.List.Elements.{All-nil, All-cons}
use Rattle.std.proofs.lemmas.Slice.Eq.{bytes_eq-Decides}
use Rattle.acct_text.specs.declared.Tab.{Tab}
use Rattle.acct_text.specs.Bytes.{Bytes}
use Rattle.acct_text.specs.Contents.{Contents, same_content}
use Rattle.acct_text.specs.Tables.{all_tables}
use Rattle.acct_text.specs.Files.{table_of}
use Rattle.acct_outside.specs.declared.Name.TheVariants.{Backup}
use Rattle.acct_outside.specs.Tokens.{Token}
use Rattle.acct_outside.specs.Calls.{Call, Command, answers, appends, renames, writes}
use Rattle.acct_outside.specs.History.{Event, History, is_of, own_events}
use Rattle.acct_outside.specs.Others.{Admission, ByOthers}
use Rattle.acct_outside.specs.Moment.{Past}
use Rattle.acct_outside.specs.Contract.{NeverAdmits}
use Rattle.acct_outside.specs.declared.CommitStage.TheVariants.{Before}
use Rattle.account_model.specs.Answer.{AnswerCause, deed, new_files as new_of}
use Rattle.account_model.specs.declared.word_fault.WordFault.{WordFault}
use Rattle.account_model.specs.Request.{Request}
use Rattle.account_model.proofs.DeedLaws.{faultless-deed}
use Rattle.intent_file.specs.Intent.{NewTable}
use Rattle.acct_text.specs.ChangedTables.{with_new_table, changed_among}
use Rattle.suite_rules.specs.Deeds.{SuiteDeeds}
use Rattle.suite_rules.specs.Standing.{Standing, standing}
use Rattle.suite_rules.specs.Steps.{Stands}
use Rattle.suite_rules.proofs.StepLemmas.{IsNoAnswer, stayed}
use Rattle.suite_rules.proofs.Changed.{content-differs}
use Rattle.suite_rules.proofs.Parts.{StandsWhere}
use Rattle.commit_steps.specs.States.{Change, old_files, new_files, changed}
use Rattle.commit_steps.specs.Stands.{IsDeed, KnowsInputs}
use Rattle.commit_steps.proofs.TablesLemmas.{at-place}
use Rattle.suite_answers.specs.declared.answer.Answer.{Answer}
use Rattle.suite_session.specs.Runner.{Runner}
use Rattle.suite_session.specs.Moment.{Runs}
use Rattle.suite_session.specs.Deeds.{AreOfTools, files_of, tools_deed}
use Rattle.suite_session.specs.Writing.{IsToChange, WritesDue, WroteDue}
use Rattle.suite_session.specs.Grows.{Grows, none_new, others_new, own_new}
use Rattle.suite_session.specs.Stands.{IsOfChange}

-- ---- The calls of a turn

-- A turn doesn't answer, and what it writes is due of each session that stands so.
abbrev pub IsTurnCall : (Standing → Type 0) → Call → Type 0
IsTurnCall Stood (answers status) = ⊥
IsTurnCall Stood (writes name piece) =
    (stood : Standing) → Stood stood → WritesDue stood (writes name piece)
IsTurnCall Stood (appends name piece) =
    (stood : Standing) → Stood stood → WritesDue stood (appends name piece)
IsTurnCall Stood (renames from (Backup table)) =
    (stood : Standing) → Stood stood → IsToChange stood table
IsTurnCall Stood call = Unit {0}

-- it is no answer
pub turn-no-answer : (Stood : Standing → Type 0) (call : Call) → IsTurnCall Stood call →
    IsNoAnswer call
turn-no-answer Stood (answers status) is = is
turn-no-answer Stood call is = tt

-- and writes what is due
turn-writes : (Stood : Standing → Type 0) (call : Call) → IsTurnCall Stood call →
    (stood : Standing) → Stood stood → WritesDue stood call
turn-writes Stood (writes name piece) is stood holds = is stood holds
turn-writes Stood (appends name piece) is stood holds = is stood holds
turn-writes Stood (renames from (Backup table)) is stood holds = is stood holds
turn-writes Stood call is stood holds = tt

-- also after whatever events of others
pub turn-writes-then : (admits : Admission) (token : Token) (Stood : Standing → Type 0)
    (call : Call) → IsTurnCall Stood call → (told : Option Past) →
    StandsWhere admits told token Stood → (past : Past) → told ≡ Some past → (between : History) →
    ByOthers admits past.history between → WritesDue (standing token between) call
turn-writes-then admits token Stood call of_turn told stands past is between others =
    let stood : Stands admits token Stood past =
    subst (λ (one : Option Past). StandsWhere admits one token Stood) is stands in
    turn-writes Stood call of_turn (standing token between)
    (subst Stood (sym (stayed admits token stood.own past.history between others).same_standing)
    stood.holds)

-- ---- The tables of a change

module _ (old new : Contents) where
  -- the content of the table differs
  abbrev Differs : NewTable → Type 0
  Differs next = new next.table ≢ old next.table

  -- one more that differs, before others that do
  more-differ : (table : Tab) → new table ≢ old table → (content : Option Bytes)
      (news : List NewTable) → All Differs news → All Differs (with_new_table table content news)
  more-differ table differs None news all = all
  more-differ table differs (Some bytes) news all =
      All-cons Differs (record { table = table; bytes = bytes }) news differs all

  -- each that is listed differs
  all-differ : (tables : List Tab) → All Differs (changed_among tables old new)
  all-differ [] = All-nil Differs
  all-differ (table ∷ tables) =
      cases (same_content (old table) (new table)) refl (all-differ tables)
    where
      cases : (same : Bool) → same_content (old table) (new table) ≡ same →
          All Differs (changed_among tables old new) →
          All Differs (if same then changed_among tables old new
          else with_new_table table (new table) (changed_among tables old new))
      cases true is rest = rest
      cases false is rest = more-differ table (content-differs (old table) (new table) is)
          (new table) (changed_among tables old new) rest

module _ (runner : Runner) (answer : Answer) (change : Change)
    (of_change : IsOfChange runner change answer) where
  -- the new files are the tools' deed of what it was asked, on the inputs
  pub made-deed : tools_deed runner.asked.command (old_files change) change.inputs.defs
      ≡ Some (new_files change)
  made-deed = ap (λ (read : Result Request WordFault). elim read [
    | Err fault ↦ None
    | Ok request ↦ option_map table_of
        (deed request runner.asked.command.input runner.asked.command.day
        (files_of (old_files change)) change.inputs.defs)
  ])
      of_change.is_read.request
      ∙ ap (option_map table_of) (faultless-deed runner.asked.request runner.asked.command.input
      runner.asked.command.day (files_of (old_files change)) change.inputs.defs
      of_change.is_read.lines_ask)
      ∙ ap (λ (cause : AnswerCause). option_map table_of (new_of cause)) of_change.is_change

  -- so they are the deed of a session that was asked that
  pub change-deed : (deeds : SuiteDeeds) → AreOfTools deeds → (stood : Standing) →
      stood.command ≡ Some runner.asked.command → IsDeed deeds change stood
  change-deed deeds ours stood asked = record {
    command = runner.asked.command;
    is_asked = asked;
    is_deed = ap (λ (deed : Command → Contents → Option Bytes → Option Contents).
        deed runner.asked.command (old_files change) change.inputs.defs) ours.is_deed ∙ made-deed;
  }

  -- a session that knows the inputs is to change each table that is listed
  pub is-to-change : (place : ℕ) (next : NewTable) →
      slice_get (changed change) place ≡ Some next → (stood : Standing) →
      Runs runner Before (λ one. KnowsInputs change.inputs one.knows) stood →
      IsToChange stood next.table
  is-to-change place next is stood runs = record {
    uncommitted = runs.commits;
    seen = runs.holds.seen;
    clean = runs.holds.clean;
    has_seen = record {
      command = runner.asked.command;
      files = old_files change;
      defs = change.inputs.defs;
      is_asked = runs.asked;
      each_table = runs.holds.each_table;
      settings = runs.holds.settings;
    };
    new = new_files change;
    is_deed = made-deed;
    differs = at-place (Differs (old_files change) (new_files change)) (changed change) place next
        is (all-differ (old_files change) (new_files change) all_tables);
  }

-- ---- Histories

-- what the event writes is due, however its session stands
abbrev pub IsAlwaysDue : Event → Type 0
IsAlwaysDue event = (stood : Standing) → WritesDue stood event.call

-- a session of such events alone has written what was due
pub own-wrote : (token : Token) (history : History) →
    AllByRecursion IsAlwaysDue (own_events token history) → WroteDue token history
own-wrote token [] none = tt
own-wrote token (event ∷ history) none =
    cases (is_of token event) refl none (own-wrote token history)
  where
    cases : (own : Bool) → is_of token event ≡ own →
        AllByRecursion IsAlwaysDue
        (cond own (event ∷ own_events token history) (own_events token history)) →
        (AllByRecursion IsAlwaysDue (own_events token history) → WroteDue token history) →
        WroteDue token (event ∷ history)
    cases true is none rest = (λ same. none.0 (standing token history), rest none.1)
    cases false is none rest = (
      λ same. absurd (true≢false (sym ((bytes_eq-Decides event.token token).1 same) ∙ is)),
      rest none,
    )

-- what has grown keeps to it, where no event of the session comes from others
pub grows-wrote : (admits : Admission) (token : Token) (old : History) →
    NeverAdmits admits token → (most : ℕ) (new : History) → Grows admits token old most new →
    WroteDue token old → WroteDue token new
grows-wrote admits token old own most _ (none_new _) wrote = wrote
grows-wrote admits token old own most _ (others_new _ event new grown admitted) wrote = (
  λ same. absurd (own new event admitted same),
  grows-wrote admits token old own most new grown wrote,
)
grows-wrote admits token old own _ _ (own_new most event new grown is due) wrote =
    (λ same. due, grows-wrote admits token old own most new grown wrote)
