-- Claims: a read of the inputs leads to the next read, or to what the tool decides on them
-- (`loads-stands`), and one that leads no further to the way out or to the answer of a fault
-- (`ended-stands`).
-- Way: what the read shows (proofs/LoadingLemmas) names the keeper and what comes next; the typed
-- step gives the standing, of which the answer is due (proofs/AnswerLemmas).
use Rattle.std.proofs.Common.{◌≡◌, refl, sym, ap, subst, ◌∙◌, false, true, inr, List, Option, Some, None, IfSome, Result, Ok, Err}
use Rattle.acct_text.specs.declared.Tab.{Tab}
use Rattle.acct_text.specs.Bytes.{Bytes}
use Rattle.acct_outside.specs.declared.StageFault.{StageFault}
use Rattle.acct_outside.specs.declared.FolderFault.{FolderFault}
use Rattle.acct_outside.specs.declared.FolderFault.TheVariants.{Failed}
use Rattle.acct_outside.specs.declared.CommitStage.TheVariants.{Before}
use Rattle.acct_outside.specs.declared.Name.{Name}
use Rattle.acct_outside.specs.Calls.{Found, found_absent, found_bytes, found_too_large, reads}
use Rattle.acct_outside.specs.History.{History}
use Rattle.account_model.specs.declared.tool.Tool.{Tool}
use Rattle.account_model.specs.Answer.{Changed as ChangedTo, new_files}
use Rattle.account_model.proofs.DeedLaws.{changes-is}
use Rattle.acct_text.specs.declared.files.Files.{Files}
use Rattle.acct_text.specs.Contents.{IsChange}
use Rattle.acct_text.specs.Files.{table_of}
use Rattle.suite_rules.specs.Steps.{StandsIn, MakesCall}
use Rattle.suite_rules.specs.Outcomes.{before_commit}
use Rattle.suite_rules.proofs.StepLemmas.{stands-weaker}
use Rattle.lock_steps.specs.States.{Kept}
use Rattle.lock_steps.specs.Stands.{Keeps, KnowsAnything, KnowsNone}
use Rattle.commit_steps.specs.declared.Loading.{Loading as Loaded}
use Rattle.commit_steps.specs.declared.Loading.TheVariants.{More, Done}
use Rattle.commit_steps.specs.declared.LoadEnd.{LoadEnd}
use Rattle.commit_steps.specs.declared.LoadEnd.TheVariants.{Fault, TooLarge, NoTable}
use Rattle.commit_steps.specs.States.{intended, AreSound, Reader, Inputs, Walker, change_by, next_name, walk_of}
use Rattle.intent_file.specs.Intent.{NewTable, ReadsIntent, intent_text}
use Rattle.commit_steps.specs.Stands.{BacksUp, HasRead, HasLoaded, HasMissed, StandsLoading, StandsEnded}
use Rattle.commit_steps.specs.Outcomes.{Loads, LoadsContent, is_missing}
use Rattle.commit_steps.proofs.BackupLemmas.{starts-backing}
use Rattle.suite_answers.specs.declared.cause.Which.TheVariants.{File}
use Rattle.suite_answers.specs.declared.cause.Cause.TheVariants.{TooLarge as IsTooLarge, NoTable as HasNoTable, Memory}
use Rattle.suite_answers.specs.declared.answer.Answer.{Answer as FinalAnswer}
use Rattle.suite_session.specs.declared.state.State.{State}
use Rattle.suite_session.specs.declared.state.State.TheVariants.{BackingUp, Unlocking, Answering}
use Rattle.suite_session.specs.declared.tools.Decided.{Decided}
use Rattle.suite_session.specs.declared.tools.Decided.TheVariants.{Change as Changes}
use Rattle.suite_session.specs.Runner.{IsRead, Question, Runner}
use Rattle.acct_outside.specs.Moment.{Past, Moment}
use Rattle.acct_outside.specs.declared.CommitStage.{CommitStage}
use Rattle.suite_rules.proofs.Parts.{StandsWhere}
use Rattle.suite_session.specs.Moment.{Runs, At}
use Rattle.suite_session.specs.Answers.{answer_on, IsAnswerOn, given_for}
use Rattle.suite_session.specs.Deeds.{is_change}
use Rattle.suite_session.specs.Due.{ShowsLarge, IsShown, IsDue}
use Rattle.suite_session.specs.Loading.{DecidesOn, DecidesTo, EndsLoad, LoadsTo}
use Rattle.suite_session.specs.Locking.{cause_of_fault}
use Rattle.suite_session.specs.Stands.{IsOfChange, IsOutside, LeavesWith, StandsAs, StandsChanging, StandsUnlocking, TellsOutside}
use Rattle.suite_session.specs.Causes.{Met}
use Rattle.suite_session.proofs.CauseLemmas.{answers-fault, fault-failed, fault-plain, fault-stage, leaves-fault}
use Rattle.suite_session.proofs.LeavingLemmas.{clean-known, fault-stopped}
use Rattle.suite_session.proofs.MeetingLemmas.{MeetsBy, fault-ends, quiet-on, reads-quiet}
use Rattle.suite_session.proofs.TurnLemmas.{ended, goes-on, got, answers-turn, memory-met}
use Rattle.suite_session.proofs.LoadingLemmas.{more-shown, done-keeper, missing-shown, large-shown, fault-before}
use Rattle.suite_session.proofs.AnswerLemmas.{answer-says, answer-quiet, stay-stage, stay-shown, missed-shown}

-- ---- What the read shows

-- what was read comes to no fault
no-fault : (reader : Reader) (next : Option Tab) (content : Option Bytes) (fault : StageFault) →
    LoadsContent reader next content (Err (Fault fault)) → ⊥
no-fault reader None content fault shown = shown
no-fault reader (Some table) content fault shown = shown

-- nothing is to be told of a read that was done
pub load-on : (reader : Reader) (answer : Result Found FolderFault) (loading : Loaded) →
    Loads reader answer (Ok loading) → (state : State) →
    MeetsBy (reads (next_name reader.next)) answer (HasRead reader) state
load-on reader (Ok found) loading shown state =
    quiet-on (reads (next_name reader.next)) (reads-quiet reader.next) (Ok found) found
    (HasRead reader) state refl
load-on reader (Err fault) loading shown state = absurd shown

-- one that came to a fault has that fault
pub load-came : (reader : Reader) (answer : Result Found FolderFault) (fault : StageFault) →
    Loads reader answer (Err (Fault fault)) → answer ≡ Err fault.fault
load-came reader (Err came) fault shown =
    ap Err (sym (ap (λ (one : StageFault). one.fault) shown))
load-came reader (Ok found_absent) fault shown =
    absurd (no-fault reader reader.next None fault shown)
load-came reader (Ok (found_bytes bytes)) fault shown =
    absurd (no-fault reader reader.next (Some bytes) fault shown)
load-came reader (Ok found_too_large) fault shown = absurd shown

-- so it is to tell that
pub load-ends : (tool : Tool) (reader : Reader) (answer : Result Found FolderFault) (end : LoadEnd)
    (state : State) → Loads reader answer (Err end) → EndsLoad tool end state →
    MeetsBy (reads (next_name reader.next)) answer (HasRead reader) state
load-ends tool reader (Ok found) end state shown ends =
    quiet-on (reads (next_name reader.next)) (reads-quiet reader.next) (Ok found) found
    (HasRead reader) state refl
load-ends tool reader (Err fault) (Fault came) state shown ends =
    fault-ends tool came.stage came.fault state ends (reads (next_name reader.next)) (Err fault)
    (HasRead reader) (load-came reader (Err fault) came shown)
load-ends tool reader answer end state shown ends = absurd shown

-- ---- The standing after a read

-- what shows that the next file is too large shows the cause
shows-next : (runner : Runner) (answer : FinalAnswer) (history : History) (next : Option Tab) →
    ShowsLarge runner answer history (next_name next) →
    IsShown runner answer history (IsTooLarge (File (next_name next)))
shows-next runner answer history None shows = shows
shows-next runner answer history (Some table) shows = shows

module _ (before now : Moment) (runner : Runner) (reader : Reader)
    (stands : At before runner Before (HasRead reader))
    (same : reader.keeper.token ≡ runner.token) where
  module _ (inputs : Inputs) (token : inputs.keeper.token ≡ runner.token)
      (loaded : At now runner Before (HasLoaded inputs)) where
    -- a change is backed up
    backs-stands : (walker : Walker) (answer : FinalAnswer) →
        DecidesTo runner inputs (BackingUp walker answer) →
        StandsChanging now runner walker.change (BacksUp walker) answer
    backs-stands walker answer decided = record {
      same = ap (λ (one : Inputs). one.keeper.token) decided.1 ∙ token;
      stands = stands-weaker now.admits runner.token
          (Runs runner Before (HasLoaded inputs))
          (Runs runner Before (BacksUp walker))
          (λ stood runs. record {
            holds = subst (λ (one : Walker). BacksUp one stood) (sym decided.0)
                (starts-backing walker.change stood
                (subst (λ (one : Inputs). HasLoaded one stood) (sym decided.1) runs.holds));
            asked = runs.asked;
            commits = runs.commits;
          })
          now.told loaded;
      of_change = decided.2;
    }

    -- an answer with which all tables stay is due
    stay-due : (answer : FinalAnswer) →
        IsAnswerOn runner.asked inputs.files inputs.defs answer →
        is_change (answer_on runner.asked inputs.files inputs.defs).cause ≡ false →
        (told : Option Past) →
        StandsWhere now.admits told runner.token (Runs runner Before (HasLoaded inputs)) →
        IfSome told (IsDue runner answer)
    stay-due answer is_answer stays None stood = tt
    stay-due answer is_answer stays (Some past) stood = record {
      asked = stood.holds.asked;
      commits = stood.holds.commits
          ∙ sym (stay-stage runner.asked inputs.files inputs.defs answer is_answer stays);
      shown = stay-shown runner inputs answer past.history stood.holds.holds
          stood.runs is_answer stays;
    }

    -- it is given once the lock is free
    stays-stands : (keeper : Kept) (answer : FinalAnswer) →
        DecidesTo runner inputs (Unlocking keeper answer) →
        StandsUnlocking now runner keeper answer
    stays-stands keeper answer decided = record {
      same = ap (λ (one : Kept). one.token) decided.0 ∙ token;
      stands = subst (λ (one : CommitStage). At now runner one (Keeps keeper KnowsAnything))
          (sym (stay-stage runner.asked inputs.files inputs.defs answer decided.1 decided.2))
          (stands-weaker now.admits runner.token
          (Runs runner Before (HasLoaded inputs))
          (Runs runner Before (Keeps keeper KnowsAnything))
          (λ stood runs. record {
            holds = subst (λ (one : Kept). Keeps one KnowsAnything stood) (sym decided.0)
                (record { locks = runs.holds.keeps.locks; knows = tt });
            asked = runs.asked;
            commits = runs.commits;
          })
          now.told loaded);
      clean = clean-known runner.token answer.outcome.cause now.admits
          (Runs runner Before (HasLoaded inputs))
          (λ stood runs. (runs.holds.keeps.knows.seen, runs.holds.keeps.knows.clean))
          now.told loaded;
      quiet = answer-quiet runner.asked inputs.files inputs.defs answer decided.1;
      gives = record {
        says = answer-says runner.asked inputs.files inputs.defs answer decided.1;
        due = stay-due answer decided.1 decided.2 now.told loaded;
      };
    }

  module _ (loading : Loaded)
      (made : MakesCall before now reader.keeper.token
      (reads (next_name reader.next)) (λ answer. Loads reader answer (Ok loading))) where
    -- after the last read the tool decided
    decided-stands : (inputs : Inputs) (state : State) → DecidesTo runner inputs state →
        inputs.keeper.token ≡ runner.token →
        StandsIn now reader.keeper.token (HasLoaded inputs) →
        StandsAs now runner state
    decided-stands inputs (BackingUp walker answer) decided token next =
        backs-stands inputs token
        (goes-on before now runner Before (HasRead reader) stands reader.keeper.token same
        (reads (next_name reader.next)) tt _ (λ result stood. refl) made (HasLoaded inputs) next)
        walker answer decided
    decided-stands inputs (Unlocking keeper answer) decided token next =
        stays-stands inputs token
        (goes-on before now runner Before (HasRead reader) stands reader.keeper.token same
        (reads (next_name reader.next)) tt _ (λ result stood. refl) made (HasLoaded inputs) next)
        keeper answer decided
    decided-stands inputs (Answering answer) decided token next =
        answers-turn before now runner Before (HasRead reader) stands reader.keeper.token
        same (reads (next_name reader.next)) tt _ (λ result stood. refl) made (Memory Before)
        (Answering answer) (inr decided) tt (memory-met now runner Before)
        (λ goes_on. absurd (goes_on tt)) refl
    decided-stands inputs state decided token next = absurd decided

  -- after a read that leads on
  pub loads-stands : (loading : Loaded) (state : State) → LoadsTo runner loading state →
      MakesCall before now reader.keeper.token
      (reads (next_name reader.next)) (λ answer. Loads reader answer (Ok loading)) →
      StandsLoading now reader.keeper.token loading → StandsAs now runner state
  loads-stands (More more) state leads made next =
      subst (StandsAs now runner) (sym leads) (
        ap (λ (one : Reader). one.keeper.token)
            (more-shown reader more made.answer made.shown).1.2 ∙ same,
        goes-on before now runner Before (HasRead reader) stands reader.keeper.token same
            (reads (next_name reader.next)) tt _ (λ result stood. refl) made (HasRead more) next,
      )
  loads-stands (Done inputs) state leads made next =
      decided-stands (Done inputs) made inputs state leads
      (ap (λ (one : Kept). one.token) (done-keeper reader inputs made.answer made.shown) ∙ same)
      next

  -- the answer that a table is absent is due
  missed-due : (table : Tab) (keeper : Kept) → is_missing table None ≡ true →
      (told : Option Past) →
      StandsWhere now.admits told runner.token
      (Runs runner Before (HasMissed table keeper)) →
      IfSome told (IsDue runner (given_for runner.asked.request.tool (HasNoTable table)))
  missed-due table keeper missing None stood = tt
  missed-due table keeper missing (Some past) stood = record {
    asked = stood.holds.asked;
    commits = stood.holds.commits;
    shown = missed-shown runner table keeper past.history missing stood.holds.holds stood.runs;
  }

  missed-stands : (table : Tab) (keeper : Kept) → is_missing table None ≡ true →
      keeper.token ≡ runner.token →
      At now runner Before (HasMissed table keeper) →
      StandsUnlocking now runner keeper (given_for runner.asked.request.tool (HasNoTable table))
  missed-stands table keeper missing token missed = record {
    same = token;
    stands = stands-weaker now.admits runner.token
        (Runs runner Before (HasMissed table keeper))
        (Runs runner Before (Keeps keeper KnowsAnything))
        (λ stood runs. record {
          holds = record { locks = runs.holds.is_read.keeps.locks; knows = tt };
          asked = runs.asked;
          commits = runs.commits;
        })
        now.told missed;
    clean = clean-known runner.token (HasNoTable table) now.admits
        (Runs runner Before (HasMissed table keeper))
        (λ stood runs.
        (runs.holds.is_read.keeps.knows.seen, runs.holds.is_read.keeps.knows.clean))
        now.told missed;
    quiet = λ fault. fault;
    gives = record { says = refl; due = missed-due table keeper missing now.told missed };
  }

  -- after one that finds no table
  missing-stands : (table : Tab) (kept : Kept) (state : State) →
      LeavesWith runner.asked.request.tool kept (HasNoTable table) state →
      MakesCall before now reader.keeper.token
      (reads (next_name reader.next)) (λ answer. Loads reader answer (Err (NoTable table kept))) →
      StandsIn now reader.keeper.token (HasMissed table kept) →
      StandsAs now runner state
  missing-stands table kept (Unlocking keeper answer) leaves made next =
      let shown = missing-shown reader table kept made.answer made.shown in
      subst (λ (one : Kept). StandsUnlocking now runner one answer) (sym leaves.0)
      (subst (λ (one : FinalAnswer). StandsUnlocking now runner kept one) (sym leaves.1)
      (missed-stands table kept shown.0 (ap (λ (one : Kept). one.token) shown.1 ∙ same)
      (goes-on before now runner Before (HasRead reader) stands reader.keeper.token same
      (reads (next_name reader.next)) tt _ (λ result stood. refl) made (HasMissed table kept)
      next)))
  missing-stands table kept (Answering answer) leaves made next =
      answers-turn before now runner Before (HasRead reader) stands reader.keeper.token
      same (reads (next_name reader.next)) tt _ (λ result stood. refl) made (Memory Before)
      (Answering answer) (inr leaves) tt (memory-met now runner Before)
      (λ goes_on. absurd (goes_on tt)) refl
  missing-stands table kept state leaves made next = absurd leaves

  -- the answer that the next file is too large is due
  large-due : (kept : Kept) → AreSound reader.next reader.files → (told : Option Past) →
      StandsWhere now.admits told runner.token (Runs runner Before (Keeps kept KnowsNone)) →
      IfSome told (λ past. Met runner.token (reads (next_name reader.next)) found_too_large
      (HasRead reader) past.history) →
      IfSome told (IsDue runner
      (given_for runner.asked.request.tool (IsTooLarge (File (next_name reader.next)))))
  large-due kept sound None stood met = tt
  large-due kept sound (Some past) stood met = record {
    asked = stood.holds.asked;
    commits = stood.holds.commits;
    shown = shows-next runner _ past.history reader.next
        (inr (record { reader = reader; sound = sound; is_next = refl; met = met; says = refl }));
  }

  -- after one that finds too much
  large-stands : (name : Name) (kept : Kept) (state : State) → AreSound reader.next reader.files →
      LeavesWith runner.asked.request.tool kept (IsTooLarge (File (next_name reader.next))) state →
      MakesCall before now reader.keeper.token
      (reads (next_name reader.next)) (λ answer. Loads reader answer (Err (TooLarge name kept))) →
      StandsIn now reader.keeper.token (Keeps kept KnowsNone) →
      StandsAs now runner state
  large-stands name kept (Unlocking keeper answer) sound leaves made next =
      let shown = large-shown reader name kept made.answer made.shown in
      let stood = goes-on before now runner Before (HasRead reader) stands
      reader.keeper.token same (reads (next_name reader.next)) tt _ (λ result stood. refl) made
      (Keeps kept KnowsNone) next in
      subst (λ (one : Kept). StandsUnlocking now runner one answer) (sym leaves.0)
      (subst (λ (one : FinalAnswer). StandsUnlocking now runner kept one) (sym leaves.1) (record {
        same = ap (λ (one : Kept). one.token) shown.2 ∙ same;
        stands = stands-weaker now.admits runner.token
            (Runs runner Before (Keeps kept KnowsNone))
            (Runs runner Before (Keeps kept KnowsAnything))
            (λ standing runs. record {
              holds = record { locks = runs.holds.locks; knows = tt };
              asked = runs.asked;
              commits = runs.commits;
            })
            now.told stood;
        clean = clean-known runner.token (IsTooLarge (File (next_name reader.next))) now.admits
            (Runs runner Before (Keeps kept KnowsNone))
            (λ standing runs. runs.holds.knows) now.told stood;
        quiet = λ fault. fault;
        gives = record {
          says = refl;
          due = large-due kept sound now.told stood
              (got before now runner Before (HasRead reader) stands reader.keeper.token same
              (reads (next_name reader.next)) tt _ (λ result stood. refl) made found_too_large
              shown.0);
        };
      }))
  large-stands name kept (Answering answer) sound leaves made next =
      answers-turn before now runner Before (HasRead reader) stands reader.keeper.token
      same (reads (next_name reader.next)) tt _ (λ result stood. refl) made (Memory Before)
      (Answering answer) (inr leaves) tt (memory-met now runner Before)
      (λ goes_on. absurd (goes_on tt)) refl
  large-stands name kept state sound leaves made next = absurd leaves

  -- after one that leads no further
  pub ended-stands : (end : LoadEnd) (state : State) → AreSound reader.next reader.files →
      EndsLoad runner.asked.request.tool end state →
      MakesCall before now reader.keeper.token
      (reads (next_name reader.next)) (λ answer. Loads reader answer (Err end)) →
      StandsEnded now reader.keeper.token end → StandsAs now runner state
  ended-stands (Fault fault) state sound ends made next =
      answers-turn before now runner Before (HasRead reader) stands reader.keeper.token
      same (reads (next_name reader.next)) tt _ (λ result stood. refl) made
      (cause_of_fault fault.stage fault.fault) state ends (fault-plain fault.stage fault.fault)
      (ended before now runner Before (HasRead reader) stands reader.keeper.token same
      (reads (next_name reader.next)) tt _ (λ result stood. refl) made fault.stage fault.fault
      (load-came reader made.answer fault made.shown))
      (λ goes_on. absurd (goes_on (fault-stopped fault.stage fault.fault)))
      (sym (fault-stage fault.stage fault.fault
      ∙ fault-before reader fault made.answer made.shown))
  ended-stands (TooLarge name kept) state sound ends made next =
      large-stands name kept state sound
      (subst (λ (one : Name).
      LeavesWith runner.asked.request.tool kept (IsTooLarge (File one)) state)
      (large-shown reader name kept made.answer made.shown).1 ends) made next
  ended-stands (NoTable table kept) state sound ends made next =
      missing-stands table kept state ends made next

-- ---- Faults of the folder

-- one that leads on tells of none
decided-quiet : (runner : Runner) (inputs : Inputs) (state : State) →
    DecidesTo runner inputs state → TellsOutside state → ⊥
decided-quiet runner inputs (Answering answer) decided fault =
    subst IsOutside (ap (λ (one : FinalAnswer). one.outcome.cause) decided) fault
decided-quiet runner inputs (BackingUp walker answer) decided fault = fault
decided-quiet runner inputs (Unlocking keeper answer) decided fault = fault
decided-quiet runner inputs state decided fault = absurd decided

-- no state behind a read tells a cause from outside
pub loads-quiet : (runner : Runner) (loading : Loaded) (state : State) →
    LoadsTo runner loading state → TellsOutside state → ⊥
loads-quiet runner (More more) state leads fault = subst TellsOutside leads fault
loads-quiet runner (Done inputs) state leads fault = decided-quiet runner inputs state leads fault

-- one that leads no further tells of one only where the folder failed
pub ended-failed : (tool : Tool) (end : LoadEnd) (state : State) → EndsLoad tool end state →
    (reader : Reader) (answer : Result Found FolderFault) → Loads reader answer (Err end) →
    TellsOutside state → end ≡ Fault (before_commit Failed)
ended-failed tool (Fault fault) state ends reader answer shown told =
    let failed = fault-failed fault.stage fault.fault
    (answers-fault tool (cause_of_fault fault.stage fault.fault) state ends told) in
    ap Fault (λ i. record { fault = failed i; stage = fault-before reader fault answer shown i })
ended-failed tool (TooLarge name kept) state ends reader answer shown told =
    absurd (leaves-fault tool kept (IsTooLarge (File name)) state ends told)
ended-failed tool (NoTable table kept) state ends reader answer shown told =
    absurd (leaves-fault tool kept (HasNoTable table) state ends told)

-- ---- What the tool decided

-- the tool decides the same on the same
pub decides-on : (asked same_asked : Question) (files same_files : Files)
    (defs same_defs : Option Bytes) (decided : Decided) → asked ≡ same_asked →
    files ≡ same_files → defs ≡ same_defs → DecidesOn asked files defs decided →
    DecidesOn same_asked same_files same_defs decided
decides-on asked same_asked files same_files defs same_defs decided one two three decides =
    subst (λ (other : Option Bytes). DecidesOn same_asked same_files other decided) three
    (subst (λ (other : Files). DecidesOn same_asked other defs decided) two
    (subst (λ (other : Question). DecidesOn other files defs decided) one decides))

-- a change is one, by the law of the tools
pub change-is : (asked : Question) (files : Files) (defs : Option Bytes) (new : Files) →
    (answer_on asked files defs).cause ≡ ChangedTo new → IsChange (table_of files) (table_of new)
change-is asked files defs new is = changes-is asked.request asked.command.input asked.command.day
    files defs new (ap new_files is)

-- a change that it decided is backed up, with its answer
pub of-change : (runner : Runner) (inputs : Inputs) (new : List NewTable) (answer : FinalAnswer) →
    IsRead runner.asked →
    DecidesOn runner.asked inputs.files inputs.defs (Changes new answer) → (walker : Walker) →
    walker ≡ walk_of (change_by new inputs) →
    ReadsIntent (intent_text (intended walker.change)) (intended walker.change) →
    DecidesTo runner inputs (BackingUp walker answer)
of-change runner inputs new answer read decides walker is small = (
  is ∙ ap (λ (one : Walker). walk_of one.change) (sym is),
  ap (λ (one : Walker). one.change.inputs) is,
  subst (λ (one : Walker). IsOfChange runner one.change answer) (sym is)
      (record { is_read = read; is_answer = decides.0; is_change = decides.1 }),
  small,
)
