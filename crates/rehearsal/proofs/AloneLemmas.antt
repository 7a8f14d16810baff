-- Claims: a command that ran where no event of others is admitted, and whose tool decided, was one step
-- of the account model (`ran-step`); a command whose words have a fault, or without input or day, has no
-- tool that decides (`faulty-undecided`, `unsupplied-undecided`); and a lawful history stays lawful
-- (`ran-lawful`).
-- Way: the session has a token, and was alone since the entry (`who-ran`). So its answer is the model's
-- on the settled files of then, and these became the deed's where it changed them (`step-of`).
use Rattle.std.proofs.Common.{◌≡◌, ◌⊎◌, refl, sym, ap, subst, ◌∙◌, ◌∷◌, ◌++◌, [], ℕ, Bool, true, false, List, inl, inr, Option, Some, None, Result, Ok, Err, true≢false}
use Rattle.std.specs.Prelude.{unwrap_or, option_map, if◌then◌else◌}
use Rattle.std.specs.List.{AllByRecursion}
use Rattle.acct_text.specs.declared.Tab.{Tab}
use Rattle.acct_text.specs.declared.Tab.TheVariants.{Passwd, Shadow, Group, Gshadow, Subuid, Subgid}
use Rattle.acct_text.specs.declared.files.Files.{Files}
use Rattle.acct_text.specs.Bytes.{Bytes}
use Rattle.acct_text.specs.Contents.{Contents}
use Rattle.acct_text.specs.Files.{table_of}
use Rattle.acct_outside.specs.declared.Name.TheVariants.{Table, Defs}
use Rattle.acct_outside.specs.declared.CommitStage.TheVariants.{Before}
use Rattle.acct_outside.specs.declared.FolderFault.{FolderFault}
use Rattle.acct_outside.specs.declared.FolderFault.TheVariants.{Failed as FolderFailed, Memory as NoFolderMemory}
use Rattle.acct_outside.specs.declared.streams.SinkFault.{SinkFault}
use Rattle.acct_outside.specs.declared.streams.SinkFault.TheVariants.{Failed, Memory as NoMemory}
use Rattle.acct_outside.specs.Tokens.{Token}
use Rattle.acct_outside.specs.Folder.{Folder, settings_file}
use Rattle.acct_outside.specs.Calls.{Command}
use Rattle.acct_outside.specs.History.{History, after}
use Rattle.acct_outside.specs.Journal.{Entry}
use Rattle.acct_outside.specs.Moment.{Past, Moment}
use Rattle.memory_folder.specs.Memory.{no_others}
use Rattle.account_model.specs.declared.tool.Tool.{Tool}
use Rattle.account_model.specs.declared.word_fault.WordFault.{WordFault}
use Rattle.account_model.specs.declared.word_fault.WordFault.TheVariants.{Memory as NoWordMemory}
use Rattle.account_model.specs.Options.{Word}
use Rattle.account_model.specs.Request.{Request, is_report}
use Rattle.account_model.specs.Words.{Asks}
use Rattle.account_model.specs.Answer.{AnswerCause, Changed as ModelChanged, deed, is_faulty_batch, new_files}
use Rattle.account_model.proofs.AsksLaws.{asks_iff_read}
use Rattle.account_model.proofs.SeenLemmas.{sees-all}
use Rattle.suite_session.proofs.ReportStays.{report-stays}
use Rattle.suite_rules.specs.Deeds.{SuiteDeeds}
use Rattle.suite_rules.specs.Lawful.{Lawful}
use Rattle.suite_rules.specs.Settled.{settled}
use Rattle.suite_rules.specs.Committed.{Commitment, fold_deeds}
use Rattle.suite_rules.specs.Steps.{LawfulOthers}
use Rattle.suite_rules.proofs.Settles.{file-facts}
use Rattle.suite_answers.specs.declared.cause.Which.TheVariants.{Input, File}
use Rattle.suite_answers.specs.declared.cause.Cause.{Cause}
use Rattle.suite_answers.specs.declared.cause.Cause.TheVariants.{Changed, Same, Refused, RefusedLine, TooLarge, NoTable, BadSetting, DiskFault, InputFault, ClockFault, Memory}
use Rattle.suite_answers.specs.declared.cause.Outcome.{Outcome}
use Rattle.suite_answers.specs.declared.answer.Answer.{Answer}
use Rattle.suite_answers.specs.Answers.{cause_of_words, told_words}
use Rattle.suite_session.specs.Runner.{Question}
use Rattle.suite_session.specs.Answers.{after_streams, answer_on, cause_of_answer, given_for, memory_answer, IsAnswerOn, IsAnswerSeen, IsTold}
use Rattle.suite_session.specs.Locking.{cause_of_fault}
use Rattle.suite_session.specs.Deeds.{AreOfTools, files_of, is_change}
use Rattle.suite_session.specs.Grows.{Grows, none_new, others_new, own_new}
use Rattle.suite_session.specs.Stands.{IsDecided}
use Rattle.suite_course.specs.Streams.{Streams}
use Rattle.suite_course.specs.declared.supplies.Lack.{Lack}
use Rattle.suite_course.specs.declared.supplies.Lack.TheVariants.{Supply, Line}
use Rattle.suite_course.specs.Supplies.{Supplies, IsUnsupplied, IsLacking, told_lack}
use Rattle.suite_course.specs.Alone.{IsAlone, LeavesFolder}
use Rattle.suite_course.specs.Shows.{HasChanged, HasStayed, IsShownAt}
use Rattle.suite_course.specs.Top.{EndsEarly, EndsUnsupplied, HasNotRun, HasRun, Ran, RunsOrNot}
use Rattle.rehearsal.specs.Alone.{IsLawful, IsStep}

-- ---- Causes that no tool decides

-- without input or day
unsupplied-cause : (tool : Tool) (before now : Supplies) (cause : Cause) →
    IsUnsupplied tool before now cause → IsDecided cause → ⊥
unsupplied-cause tool before now InputFault due decided = decided
unsupplied-cause tool before now (TooLarge Input) due decided = decided
unsupplied-cause tool before now ClockFault due decided = decided
unsupplied-cause tool before now (Memory stage) due decided = decided
unsupplied-cause tool before now cause due decided = due

-- or with a line of a batch that asks for nothing
lack-cause : (tool : Tool) (before now : Supplies) (lack : Lack) → IsLacking tool before now lack →
    IsDecided (told_lack tool lack).outcome.cause → ⊥
lack-cause tool before now (Supply cause) due decided =
    unsupplied-cause tool before now cause due decided
lack-cause tool before now (Line faulty) due decided = decided

-- an answer to no tool's cause says that, or that a stream failed, or that there was no memory
early-undecided : (tool : Option Tool) (answer : Answer) (was holds : Streams) (outcome : Outcome) →
    (IsDecided answer.outcome.cause → ⊥) → EndsEarly tool answer was holds outcome →
    IsDecided outcome.cause → ⊥
early-undecided tool answer was holds outcome none early decided =
    by-put early.ends.put (subst (λ (one : Outcome). IsDecided one.cause) early.ends.left decided)
  where
    by-given : (given : Answer) → (given ≡ answer) ⊎ (given ≡ memory_answer Before) →
        IsDecided given.outcome.cause → ⊥
    by-given given (inl is) one =
        none (subst (λ (other : Answer). IsDecided other.outcome.cause) is one)
    by-given given (inr is) one =
        subst (λ (other : Answer). IsDecided other.outcome.cause) is one

    by-put : (put : Result (Unit {0}) SinkFault) →
        IsDecided (after_streams put early.given).outcome.cause → ⊥
    by-put (Ok unit) one = by-given early.given early.is one
    by-put (Err Failed) one = one
    by-put (Err NoMemory) one = one

-- a command that lacks something
pub unsupplied-undecided : (tool : Tool) (before now : Supplies) (was holds : Streams)
    (outcome : Outcome) → EndsUnsupplied tool before now was holds outcome →
    IsDecided outcome.cause → ⊥
unsupplied-undecided tool before now was holds outcome ends =
    early-undecided (Some tool) (told_lack tool ends.lack) was holds outcome
    (lack-cause tool before now ends.lack ends.due) ends.ends

-- the cause of words with a fault is none of a tool
words-cause : (found : WordFault) → IsDecided (cause_of_words found) → ⊥
words-cause NoWordMemory decided = decided
words-cause found decided = decided

-- a command whose words have a fault
pub faulty-undecided : (tool : Option Tool) (words : List Word) (found : WordFault)
    (was holds : Streams) (outcome : Outcome) →
    EndsEarly tool (told_words words found) was holds outcome → IsDecided outcome.cause → ⊥
faulty-undecided tool words found was holds outcome =
    early-undecided tool (told_words words found) was holds outcome (words-cause found)

-- an answer that a tool decided came whole to the streams
decided-whole : (put : Result (Unit {0}) SinkFault) (given : Answer) →
    IsDecided (after_streams put given).outcome.cause → after_streams put given ≡ given
decided-whole (Ok unit) given decided = refl
decided-whole (Err Failed) given decided = absurd decided
decided-whole (Err NoMemory) given decided = absurd decided

-- a begin without a token told a fault of the folder, or that there was no memory
not-run-undecided : (asked : Question) (given : Answer) (first : Folder) (old new : History) →
    HasNotRun asked no_others given first old new → IsDecided given.outcome.cause → ⊥
not-run-undecided asked given first old new idle decided = by-fault idle.fault idle.tells
  where
    no-answer : (answer : Answer) → (IsDecided answer.outcome.cause → ⊥) → given ≡ answer → ⊥
    no-answer answer none is =
        none (subst (λ (one : Answer). IsDecided one.outcome.cause) is decided)

    by-fault : (fault : FolderFault) →
        IsTold asked.request.tool (cause_of_fault Before fault) given →
        ⊥
    by-fault FolderFailed (inl is) =
        no-answer (given_for asked.request.tool (DiskFault Before)) (λ none. none) is
    by-fault FolderFailed (inr is) = no-answer (memory_answer Before) (λ none. none) is
    by-fault NoFolderMemory (inl is) = no-answer (memory_answer Before) (λ none. none) is
    by-fault NoFolderMemory (inr is) = no-answer (memory_answer Before) (λ none. none) is

-- ---- Who made the new events

-- none of others is admitted, so each is the session's own
grows-own : (token : Token) (old new : History) (most : ℕ) → Grows no_others token old most new →
    (newer : History) × (new ≡ newer ++ old) × AllByRecursion (λ event. event.token ≡ token) newer
grows-own token old _ most (none_new _) = ([], refl, tt)
grows-own token old _ most (others_new _ event new grows admitted) = absurd admitted
grows-own token old _ _ (own_new most event new grows is backs) =
    let before = grows-own token old new most grows in
    (event ∷ before.0, ap (λ (one : History). event ∷ one) before.1, (is, before.2))

-- what is lawful needs nothing of others where none is admitted
pub none-admitted : (deeds : SuiteDeeds) (first : Folder) → LawfulOthers deeds no_others first
none-admitted deeds first history event lawful admitted = absurd admitted

-- ---- What a decided answer shows

module _ (deeds : SuiteDeeds) (asked : Question) (first : Folder) (new : History) (token : Token)
    (given : Answer) where
  -- the session has changed the files; or it has left them, and says no change
  abbrev ChangedOrStayed : Cause → Type 0
  ChangedOrStayed cause = HasChanged deeds asked first new token given
      ⊎ (HasStayed deeds asked first new token given × (cause ≡ Changed → ⊥))

  -- by what the tool decided
  decided-shown : (cause : Cause) → IsDecided cause →
      IsShownAt deeds asked first new token given cause → ChangedOrStayed cause
  decided-shown Changed decided shown = inl shown
  decided-shown Same decided shown = inr (shown, λ is. cc)
  decided-shown (Refused refusal) decided shown = inr (shown, λ is. cc)
  decided-shown (RefusedLine line refusal) decided shown = inr (shown, λ is. cc)
  decided-shown (NoTable table) decided shown = inr (shown, λ is. cc)
  decided-shown (BadSetting line) decided shown = inr (shown, λ is. cc)
  decided-shown (TooLarge (File (Table table))) decided shown = inr (shown, λ is. cc)
  decided-shown (TooLarge (File Defs)) decided shown = inr (shown, λ is. cc)
  decided-shown cause decided shown = absurd decided

-- what says no change makes no new files
no-deed : (cause : AnswerCause) (told : Cause) → told ≡ cause_of_answer cause →
    (told ≡ Changed → ⊥) → new_files cause ≡ None
no-deed (ModelChanged files) told is stays = absurd (stays is)
no-deed cause told is stays = refl

-- and so there is no deed, whether a line of a batch is faulty or not
no-change-deed : (faulty : Bool) (made : Option Files) → made ≡ None →
    (if faulty then None else made) ≡ None
no-change-deed true made none = refl
no-change-deed false made none = none

-- what is no change makes none either
pub unchanged-deed : (cause : AnswerCause) → is_change cause ≡ false → new_files cause ≡ None
unchanged-deed (ModelChanged files) stays = absurd (true≢false stays)
unchanged-deed cause stays = refl

-- ---- One step

-- files are those of their contents
files-are : (contents : Contents) (files : Files) →
    ((table : Tab) → contents table ≡ table_of files table) → files_of contents ≡ files
files-are contents files same = λ i. record {
  passwd = same Passwd i;
  shadow = same Shadow i;
  group = same Group i;
  gshadow = same Gshadow i;
  subuid = same Subuid i;
  subgid = same Subgid i;
}

-- and a table of them is that of the contents
table-is : (contents : Contents) (table : Tab) →
    table_of (files_of contents) table ≡ contents table
table-is contents Passwd = refl
table-is contents table = refl

-- the contents after a deed are its files, or what stood
after-made : (contents : Contents) (made : Option Files) (table : Tab) →
    unwrap_or (option_map table_of made) contents table
    ≡ table_of (unwrap_or made (files_of contents)) table
after-made contents (Some files) table = refl
after-made contents None table = sym (table-is contents table)

-- a deed by what the words ask for
abbrev deed_by : Result Request WordFault → Command → Contents → Option Bytes → Option Contents
deed_by read command contents defs = elim read [
  | Err fault ↦ None
  | Ok request ↦ option_map table_of
      (deed request command.input command.day (files_of contents) defs)
]

module _ (deeds : SuiteDeeds) (ours : AreOfTools deeds) (asked : Question)
    (asks : Asks asked.command.words asked.request) where
  -- the deed of the command is that of its request
  deed-is : (contents : Contents) (defs : Option Bytes) →
      deeds.deed asked.command contents defs ≡ option_map table_of
      (deed asked.request asked.command.input asked.command.day (files_of contents) defs)
  deed-is contents defs =
      ap (λ (make : Command → Contents → Option Bytes → Option Contents).
      make asked.command contents defs) ours.is_deed
      ∙ ap (λ (read : Result Request WordFault). deed_by read asked.command contents defs)
      ((asks_iff_read asked.command.words asked.request).0 asks)

  module _ (first : Folder) (old new : History) (token : Token) (given : Answer)
      (alone : IsAlone token old new) where
    -- the settled contents of the entry, and its login.defs
    abbrev was : Contents
    was = settled (after first old)

    abbrev defs : Option Bytes
    defs = settings_file (after first old)

    -- the files that the answer makes
    abbrev made : Option Files
    made = deed asked.request asked.command.input asked.command.day (files_of was) defs

    -- an answer on what the command sees that tells no change makes none: a report has no deed, and any
    -- other command sees all files
    none-made : IsAnswerSeen asked (files_of was) defs given →
        (given.outcome.cause ≡ Changed → ⊥) → made ≡ None
    none-made is_answer stays = cases (is_report asked.request) refl
      where
        cases : (is_one : Bool) → is_report asked.request ≡ is_one → made ≡ None
        cases true is = no-change-deed (is_faulty_batch asked.request asked.command.input) _
            (unchanged-deed (answer_on asked (files_of was) defs).cause
            (report-stays asked.command.words asked.request asked.command.input asked.command.day
            (files_of was) defs asks is))
        cases false is = no-change-deed (is_faulty_batch asked.request asked.command.input) _
            (no-deed (answer_on asked (files_of was) defs).cause given.outcome.cause
            (subst (λ (files : Files). IsAnswerOn asked files defs given)
            (sees-all asked.request is (files_of was)) is_answer).has_cause stays)

    -- the settled contents are the deed's
    settled-by : ChangedOrStayed deeds asked first new token given given.outcome.cause →
        (table : Tab) →
        settled (after first new) table ≡ table_of (unwrap_or made (files_of was)) table
    settled-by (inl changed) table =
        (changed.alone old alone).settles table
        ∙ (ap (λ (list : List Commitment). fold_deeds deeds defs was list table) changed.once
        ∙ (ap (λ (one : Option Contents). unwrap_or one was table) (deed-is was defs)
        ∙ after-made was made table))
    settled-by (inr stayed) table =
        (stayed.0.alone old alone).settles table
        ∙ (ap (λ (list : List Commitment). fold_deeds deeds defs was list table) stayed.0.none
        ∙ (after-made was None table
        ∙ ap (λ (one : Option Files). table_of (unwrap_or one (files_of was)) table)
        (sym (none-made (stayed.0.alone old alone).is_answer stayed.1))))

    -- its answer is that on these
    answer-by : ChangedOrStayed deeds asked first new token given given.outcome.cause →
        IsAnswerSeen asked (files_of was) defs given
    answer-by (inl changed) = (changed.alone old alone).is_answer
    answer-by (inr stayed) = (stayed.0.alone old alone).is_answer

    -- so it was one step, where it leaves no intent, or as a report the folder
    step-of : Lawful deeds first old → Lawful deeds first new →
        ChangedOrStayed deeds asked first new token given given.outcome.cause →
        IsDecided given.outcome.cause →
        LeavesFolder asked first old new token given.outcome.cause →
        IsStep asked.request asked.command.input asked.command.day
        (record { first = first; history = old })
        (record { first = first; history = new }) given.outcome
    step-of before lawful shown decided leaves = record {
      cause = (answer-by shown).has_cause;
      status = (answer-by shown).has_status;
      files = files-are (settled (after first new)) (unwrap_or made (files_of was))
          (settled-by shown);
      settings = (file-facts deeds first new lawful).settings
          ∙ sym (file-facts deeds first old before).settings;
      intent = λ no_report. leaves.intent no_report decided;
      report = leaves.report;
    }

-- ---- The run

-- a folder in memory of this history that has failed so often, and was asked this
abbrev pub at_moment : Past → ℕ → List Entry → Moment
at_moment past faults journal =
    record { admits = no_others; told = Some past; faults = faults; journal = journal }

module _ (asked : Question) (old new : Past) (one other : ℕ) (older newer : List Entry)
    (was holds : Streams) (outcome : Outcome)
    (ran : Ran asked (at_moment old one older) (at_moment new other newer) was holds
    outcome) where
  -- a lawful history stays lawful
  pub ran-lawful : IsLawful old → IsLawful new
  ran-lawful is =
      let longer = ran.lawful.1 is.0 is.1 (none-admitted is.0 old.first) is.2 in (
        is.0,
        is.1,
        subst (λ (first : Folder). Lawful is.0 first new.history) (sym ran.lawful.0)
            longer.lawful,
      )

  -- who ran: a session of one token, which was alone since the entry
  record WhoRan : Type 0 where
    token : Token
    run : HasRun asked no_others ran.given outcome old.first old.history new.history token
    alone : IsAlone token old.history new.history

  -- where its tool decided
  who-ran : IsDecided ran.given.outcome.cause → WhoRan
  who-ran decided = by-session ran.session.1
    where
      by-session : RunsOrNot asked no_others ran.given outcome old.first old.history new.history →
          WhoRan
      by-session (inr idle) = absurd (not-run-undecided asked ran.given old.first old.history
          new.history idle decided)
      by-session (inl run) =
          let own = grows-own run.0 old.history new.history run.1.bounded.made
          run.1.bounded.grows in
          record {
            token = run.0;
            run = run.1;
            alone = record { newer = own.0; parts = own.1; own = own.2; fresh = run.1.fresh };
          }

  -- one step of the request, with the input and on the day
  abbrev Step : Past → Past → Outcome → Type 0
  Step = IsStep asked.request asked.command.input asked.command.day

  -- the claim
  pub ran-step : IsLawful old → Asks asked.command.words asked.request → IsDecided outcome.cause →
      Step old new outcome
  ran-step is asks decided =
      let whole = decided-whole ran.ends.put ran.given
      (subst (λ (last : Outcome). IsDecided last.cause) ran.ends.left decided) in
      let same : outcome ≡ ran.given.outcome =
      ran.ends.left ∙ ap (λ (one : Answer). one.outcome) whole in
      let own = subst (λ (last : Outcome). IsDecided last.cause) same decided in
      let who = who-ran own in
      let others = none-admitted is.0 old.first in
      let longer = ran.lawful.1 is.0 is.1 others is.2 in
      let step = step-of is.0 is.1 asked asks old.first old.history new.history who.token ran.given
      who.alone is.2 longer.lawful (decided-shown is.0 asked old.first new.history who.token
      ran.given ran.given.outcome.cause own (who.run.shows is.0 is.1 others is.2).shown) own
      (who.run.leaves is.0 is.1 others is.2 old.history who.alone) in
      subst (λ (last : Outcome). Step old new last) (sym same)
      (subst (λ (first : Folder). Step old (record { first = first; history = new.history })
      ran.given.outcome) (sym ran.lawful.0) step)
