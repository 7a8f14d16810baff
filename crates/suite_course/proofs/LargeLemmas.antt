-- Claim: where a keeper found the next file too large, the tool's answer on the files of its place says so
-- (`large-stayed`).
-- Way: the files before it are sound, so it is the first problem of all files that agree with what was read
-- (`large-first` of suite_session); and while no intent stands the tables of the folder are those of a
-- keeper's place (`place-stands`).
use Rattle.std.proofs.Common.{◌≡◌, refl, sym, ap, subst, ◌∙◌, ◌<◌, ◌∷◌, ◌++◌, [], ℕ, true, List, Option, Some, None, arith}
use Rattle.std.specs.Option.{option_or}
use Rattle.std.proofs.lemmas.List.{append_assoc}
use Rattle.std.proofs.lemmas.List.Elements.{recursion_from_All}
use Rattle.acct_text.specs.declared.Tab.{Tab}
use Rattle.acct_text.specs.declared.files.Files.{Files}
use Rattle.acct_text.specs.Bytes.{Bytes}
use Rattle.acct_text.specs.Limits.{table_limit}
use Rattle.acct_text.specs.Files.{table_of}
use Rattle.acct_outside.specs.declared.Name.{Name}
use Rattle.acct_outside.specs.declared.Name.TheVariants.{Table, Defs}
use Rattle.acct_outside.specs.Names.{name_limit}
use Rattle.acct_outside.specs.Tokens.{Token}
use Rattle.acct_outside.specs.Folder.{Folder, settings_file, tables}
use Rattle.acct_outside.specs.Calls.{reads, done, found_too_large, found_within}
use Rattle.acct_outside.specs.History.{Event, History, after}
use Rattle.acct_outside.specs.Life.{Life, running, life, MayCall}
use Rattle.acct_outside.specs.declared.CommitStage.TheVariants.{Before}
use Rattle.account_model.specs.Request.{is_report}
use Rattle.intent_file.specs.Intent.{listed_in}
use Rattle.suite_rules.specs.Deeds.{SuiteDeeds}
use Rattle.suite_rules.specs.OwnLock.{kept_number}
use Rattle.suite_rules.specs.Knowledge.{Seen}
use Rattle.suite_rules.specs.Standing.{standing}
use Rattle.suite_rules.specs.Lawful.{IsNext, Lawful, goes_on}
use Rattle.suite_rules.specs.Settled.{listed_by}
use Rattle.suite_rules.specs.Committed.{Commitment, committed, place, folded}
use Rattle.suite_rules.specs.Invariant.{KnownStands, NoneStands}
use Rattle.suite_rules.specs.Laws.{IsCleanKeeper}
use Rattle.suite_rules.proofs.Keepers.{active-runs}
use Rattle.suite_rules.proofs.Places.{places-stay}
use Rattle.suite_rules.proofs.Commitments.{place-below}
use Rattle.suite_rules.proofs.Once.{committed-once, kept-stays}
use Rattle.suite_rules.proofs.Cut.{lawful-prefix}
use Rattle.suite_rules.proofs.Settles.{file-facts, lawful-settles}
use Rattle.suite_rules.proofs.Whole.{invariant}
use Rattle.commit_steps.specs.States.{next_name}
use Rattle.suite_answers.specs.declared.cause.Which.TheVariants.{File}
use Rattle.suite_answers.specs.declared.cause.Cause.TheVariants.{TooLarge}
use Rattle.suite_answers.specs.declared.answer.Answer.{Answer}
use Rattle.suite_session.specs.Runner.{Question, Runner}
use Rattle.suite_session.specs.Answers.{IsAnswerOn, given_for}
use Rattle.suite_session.specs.Deeds.{files_of}
use Rattle.suite_session.specs.Reports.{RunsFree}
use Rattle.suite_session.specs.Due.{AnswersLarge}
use Rattle.suite_session.proofs.ProblemLemmas.{IsLarge, content_next, large-answers, large-first, large-within}
use Rattle.suite_course.specs.Shows.{HasStayed, IsAnswerAt}
use Rattle.suite_course.proofs.AloneLemmas.{answers-alone}
use Rattle.suite_course.proofs.ReportLemmas.{keeper-sees, kept-number-of}
use Rattle.suite_session.proofs.ReportProblems.{files-have}

-- the limit of the next name is that of a table
limit-next : (next : Option Tab) → name_limit (next_name next) ≡ table_limit
limit-next None = refl
limit-next (Some table) = refl

-- a session that reads runs without a failed call
reads-runs : (life : Life) (name : Name) → MayCall life (reads name) → life ≡ running
reads-runs running name may = refl
reads-runs _ name may = absurd may

module _ (deeds : SuiteDeeds) (first : Folder) where
  -- the last event of a lawful history came next
  pub last-next : (event : Event) (history : History) → Lawful deeds first (event ∷ history) →
      Lawful deeds first history × IsNext deeds first history event
  last-next event history (goes_on _ _ lawful next) = (lawful, next)

  module _ (history : History) (lawful : Lawful deeds first history) (token : Token) (number : ℕ)
      (seen : Seen) (clean : IsCleanKeeper history token number seen) where
    -- what a clean keeper knows stands
    none-stands : NoneStands (after first history) seen
    none-stands = subst (KnownStands (after first history)) clean.clean
        ((invariant deeds first history lawful).keeper_view token number clean.active).1.known

    -- the tables of the folder are those of its place
    place-stands : (table : Tab) → folded deeds first (place number (committed history)) table
        ≡ (after first history).file (Table table)
    place-stands table =
        ap (λ (list : List Commitment). folded deeds first list table)
        (place-below number (committed history)
        (recursion_from_All (λ one. one.number < number) (committed history)
        ((invariant deeds first history lawful).settled_is_fold.below_keeper token number
        (active-runs clean.active) clean.uncommitted)))
        ∙ (sym (lawful-settles.is_fold deeds first history lawful table)
        ∙ ap (λ (content : Option Bytes).
        option_or (listed_in (listed_by content) table) (tables (after first history) table))
        none-stands.intent)

-- what the next name has at the place of a keeper
place-next : (folder : Folder) (files : Files) (defs : Option Bytes) →
    ((table : Tab) → table_of files table ≡ folder.file (Table table)) → defs ≡ folder.file Defs →
    (next : Option Tab) → content_next next files defs ≡ folder.file (next_name next)
place-next folder files defs tables settings None = settings
place-next folder files defs tables settings (Some table) = tables table

-- the claim
pub large-stayed : (deeds : SuiteDeeds) (first : Folder) (history : History) →
    Lawful deeds first history → (asked : Question) (runner : Runner) (answer : Answer) →
    (name : Name) → runner.asked ≡ asked →
    (standing runner.token history).commit ≡ Before →
    (is_report asked.request ≡ true → RunsFree runner.token history) →
    AnswersLarge runner answer history name →
    HasStayed deeds asked first history runner.token answer
large-stayed deeds first history lawful asked runner answer name question uncalled free large =
    let met = large.met in
    let reader = large.reader in
    let event : Event = record {
      token = runner.token;
      call = reads (next_name reader.next);
      result = done found_too_large;
    } in
    let number = reader.keeper.number in
    let step = last-next deeds first event met.older (lawful-prefix deeds first met.newer
    (event ∷ met.older) (subst (Lawful deeds first) met.parts lawful)) in
    let parts : history ≡ (met.newer ++ event ∷ []) ++ met.older =
    met.parts ∙ sym (append_assoc met.newer (event ∷ []) met.older) in
    let whole = subst (Lawful deeds first) parts lawful in
    let knows = met.stood.keeps.knows in
    let clean : IsCleanKeeper met.older runner.token number knows.seen = record {
      active = record {
        runs = reads-runs (life runner.token met.older) (next_name reader.next)
            step.1.keeps.life_rule;
        keeps = met.stood.keeps.locks.owns;
      };
      uncommitted = met.stood.uncommitted;
      clean = knows.clean;
    } in
    let top_is = ((invariant deeds first met.older step.0).keeper_view runner.token number
    clean.active).0 in
    let kept_then = ap kept_number met.stood.keeps.locks.owns in
    let same_place : place number (committed history) ≡ place number (committed met.older) =
    ap (λ (one : History). place number (committed one)) parts
    ∙ places-stay.stays deeds first (met.newer ++ event ∷ []) met.older whole number
    (omega (arith, top_is)) in
    let folder = after first met.older in
    let files = files_of (folded deeds first (place number (committed history))) in
    let stands : (table : Tab) → table_of files table ≡ folder.file (Table table) =
    λ table. files-have (folded deeds first (place number (committed history))) table
    ∙ (ap (λ (list : List Commitment). folded deeds first list table) same_place
    ∙ place-stands deeds first met.older step.0 runner.token number knows.seen clean table) in
    let settings : settings_file first ≡ folder.file Defs =
    sym (file-facts deeds first met.older step.0).settings in
    let known = none-stands deeds first met.older step.0 runner.token number knows.seen clean in
    let kept : kept_number (standing runner.token history).own ≡ Some number =
    subst (λ (one : History). kept_number (standing runner.token one).own ≡ Some number)
    (sym parts) (kept-stays deeds first (met.newer ++ event ∷ []) met.older whole runner.token
    number kept_then) in
    let there : IsAnswerAt deeds asked first history number answer =
    subst (λ (one : Files). IsAnswerOn asked one (settings_file first) answer)
    (sym (keeper-sees asked runner.token history number free kept files))
    (subst (λ (one : Answer). IsAnswerOn asked files (settings_file first) one)
    (sym (large.says
    ∙ ap (λ (one : Name). given_for runner.asked.request.tool (TooLarge (File one))) large.is_next
    ∙ ap (λ (one : Question). given_for one.request.tool (TooLarge (File (next_name reader.next))))
    question))
    (large-answers reader.files files (settings_file first) asked reader.next
    (large-first reader.files files (settings_file first) reader.next large.sound
    (λ table before. stands table
    ∙ known.inputs (Table table) (table_of reader.files table) refl (knows.tables table before))
    (subst IsLarge (sym (place-next folder files (settings_file first) stands settings
    reader.next)) (large-within (folder.file (next_name reader.next))
    (subst (λ (limit : ℕ). found_too_large
    ≡ found_within limit (folder.file (next_name reader.next))) (limit-next reader.next)
    step.1.gives)))))) in
    record {
      number = number;
      has_number = kept-number-of asked runner.token history number free kept;
      none = committed-once.none deeds first history lawful runner.token uncalled;
      at_place = there;
      alone = answers-alone deeds first history lawful asked runner.token answer number kept
          (record {
            newer = met.newer ++ event ∷ [];
            older = met.older;
            parts = parts;
            number = number;
            active = clean.active;
            uncommitted = clean.uncommitted;
          }) there;
    }
