-- Claim: what the own events of a session show of its answer, a lawful history shows of its place: the
-- answer is that on the fold of the commands that were committed under lower numbers (`shown-at`), and
-- the session's commit came as far as it says (`shows-at`).
-- Way: what a session has seen is the fold of its place and the first login.defs (`places-stay`); the
-- place stays whatever was committed since; and a session commits at most once (`committed-once`).
use Rattle.std.proofs.Common.{◌≡◌, refl, sym, ap, subst, ap₂, ◌∙◌, [], ◌∷◌, ℕ, ◌<◌, true, inl, inr, List, Option, Some, true≢false, arith}
use Rattle.acct_text.specs.declared.Tab.{Tab}
use Rattle.acct_text.specs.declared.Tab.TheVariants.{Passwd, Shadow, Group, Gshadow, Subuid, Subgid}
use Rattle.acct_outside.specs.declared.CommitStage.{CommitStage}
use Rattle.acct_outside.specs.declared.Name.{Name}
use Rattle.acct_text.specs.declared.files.Files.{Files}
use Rattle.acct_text.specs.Bytes.{Bytes}
use Rattle.acct_text.specs.Contents.{Contents}
use Rattle.acct_text.specs.Files.{table_of}
use Rattle.acct_outside.specs.declared.Name.TheVariants.{Table, Defs, Lock}
use Rattle.acct_outside.specs.Tokens.{Token}
use Rattle.acct_outside.specs.Folder.{Folder, greatest, settings_file, top}
use Rattle.acct_outside.specs.Calls.{Command, lists, done}
use Rattle.acct_outside.specs.History.{Event, History, after}
use Rattle.acct_outside.specs.declared.CommitStage.TheVariants.{Before, Committed}
use Rattle.account_model.specs.Request.{is_report}
use Rattle.suite_rules.specs.Deeds.{SuiteDeeds}
use Rattle.suite_rules.specs.OwnLock.{kept_number, made_number}
use Rattle.suite_rules.specs.Knowledge.{Seen}
use Rattle.suite_rules.specs.Standing.{standing}
use Rattle.suite_rules.specs.Lawful.{Lawful}
use Rattle.suite_rules.specs.Committed.{Commitment, commitment_of, committed, place, folded}
use Rattle.suite_rules.specs.Laws.{KeeperSaw, IsCleanKeeper}
use Rattle.suite_rules.proofs.Places.{places-stay}
use Rattle.suite_rules.proofs.Once.{committed-once, kept-stays, once}
use Rattle.suite_rules.proofs.Cut.{lawful-prefix}
use Rattle.suite_rules.proofs.Keepers.{lock-facts}
use Rattle.suite_rules.proofs.Whole.{invariant}
use Rattle.suite_answers.specs.declared.cause.Which.TheVariants.{File}
use Rattle.suite_answers.specs.declared.cause.Cause.{Cause}
use Rattle.suite_answers.specs.declared.cause.Cause.TheVariants.{Changed, Same, Refused, RefusedLine, Outrun, TooLarge, NoTable, BadSetting}
use Rattle.suite_answers.specs.declared.answer.Answer.{Answer}
use Rattle.suite_answers.specs.Reasons.{stage_of}
use Rattle.suite_session.specs.Runner.{Question, Runner}
use Rattle.suite_session.specs.Answers.{IsAnswerOn}
use Rattle.suite_session.specs.Causes.{MetChange, MetLoss}
use Rattle.suite_session.specs.Deeds.{files_of}
use Rattle.suite_session.specs.Due.{AnswersAll, AnswersSome, AnsweredAll, WasKeeper, ShowsAll, ShowsSome, ShowsLarge, ShowsOutrun, IsReported, IsShown}
use Rattle.suite_session.specs.Reports.{RunsFree}
use Rattle.suite_course.proofs.AloneLemmas.{answers-alone}
use Rattle.suite_session.proofs.ReportProblems.{files-have}
use Rattle.suite_course.proofs.LargeLemmas.{large-stayed, last-next}
use Rattle.suite_course.proofs.ReportLemmas.{keeper-sees, kept-number-of, never-removes, reported-stayed}
use Rattle.suite_course.proofs.SuccessLemmas.{changed-succeeds}
use Rattle.suite_course.specs.Shows.{HasChanged, HasStayed, IsAnswerAt, IsShownAt, ReachesStage, Shows, WasOutrun}

-- files are those of their contents
files-same : (files : Files) (contents : Contents) →
    ((table : Tab) → table_of files table ≡ contents table) → files ≡ files_of contents
files-same files contents same = λ i. record {
  passwd = same Passwd i;
  shadow = same Shadow i;
  group = same Group i;
  gshadow = same Gshadow i;
  subuid = same Subuid i;
  subgid = same Subgid i;
}

module _ (deeds : SuiteDeeds) (first : Folder) (history : History)
    (lawful : Lawful deeds first history) (asked : Question) (token : Token) where
  -- the files at the place of a number
  abbrev at_place : ℕ → Contents
  at_place number = folded deeds first (place number (committed history))

  module _ (number : ℕ) (seen : Seen) (looked : KeeperSaw history token number seen) where
    -- what was seen of all files is the place
    seen-all : (files : Files) (defs : Option Bytes) (answer : Answer) →
        ((table : Tab) → seen.file (Table table) ≡ Some (table_of files table)) →
        seen.file Defs ≡ Some defs → IsAnswerOn asked files defs answer →
        IsAnswerOn asked (files_of (at_place number)) (settings_file first) answer
    seen-all files defs answer tables settings is =
        let same = files-same files (at_place number) (λ table. places-stay.has_seen deeds first
        history lawful token number seen looked table (table_of files table) (tables table)) in
        let stands = places-stay.settings deeds first history lawful token number seen looked
        defs settings in
        subst (λ (one : Files). IsAnswerOn asked one (settings_file first) answer) same
        (subst (λ (one : Option Bytes). IsAnswerOn asked files one answer) stands is)

  -- of who kept a lock that is the answer at the place
  place-answer : (free : is_report asked.request ≡ true → RunsFree token history) (kept : ℕ) →
      kept_number (standing token history).own ≡ Some kept → (number : ℕ) (answer : Answer) →
      IsAnswerOn asked (files_of (at_place number)) (settings_file first) answer →
      IsAnswerAt deeds asked first history number answer
  place-answer free kept is number answer =
      subst (λ (one : Files). IsAnswerOn asked one (settings_file first) answer)
      (sym (keeper-sees asked token history kept free is (files_of (at_place number))))

  module _ (free : is_report asked.request ≡ true → RunsFree token history)
      (uncalled : (standing token history).commit ≡ Before) (runner : Runner) (answer : Answer)
      (same : runner.token ≡ token) (question : runner.asked ≡ asked) where
    -- a keeper that stayed, and has seen all
    all-stayed : AnswersAll runner answer (standing token history) → WasKeeper token history →
        HasStayed deeds asked first history token answer
    all-stayed all was =
        let there = place-answer free all.number all.kept all.number answer
        (seen-all all.number all.seen
        (record { kept = all.kept; uncommitted = uncalled; clean = all.clean })
        all.files all.defs answer all.all.each_table all.all.settings
        (subst (λ (one : Question). IsAnswerOn one all.files all.defs answer) question
        all.is_answer)) in
        record {
          number = all.number;
          has_number = kept-number-of asked token history all.number free all.kept;
          none = committed-once.none deeds first history lawful token uncalled;
          at_place = there;
          alone = answers-alone deeds first history lawful asked token answer all.number all.kept
              was there;
        }

    -- one that stayed, and has seen some
    some-stayed : AnswersSome runner answer (standing token history) → WasKeeper token history →
        HasStayed deeds asked first history token answer
    some-stayed some was =
        let looked : KeeperSaw history token some.number some.seen =
        record { kept = some.kept; uncommitted = uncalled; clean = some.clean } in
        let there : IsAnswerAt deeds asked first history some.number answer =
        place-answer free some.number some.kept some.number answer
        (subst (λ (one : Question).
        IsAnswerOn one (files_of (at_place some.number)) (settings_file first) answer) question
        (some.is_answer (files_of (at_place some.number)) (settings_file first) (record {
          each_table = λ table content is. places-stay.has_seen deeds first history lawful token
              some.number some.seen looked table content is
              ∙ sym (files-have (at_place some.number) table);
          settings = places-stay.settings deeds first history lawful token some.number some.seen
              looked;
        }))) in
        record {
          number = some.number;
          has_number = kept-number-of asked token history some.number free some.kept;
          none = committed-once.none deeds first history lawful token uncalled;
          at_place = there;
          alone = answers-alone deeds first history lawful asked token answer some.number some.kept
              was there;
        }

-- one that has changed its files
changed-at : (deeds : SuiteDeeds) (first : Folder) (history : History) →
    Lawful deeds first history → (asked : Question) (token : Token) (runner : Runner)
    (answer : Answer) → runner.token ≡ token → runner.asked ≡ asked →
    (standing token history).command ≡ Some asked.command →
    (standing token history).commit ≡ Committed → answer.outcome.cause ≡ Changed →
    (is_report asked.request ≡ true → RunsFree token history) →
    AnsweredAll runner answer history → HasChanged deeds asked first history token answer
changed-at deeds first history lawful asked token runner answer same question began is changed free
    all =
    let whole = subst (Lawful deeds first) all.parts lawful in
    let before = lawful-prefix deeds first all.newer all.older whole in
    let owner = subst (λ (one : Token). IsCleanKeeper all.older one all.number all.seen) same
    all.clean in
    let kept_then = ap kept_number owner.active.keeps in
    let kept_now = subst (λ (one : History). kept_number (standing token one).own ≡ Some all.number)
    (sym all.parts)
    (kept-stays deeds first all.newer all.older whole token all.number kept_then) in
    let top_is = (invariant deeds first all.older before).keeper_view token
    all.number owner.active in
    let there : IsAnswerAt deeds asked first history all.number answer =
    place-answer deeds first history lawful asked token free all.number kept_now all.number answer
    (subst (λ (one : List Commitment). IsAnswerOn asked
    (files_of (folded deeds first one)) (settings_file first) answer)
    (sym (ap (λ (one : History). place all.number (committed one)) all.parts
    ∙ places-stay.stays deeds first all.newer all.older whole all.number
    (omega (arith, top_is.0))))
    (seen-all deeds first all.older before asked token all.number all.seen
    (record { kept = kept_then; uncommitted = owner.uncommitted; clean = owner.clean })
    all.files all.defs answer all.all.each_table all.all.settings
    (subst (λ (one : Question). IsAnswerOn one all.files all.defs answer) question
    all.is_answer))) in
    record {
      number = all.number;
      once = committed-once.one deeds first history lawful token is
          ∙ ap₂ (λ (number : Option ℕ) (command : Option Command).
          commitment_of token number command) kept_now began;
      at_place = there;
      succeeds = changed-succeeds runner.asked all.files all.defs answer all.is_answer changed;
      alone = answers-alone deeds first history lawful asked token answer all.number kept_now
          (record {
            newer = all.newer;
            older = all.older;
            parts = all.parts;
            number = all.number;
            active = owner.active;
            uncommitted = owner.uncommitted;
          }) there;
    }

-- a session's own lock is listed, or a greater one
never-lost : (deeds : SuiteDeeds) (first : Folder) (history : History) →
    Lawful deeds first history → (token : Token) (number other : ℕ) →
    MetLoss token number other history → ⊥
never-lost deeds first history lawful token number other lost =
    let met = lost.3 in
    let event : Event = record { token = token; call = lists; result = done lost.0 } in
    let step = last-next deeds first event met.older (lawful-prefix deeds first met.newer
    (event ∷ met.older) (subst (Lawful deeds first) met.parts lawful)) in
    let most = ((lock-facts deeds first met.older step.0).made_most token number
    (ap made_number met.stood)).1 in
    let top_is : top (after first met.older) ≡ other = sym (ap greatest step.1.gives) ∙ lost.1 in
    absurd (omega (arith, most, top_is, lost.2))

-- where a session without a lock had judged the greatest one, a listing shows that or a greater one
changed-above : (deeds : SuiteDeeds) (first : Folder) (history : History) →
    Lawful deeds first history → (token : Token) (number other : ℕ) →
    MetChange token number other history → number < other
changed-above deeds first history lawful token number other change =
    let met = change.3 in
    let event : Event = record { token = token; call = lists; result = done change.0 } in
    let step = last-next deeds first event met.older (lawful-prefix deeds first met.newer
    (event ∷ met.older) (subst (Lawful deeds first) met.parts lawful)) in
    let most = (lock-facts deeds first met.older step.0).listed_most token met.stood.listing
    met.stood.listed in
    let top_is : top (after first met.older) ≡ other = sym (ap greatest step.1.gives) ∙ change.1 in
    let was = met.stood.is_greatest in
    let differs = change.2 in
    grind (arith, most, top_is, was, differs)

module _ (deeds : SuiteDeeds) (first : Folder) (history : History)
    (lawful : Lawful deeds first history) (asked : Question) (runner : Runner) (answer : Answer)
    (question : runner.asked ≡ asked)
    (began : (standing runner.token history).command ≡ Some asked.command)
    (free : is_report asked.request ≡ true → RunsFree runner.token history) where
  module _ (uncalled : (standing runner.token history).commit ≡ Before) where
    -- a report that stayed
    reported-at : IsReported runner answer history →
        HasStayed deeds asked first history runner.token answer
    reported-at shown = reported-stayed deeds first history lawful asked runner.token runner answer
        question uncalled shown

    -- one that has seen all, or has shown them
    all-at : ShowsAll runner answer history →
        HasStayed deeds asked first history runner.token answer
    all-at (inl all) = all-stayed deeds first history lawful asked runner.token free uncalled runner
        answer refl question all.0 all.1
    all-at (inr shown) = reported-at shown

    -- one that has seen some
    some-at : ShowsSome runner answer history →
        HasStayed deeds asked first history runner.token answer
    some-at (inl some) = some-stayed deeds first history lawful asked runner.token free uncalled
        runner answer refl question some.0 some.1
    some-at (inr shown) = reported-at shown

    -- one that found a file too large
    large-at : (name : Name) → ShowsLarge runner answer history name →
        HasStayed deeds asked first history runner.token answer
    large-at name (inl all) = all-at all
    large-at name (inr large) = large-stayed deeds first history lawful asked runner answer name
        question uncalled free large

  -- one that was outrun
  outrun-at : (number other : ℕ) → ShowsOutrun runner number other history →
      WasOutrun asked runner.token number other history
  outrun-at number other (inl (inl met)) = record {
    above = met.0;
    report = λ is. absurd (never-removes runner.token (Lock number) history _ (free is) met.1);
    keeper = λ is. met;
  }
  outrun-at number other (inl (inr lost)) =
      absurd (never-lost deeds first history lawful runner.token number other lost)
  outrun-at number other (inr change) = record {
    above = changed-above deeds first history lawful runner.token number other change.1;
    report = λ is. change.1;
    keeper = λ is. absurd (true≢false
        (sym (subst (λ (one : Question). is_report one.request ≡ true) question change.0) ∙ is));
  }

  -- what own events show of a cause the history shows of the place
  shown-at : (cause : Cause) → answer.outcome.cause ≡ cause →
      (standing runner.token history).commit ≡ stage_of cause →
      IsShown runner answer history cause →
      IsShownAt deeds asked first history runner.token answer cause
  shown-at Changed told is shown =
      changed-at deeds first history lawful asked runner.token runner answer refl question began is
      told free shown
  shown-at Same told is shown = all-at is shown
  shown-at (Refused refusal) told is shown = all-at is shown
  shown-at (RefusedLine line refusal) told is shown = all-at is shown
  shown-at (BadSetting line) told is shown = all-at is shown
  shown-at (NoTable table) told is shown = some-at is shown
  shown-at (TooLarge (File (Table table))) told is shown = large-at is (Table table) shown
  shown-at (TooLarge (File Defs)) told is shown = large-at is Defs shown
  shown-at (Outrun number other) told is shown = outrun-at number other shown
  shown-at cause told is shown = shown

-- and how far the session came with its commit
reaches-stage : (deeds : SuiteDeeds) (first : Folder) (history : History) →
    Lawful deeds first history → (asked : Question) (token : Token) (stage : CommitStage) →
    (standing token history).command ≡ Some asked.command →
    (standing token history).commit ≡ stage → ReachesStage asked history token stage
reaches-stage deeds first history lawful asked token stage began commits = record {
  commits = commits;
  before = λ is.
      committed-once.none deeds first history lawful token (commits ∙ is);
  done = λ is.
      let made = once deeds first history lawful token (commits ∙ is) in
      let both : Some made.command ≡ Some asked.command = sym made.asked ∙ began in
      let same : made.command ≡ asked.command = cc both in (
        made.number,
        made.one ∙ ap (λ (one : Command). let commitment : Commitment = record {
          token = token;
          number = made.number;
          command = one;
        } in commitment ∷ []) same,
      );
}

-- so all that it shows of an answer
pub shows-at : (deeds : SuiteDeeds) (first : Folder) (history : History) →
    Lawful deeds first history → (asked : Question) (runner : Runner) (answer : Answer) →
    runner.asked ≡ asked → (standing runner.token history).command ≡ Some asked.command →
    (is_report asked.request ≡ true → RunsFree runner.token history) →
    (standing runner.token history).commit ≡ stage_of answer.outcome.cause →
    IsShown runner answer history answer.outcome.cause →
    Shows deeds asked first history runner.token answer
shows-at deeds first history lawful asked runner answer question began free commits shown = record {
  stage = reaches-stage deeds first history lawful asked runner.token
      (stage_of answer.outcome.cause) began commits;
  shown = shown-at deeds first history lawful asked runner answer question began free
      answer.outcome.cause refl commits shown;
}
