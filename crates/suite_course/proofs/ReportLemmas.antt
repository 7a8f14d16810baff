-- Claims: a report keeps no lock (`keeps-none`); and what it has shown gives its answer the place above the
-- greatest lock that it listed twice, and where it was alone that is the folder as it stood
-- (`reported-stayed`).
-- Way: what it has shown stood at one moment (`reports-hold`), so the fold of the place is as was shown. A
-- session that is alone and has called no create leaves the folder, whose greatest lock it listed.
use Rattle.std.proofs.Common.{◌≡◌, refl, sym, ap, subst, ◌∙◌, ◌∷◌, ◌++◌, [], ℕ, ◌+◌, ◌<◌, ◌≤◌, Bool, true, false, ◌==◌, ◌&&◌, cond, if◌then◌else◌, List, Option, Some, None, IfSome, option_map, true≢false, arith}
use Rattle.std.specs.List.{AllByRecursion}
use Rattle.std.specs.Option.{option_and_then}
use Rattle.std.proofs.lemmas.List.Elements.{filter-append, recursion_from_All}
use Rattle.std.proofs.lemmas.Slice.Eq.{bytes_eq-Decides}
use Rattle.acct_text.specs.Bytes.{Bytes}
use Rattle.acct_text.specs.declared.files.Files.{Files}
use Rattle.acct_text.specs.Contents.{Contents}
use Rattle.acct_outside.specs.declared.Name.{Name}
use Rattle.acct_outside.specs.declared.Name.TheVariants.{Lock}
use Rattle.acct_outside.specs.declared.Verdict.{Verdict}
use Rattle.acct_outside.specs.declared.Verdict.TheVariants.{Alive, Dead}
use Rattle.acct_outside.specs.declared.CommitStage.TheVariants.{Before}
use Rattle.acct_outside.specs.Tokens.{Token}
use Rattle.acct_outside.specs.Folder.{Folder, greatest, settings_file, top}
use Rattle.acct_outside.specs.Calls.{Call, Answer as CallAnswer, CallResult, Found, lists, reads, asks, creates, removes, done, found_absent, found_bytes, found_too_large}
use Rattle.acct_outside.specs.History.{Event, History, after, is_of, own_events}
use Rattle.account_model.specs.Request.{is_report}
use Rattle.account_model.specs.SeenFiles.{seen_files}
use Rattle.account_model.proofs.SeenLemmas.{sees-all}
use Rattle.suite_rules.specs.Deeds.{SuiteDeeds}
use Rattle.suite_rules.specs.OwnLock.{OwnLock, lock_uncalled, kept_number}
use Rattle.suite_rules.specs.Knowledge.{is_watched}
use Rattle.suite_rules.specs.Listing.{Listing, new_listing, listing_step, text_step, verdict_step, watch_step, watched_with, with_text, with_removed, before_create}
use Rattle.suite_rules.specs.Shown.{Shown, confirmed, shown_step}
use Rattle.suite_rules.specs.Standing.{Standing, standing, standing_step}
use Rattle.suite_rules.specs.Lawful.{Lawful}
use Rattle.suite_rules.specs.Settled.{settled}
use Rattle.suite_rules.specs.Committed.{Commitment, committed, fold_deeds, folded, place}
use Rattle.suite_rules.proofs.Commitments.{each-follows, place-below}
use Rattle.suite_rules.proofs.Once.{committed-once}
use Rattle.suite_rules.proofs.Reports.{reports-hold}
use Rattle.suite_rules.proofs.Settles.{file-facts, lawful-settles}
use Rattle.suite_rules.proofs.Whole.{invariant}
use Rattle.suite_answers.specs.declared.answer.Answer.{Answer}
use Rattle.suite_session.specs.Runner.{Question, Runner}
use Rattle.suite_session.specs.Answers.{IsAnswerSeen}
use Rattle.suite_session.specs.Causes.{Met}
use Rattle.suite_session.specs.Deeds.{files_of}
use Rattle.suite_session.specs.Reports.{AnswersShown, ChangesNothing, IsFreeCall, RunsFree}
use Rattle.suite_session.proofs.FreeLemmas.{free-uncalled}
use Rattle.suite_course.specs.Alone.{AnswersAlone, IsAlone}
use Rattle.suite_course.specs.Shows.{HasNumber, HasStayed, IsAnswerAt}
use Rattle.suite_course.proofs.AloneLemmas.{all-rest}
use Rattle.suite_course.proofs.AloneSteps.{IsListingOf, LocksAlone, there}
use Rattle.suite_course.proofs.AloneStays.{alone-locks}

-- ---- No lock

-- the first claim
pub keeps-none : (token : Token) (history : History) (number : ℕ) → RunsFree token history →
    kept_number (standing token history).own ≡ Some number → ⊥
keeps-none token history number runs kept =
    let wrong : None ≡ Some number =
    sym (ap kept_number (free-uncalled token history runs.free)) ∙ kept in
    absurd (cc wrong)

-- each event of it changes no name
pub free-event : (token : Token) (event : Event) (newer older : History) → event.token ≡ token →
    ChangesNothing token (newer ++ event ∷ older) → IsFreeCall event.call
free-event token event newer older same free =
    first (is_of token event) ((bytes_eq-Decides event.token token).1 same)
    (all-rest (λ one. IsFreeCall one.call) (own_events token newer)
    (own_events token (event ∷ older))
    (subst (AllByRecursion (λ one. IsFreeCall one.call))
    (filter-append (is_of token) newer (event ∷ older)) free))
  where
    first : (own : Bool) → own ≡ true → AllByRecursion (λ one. IsFreeCall one.call)
        (cond own (event ∷ own_events token older) (own_events token older)) →
        IsFreeCall event.call
    first true is all = all.0
    first false is all = absurd (true≢false (sym is))

-- so it has removed nothing
pub never-removes : (token : Token) (name : Name) (history : History) (Stood : Standing → Type 0) →
    RunsFree token history → Met token (removes name) tt Stood history → ⊥
never-removes token name history Stood runs met =
    let event : Event = record { token = token; call = removes name; result = done tt } in
    free-event token event met.newer met.older refl
    (subst (ChangesNothing token) met.parts runs.free)

-- the number of a lock that was kept is that of the answer's place
pub kept-number-of : (asked : Question) (token : Token) (history : History) (number : ℕ) →
    (is_report asked.request ≡ true → RunsFree token history) →
    kept_number (standing token history).own ≡ Some number →
    HasNumber asked (standing token history) number
kept-number-of asked token history number free kept = record {
  report = λ is. absurd (keeps-none token history number (free is) kept);
  keeper = λ is. kept;
}

-- who kept a lock is no report, and sees all files as they stand
pub keeper-sees : (asked : Question) (token : Token) (history : History) (number : ℕ) →
    (is_report asked.request ≡ true → RunsFree token history) →
    kept_number (standing token history).own ≡ Some number → (files : Files) →
    seen_files asked.request files ≡ files
keeper-sees asked token history number free kept files = cases (is_report asked.request) refl
  where
    cases : (is_one : Bool) → is_report asked.request ≡ is_one →
        seen_files asked.request files ≡ files
    cases true is = absurd (keeps-none token history number (free is) kept)
    cases false is = sees-all asked.request is files

-- ---- What was listed twice

-- what is shown is of the number that the last listing has as its greatest
abbrev pub IsOfListing : Option Listing → Option Shown → Type 0
IsOfListing listing None = Unit {0}
IsOfListing None (Some shown) = ⊥
IsOfListing (Some listing) (Some shown) = greatest listing.numbers ≡ shown.number

-- a note that leaves the numbers leaves that
note-of : (note : Listing → Listing) → ((one : Listing) → (note one).numbers ≡ one.numbers) →
    (listing : Option Listing) (shown : Option Shown) → IsOfListing listing shown →
    IsOfListing (option_map note listing) shown
note-of note same listing None is = tt
note-of note same None (Some shown) is = is
note-of note same (Some listing) (Some shown) is = ap greatest (same listing) ∙ is

-- a read, a verdict and a removal leave the numbers
text-same : (number : ℕ) (text : Bytes) (one : Listing) →
    (text_step number text one).numbers ≡ one.numbers
text-same number text one = cases (number == greatest one.numbers)
  where
    cases : (same : Bool) → (if same then with_text text one else one).numbers ≡ one.numbers
    cases true = refl
    cases false = refl

-- a file that was watched leaves the listed numbers as they were
watch-same : (name : Name) (found : Found) (one : Listing) →
    (watch_step name found one).numbers ≡ one.numbers
watch-same name found one = cases (is_watched name && one.is_judged)
  where
    noted_by : Bool → Listing
    noted_by watches =
        if watches then record one { watched = watched_with name found one.watched } else one

    cases : (watches : Bool) → (noted_by watches).numbers ≡ one.numbers
    cases true = refl
    cases false = refl

-- and so does a verdict on a holder
verdict-same : (token : Token) (verdict : Verdict) (one : Listing) →
    (verdict_step token verdict one).numbers ≡ one.numbers
verdict-same token Alive one = refl
verdict-same token Dead one = refl

-- a listing confirms its own numbers
confirmed-of : (numbers : List ℕ) (listing : Option Listing) →
    IsOfListing (Some (new_listing false numbers)) (option_and_then (confirmed numbers) listing)
confirmed-of numbers None = tt
confirmed-of numbers (Some listing) =
    cases (listing.is_judged && (greatest numbers == greatest listing.numbers))
  where
    cases : (confirms : Bool) → IsOfListing (Some (new_listing false numbers)) (if confirms
        then Some (record { number = greatest numbers; file = listing.watched })
        else None)
    cases true = refl
    cases false = tt

-- each call keeps it so
shown-step : (own : OwnLock) (call : Call) (result : CallResult (CallAnswer call))
    (listing : Option Listing) (shown : Option Shown) → IsOfListing listing shown →
    IsOfListing (listing_step own call result listing) (shown_step own listing call result shown)
shown-step lock_uncalled lists (done numbers) listing shown is = confirmed-of numbers listing
shown-step own lists (done numbers) listing shown is = tt
shown-step own (reads (Lock number)) (done (found_bytes text)) listing shown is =
    note-of (text_step number text) (text-same number text) listing shown is
shown-step own (reads (Lock number)) (done found_absent) listing shown is =
    note-of (watch_step (Lock number) found_absent) (watch-same (Lock number) found_absent)
    listing shown is
shown-step own (reads (Lock number)) (done found_too_large) listing shown is =
    note-of (watch_step (Lock number) found_too_large) (watch-same (Lock number) found_too_large)
    listing shown is
shown-step own (reads name) (done found) listing shown is =
    note-of (watch_step name found) (watch-same name found) listing shown is
shown-step own (asks token) (done verdict) listing shown is =
    note-of (verdict_step token verdict) (verdict-same token verdict) listing shown is
shown-step own (creates number) result listing shown is =
    note-of before_create (λ one. refl) listing shown is
shown-step own (removes (Lock number)) (done answer) listing shown is =
    note-of (with_removed number) (λ one. refl) listing shown is
shown-step own call result listing shown is = is

-- so it is after each history
shown-of : (token : Token) (history : History) →
    IsOfListing (standing token history).listing (standing token history).shown
shown-of token [] = tt
shown-of token (event ∷ history) = cases (is_of token event) (shown-of token history)
  where
    was : Standing
    was = standing token history

    cases : (own : Bool) → IsOfListing was.listing was.shown → IsOfListing
        (if own then standing_step event.call event.result was else was).listing
        (if own then standing_step event.call event.result was else was).shown
    cases true before =
        shown-step was.own event.call event.result was.listing was.shown before
    cases false before = before

-- ---- A report that answered

module _ (deeds : SuiteDeeds) (first : Folder) (history : History)
    (lawful : Lawful deeds first history) (asked : Question) (token : Token) where
  -- a session that is alone and hasn't called create leaves the folder as it was
  pub folder-stays : (standing token history).own ≡ lock_uncalled → (old : History) →
      IsAlone token old history → after first history ≡ after first old
  folder-stays uncalled old alone =
      (subst (LocksAlone (after first old) (after first history) (standing token history).listing)
      uncalled (alone-locks deeds first token old history alone lawful)).0

  -- what it has shown then is of the greatest lock
  shown-top : (standing token history).own ≡ lock_uncalled → (old : History) →
      IsAlone token old history → (shown : Shown) → (standing token history).shown ≡ Some shown →
      shown.number ≡ top (after first old)
  shown-top uncalled old alone shown shows =
      cases (standing token history).listing
      (subst (IsOfListing (standing token history).listing) shows (shown-of token history))
      (subst (LocksAlone (after first old) (after first history) (standing token history).listing)
      uncalled (alone-locks deeds first token old history alone lawful)).1
    where
      cases : (listing : Option Listing) → IsOfListing listing (Some shown) →
          IfSome listing (IsListingOf (after first old)) → shown.number ≡ top (after first old)
      cases None is listed = absurd is
      cases (Some listing) is listed = sym is ∙ ap greatest listed.numbers

  -- all that was committed has a number below the next
  all-below : (number : ℕ) → number ≡ top (after first history) →
      place (number + 1) (committed history) ≡ committed history
  all-below number is = place-below (number + 1) (committed history)
      (each-follows (λ one. one.number ≤ top (after first history)) (λ one. one.number < number + 1)
      (committed history) (λ one most. omega (arith, most, is))
      (recursion_from_All (λ one. one.number ≤ top (after first history)) (committed history)
      (invariant deeds first history lawful).settled_is_fold.at_most_top))

  -- where it was alone its answer is that on the folder as it stood
  reported-alone : (shown : Shown) (given : Answer) →
      (standing token history).own ≡ lock_uncalled →
      (standing token history).commit ≡ Before → (standing token history).shown ≡ Some shown →
      IsAnswerAt deeds asked first history (shown.number + 1) given →
      AnswersAlone deeds asked first history token given
  reported-alone shown given uncalled before shows there old alone =
      let same = folder-stays uncalled old alone in
      let top_is = shown-top uncalled old alone shown shows in
      let list = all-below shown.number (top_is ∙ sym (ap top same)) in
      let files : folded deeds first (place (shown.number + 1) (committed history))
      ≡ settled (after first old) =
      ap (folded deeds first) list
      ∙ ((λ i table. (sym (lawful-settles.is_fold deeds first history lawful table)) i)
      ∙ ap settled same) in
      let settings : settings_file first ≡ settings_file (after first old) =
      sym (file-facts deeds first history lawful).settings ∙ ap settings_file same in
      let none = committed-once.none deeds first history lawful token before in
      record {
        is_answer = subst (λ (one : Option Bytes).
            IsAnswerSeen asked (files_of (settled (after first old))) one given) settings
            (subst (λ (one : Contents). IsAnswerSeen asked (files_of one) (settings_file first) given)
            files there);
        settles = λ table. ap (λ (one : Folder). settled one table) same
            ∙ ap (λ (own : List Commitment). fold_deeds deeds (settings_file (after first old))
            (settled (after first old)) own table) (sym none);
      }

  -- the second claim
  pub reported-stayed : (runner : Runner) (given : Answer) → runner.asked ≡ asked →
      (standing token history).commit ≡ Before →
      AnswersShown runner given (standing token history) →
      HasStayed deeds asked first history token given
  reported-stayed runner given question before all =
      let number = all.shown.number + 1 in
      let files = folded deeds first (place number (committed history)) in
      let there : IsAnswerAt deeds asked first history number given =
      subst (λ (one : Question). IsAnswerSeen one (files_of files) (settings_file first) given)
      question (all.is_answer files (settings_file first) (record {
        listed = reports-hold.listed deeds first history lawful token all.shown all.shows all.intent
            all.shows_intent;
        unlisted = reports-hold.unlisted deeds first history lawful token all.shown all.shows
            all.intent all.shows_intent;
        settings = reports-hold.settings deeds first history lawful token all.shown all.shows;
      })) in
      let is_one : is_report asked.request ≡ true =
      subst (λ (one : Question). is_report one.request ≡ true) question all.report in
      record {
        number = number;
        has_number = record {
          report = λ is. record {
            uncalled = all.uncalled;
            shown = all.shown;
            shows = all.shows;
            next = refl;
          };
          keeper = λ is. absurd (true≢false (sym is_one ∙ is));
        };
        none = committed-once.none deeds first history lawful token before;
        at_place = there;
        alone = reported-alone all.shown given all.uncalled before all.shows there;
      }
