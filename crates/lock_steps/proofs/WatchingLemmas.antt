-- Claim: where a step of a session that takes no lock leads on, it stands as its next state says
-- (`intent-leads`, `read-leads`, `confirm-leads`), and its next call is permitted (`next-intent`,
-- `next-gathering`). Way: what is read once the greatest lock is judged is watched (`watches`), and a listing
-- with the same greatest lock shows it (`shows`).
use Rattle.std.proofs.Common.{◌≡◌, refl, sym, ap, ap₂, subst, ◌∙◌, ℕ, ◌<◌, ◌==◌, true, ◌&&◌, List, [], ◌∷◌, length, get_or, slice_get, Option, Some, None, Result, Ok, Err, true≢false, arith}
use Rattle.std.specs.Prelude.{IfOk, IfErr}
use Rattle.std.proofs.lemmas.Bool.{and_from}
use Rattle.std.proofs.lemmas.Bool.Decides.{Decides-eqb}
use Rattle.acct_text.specs.declared.Tab.{Tab}
use Rattle.acct_text.specs.Bytes.{Bytes}
use Rattle.acct_outside.specs.declared.Name.{Name}
use Rattle.acct_outside.specs.declared.Name.TheVariants.{Table, Intent, Lock, Defs}
use Rattle.acct_outside.specs.declared.Call.TheVariants.{Locks, Read}
use Rattle.acct_outside.specs.declared.FolderFault.{FolderFault}
use Rattle.acct_outside.specs.declared.FolderFault.TheVariants.{Failed, Memory}
use Rattle.acct_outside.specs.Tokens.{Token}
use Rattle.acct_outside.specs.Folder.{greatest}
use Rattle.acct_outside.specs.Calls.{Call, Found, found_bytes, lists, reads, done}
use Rattle.acct_outside.specs.declared.Found.{Found as Reading}
use Rattle.acct_text.specs.Limits.{table_limit}
use Rattle.acct_outside.specs.Names.{name_limit}
use Rattle.acct_outside.specs.Contract.{IsName, Tells, TellsRead, found_result}
use Rattle.acct_outside.specs.Moment.{Narrows, Moment}
use Rattle.intent_file.specs.Intent.{Intended, NewTable, ReadsIntent, read_intent}
use Rattle.intent_file.specs.Parts.{FirstFault}
use Rattle.intent_file.proofs.FirstFaultIsOne.{first_fault_is_one_holds}
use Rattle.intent_file.proofs.Reading.{computed_reads, reads_computes}
use Rattle.suite_rules.specs.Knowledge.{is_input, is_watched}
use Rattle.suite_rules.specs.Settled.{listed_by, tables_of_intent}
use Rattle.suite_rules.specs.Listing.{Listing, watched_with, read_step}
use Rattle.suite_rules.specs.OwnLock.{OwnLock, confirm_step}
use Rattle.suite_rules.specs.Shown.{shown_step}
use Rattle.suite_rules.specs.Standing.{Standing, standing_step}
use Rattle.suite_rules.specs.Rules.{free_listing, free_read}
use Rattle.suite_rules.specs.Steps.{StandsIn}
use Rattle.suite_rules.proofs.Names.{then-is}
use Rattle.suite_rules.proofs.StepLemmas.{read-tells, stands-done, told-of}
use Rattle.lock_steps.specs.declared.gathered.IntentFound.{IntentFound}
use Rattle.lock_steps.specs.declared.LockEnd.{LockEnd}
use Rattle.lock_steps.specs.States.{Lister}
use Rattle.lock_steps.specs.Stands.{HasJudged}
use Rattle.lock_steps.specs.NextCall.{IsNextCall, next_or}
use Rattle.lock_steps.specs.Gathered.{AreUnread, HasFound, TellsIntent, listed_at}
use Rattle.lock_steps.specs.Watching.{Gatherer, Report, ConfirmsFound, HasGathered, HasReported, ReadsIntentFirst, GathersOn, begun_reading, gathering_call, next_left, gathered_on, report_of}
use Rattle.lock_steps.proofs.GatheredLemmas.{begun-found, read-found}

-- what is read once the greatest lock is judged is watched
watches : (name : Name) → is_watched name ≡ true → (found : Found) (listing : Listing) →
    listing.is_judged ≡ true → read_step name found (Some listing)
    ≡ Some (record listing { watched = watched_with name found listing.watched })
watches Intent is found listing judged =
    ap (λ (one : Listing). let some : Option Listing = Some one in some)
    (then-is listing.is_judged _ listing judged)
watches (Table table) is found listing judged =
    ap (λ (one : Listing). let some : Option Listing = Some one in some)
    (then-is listing.is_judged _ listing judged)
watches Defs is found listing judged =
    ap (λ (one : Listing). let some : Option Listing = Some one in some)
    (then-is listing.is_judged _ listing judged)
watches name is found listing judged = absurd (true≢false (sym is))

-- an input is watched
watched-input : (name : Name) → is_input name ≡ true → is_watched name ≡ true
watched-input Intent is = refl
watched-input name is = is

-- and it is a name of the folder
pub input-name : (name : Name) → is_input name ≡ true → IsName name
input-name (Lock number) is = absurd (true≢false (sym is))
input-name name is = tt

-- the read of the intent leads from the judged lock to what was found
begins : (watcher : Lister) (wanted : List Tab) (found : Found) (intent : IntentFound) →
    TellsIntent found intent → (stood : Standing) → HasJudged watcher stood →
    HasGathered (begun_reading watcher wanted intent (listed_at found))
    (standing_step (reads Intent) (done found) stood)
begins watcher wanted found intent told stood held = record {
  owns = held.owns;
  listing = record held.listing { watched = watched_with Intent found held.listing.watched };
  listed = ap (read_step Intent found) held.listed
      ∙ watches Intent refl found held.listing held.is_such;
  is_greatest = held.is_greatest;
  is_such = (held.is_such, begun-found wanted held.listing.watched found intent told);
}

-- a further read adds what it found
goes-on : (reading : Gatherer) (left : List Name) → reading.left ≡ left → 0 < length left →
    AreUnread reading.gathered.large reading.left → (found : Found) (stood : Standing) →
    HasGathered reading stood →
    HasGathered (gathered_on reading found)
    (standing_step (reads (next_left reading)) (done found) stood)
goes-on reading [] is some unread found stood held = absurd (omega (arith, some))
goes-on reading (name ∷ names) is some unread found stood held = rw is (record {
  owns = held.owns;
  listing = record held.listing { watched = watched_with name found held.listing.watched };
  listed = ap (read_step name found) held.listed
      ∙ watches name (watched-input name apart.0) found held.listing held.is_such.0;
  is_greatest = held.is_greatest;
  is_such = (
    held.is_such.0,
    read-found reading.wanted held.listing.watched reading.gathered name names found apart
        (subst (λ (left : List Name).
        HasFound reading.wanted held.listing.watched reading.gathered left) is
        held.is_such.1),
  );
})
  where
    apart : AreUnread reading.gathered.large (name ∷ names)
    apart = subst (λ (left : List Name). AreUnread reading.gathered.large left) is unread

-- a list without elements is empty
no-names : (names : List Name) → length names ≡ 0 → names ≡ []
no-names [] none = refl
no-names (name ∷ names) none = absurd (cc none)

-- a listing with the same greatest lock shows what was found
shows : (reading : Gatherer) (numbers : List ℕ) → greatest numbers ≡ reading.number →
    length reading.left ≡ 0 → (stood : Standing) → HasGathered reading stood →
    HasReported (report_of reading) (standing_step lists (done numbers) stood)
shows reading numbers is none stood held = record {
  uncalled = ap (λ (own : OwnLock). confirm_step (greatest numbers) own) held.owns;
  shown = record { number = greatest numbers; file = held.listing.watched };
  shows = ap₂ (λ (own : OwnLock) (listing : Option Listing).
      shown_step own listing lists (done numbers) stood.shown) held.owns held.listed
      ∙ then-is (held.listing.is_judged && (greatest numbers == greatest held.listing.numbers)) _ _
      (and_from held.listing.is_judged _ held.is_such.0
      ((Decides-eqb (greatest numbers) (greatest held.listing.numbers)).1
      (is ∙ sym held.is_greatest)));
  number = is;
  is_found = subst (λ (left : List Name).
      HasFound reading.wanted held.listing.watched reading.gathered left)
      (no-names reading.left none) held.is_such.1;
}

-- What each call leads to, by a folder that admits no more than before.
module _ (before now : Moment) (narrows : Narrows before.admits now.admits) (token : Token) where
  -- the read of the intent
  pub intent-leads :
      (watcher : Lister) (wanted : List Tab) (answer : Result Found FolderFault)
      (result : Result Gatherer FolderFault)
      → ReadsIntentFirst watcher wanted answer result
      → StandsIn before token (HasJudged watcher)
      → Tells before now token (reads Intent) answer
      → IfOk result (λ reading. StandsIn now token (HasGathered reading))
  intent-leads watcher wanted (Ok found) (Ok reading) shown stands tells =
      stands-done before.admits now.admits narrows token (reads Intent) tt (HasJudged watcher)
      (HasGathered reading) found
      (λ stood held. subst (λ (one : Gatherer).
      HasGathered one (standing_step (reads Intent) (done found) stood)) (sym shown.1)
      (begins watcher wanted found reading.gathered.intent shown.0 stood held))
      before.told now.told stands tells
  intent-leads watcher wanted (Err fault) (Ok reading) shown stands tells = absurd shown
  intent-leads watcher wanted answer (Err came) shown stands tells = tt

  -- a read of the next name
  pub read-leads :
      (reading : Gatherer) (answer : Result Found FolderFault)
      (result : Result Gatherer FolderFault)
      → 0 < length reading.left
      → AreUnread reading.gathered.large reading.left
      → GathersOn reading answer result
      → StandsIn before token (HasGathered reading)
      → Tells before now token (reads (next_left reading)) answer
      → IfOk result (λ more. StandsIn now token (HasGathered more))
  read-leads reading (Ok found) (Ok more) some unread shown stands tells =
      stands-done before.admits now.admits narrows token (reads (next_left reading)) tt
      (HasGathered reading) (HasGathered more) found
      (λ stood held. subst (λ (one : Gatherer).
      HasGathered one (standing_step (reads (next_left reading)) (done found) stood)) (sym shown)
      (goes-on reading reading.left refl some unread found stood held))
      before.told now.told stands tells
  read-leads reading (Err fault) (Ok more) some unread shown stands tells = absurd shown
  read-leads reading answer (Err came) some unread shown stands tells = tt

  -- the second listing
  pub confirm-leads :
      (reading : Gatherer) (answer : Result (List ℕ) FolderFault) (result : Result Report LockEnd)
      → length reading.left ≡ 0
      → ConfirmsFound reading answer result
      → StandsIn before token (HasGathered reading)
      → Tells before now token lists answer
      → IfOk result (λ report. StandsIn now token (HasReported report))
  confirm-leads reading (Ok numbers) (Ok report) none shown stands tells =
      stands-done before.admits now.admits narrows token lists tt (HasGathered reading)
      (HasReported report) numbers
      (λ stood held. subst (λ (one : Report).
      HasReported one (standing_step lists (done numbers) stood)) (sym shown.1)
      (shows reading numbers shown.0 none stood held))
      before.told now.told stands tells
  confirm-leads reading (Err fault) (Ok report) none shown stands tells = absurd shown
  confirm-leads reading answer (Err end) none shown stands tells = tt

-- the read of the intent is free
pub next-intent : (watcher : Lister) → IsNextCall (HasJudged watcher) (reads Intent) (Read Intent)
next-intent watcher = record {
  names = refl;
  later = λ has. tt;
  permitted = λ deeds stood held. free_read Intent;
}

-- with names left it reads the first of them
pub next-gathering : (reading : Gatherer) (left : List Name) → reading.left ≡ left →
    AreUnread reading.gathered.large left → 0 < length left → (name : Name) →
    name ≡ get_or left 0 name →
    IsNextCall (HasGathered reading) (gathering_call reading) (Read name)
next-gathering reading [] is unread some name first = absurd (omega (arith, some))
next-gathering reading (next ∷ names) is unread some name first = rw (is, first) (record {
  names = refl;
  later = λ has. input-name next unread.0;
  permitted = λ deeds stood held. free_read next;
})

-- the name that is read is the first of those that are left, and an input
pub first-name : (large left : List Name) (name : Name) → 0 < length left →
    name ≡ get_or left 0 name → AreUnread large left →
    (name ≡ get_or left 0 Defs) × (is_input name ≡ true)
first-name large [] name some first unread = absurd (omega (arith, some))
first-name large (next ∷ names) name some first unread = (first, ap is_input first ∙ unread.0)

-- a read of it, with the limit of a table, tells the read's event
pub next-told : (next name : Name) → name ≡ next → is_input name ≡ true → (before now : Moment)
    (by token : Token) → by ≡ token → (found : Result Reading FolderFault) →
    TellsRead before now by name table_limit found →
    Tells before now token (reads next) (found_result found)
next-told next name is input before now by token same found tells =
    told-of before now by token (reads next) (found_result found) same
    (read-tells before now by next found
    (subst (λ (other : Name). TellsRead before now by other (name_limit other) found) is
    (subst (λ (limit : ℕ). TellsRead before now by name limit found) (sym (limit name input))
    tells)))
  where
    limit : (name : Name) → is_input name ≡ true → name_limit name ≡ table_limit
    limit (Table table) input = refl
    limit Defs input = refl
    limit name input = absurd (true≢false (sym input))

-- with none left it lists the locks
pub next-confirm : (reading : Gatherer) → length reading.left ≡ 0 →
    IsNextCall (HasGathered reading) (gathering_call reading) Locks
next-confirm reading none =
    subst (λ (next : Call). IsNextCall (HasGathered reading) next Locks)
    (sym (ap (λ (names : List Name). next_or lists reads (slice_get names 0))
    (no-names reading.left none)))
    (record {
      names = refl;
      later = λ has. tt;
      permitted = λ deeds stood held. free_listing;
    })

-- the tables that bytes list which read as an intent are the intent's
pub listed-read : (bytes : Bytes) (intended : Intended) → ReadsIntent bytes intended →
    listed_by (Some bytes) ≡ intended.tables
listed-read bytes intended reads_it = ap tables_of_intent (reads_computes bytes intended reads_it)

-- bytes with a part that doesn't stand list none
pub listed-damaged : (bytes : Bytes) (part : ℕ) → FirstFault bytes part →
    listed_by (Some bytes) ≡ []
listed-damaged bytes part fault = cases (read_intent bytes) refl
  where
    cases : (found : Option Intended) → read_intent bytes ≡ found → tables_of_intent found ≡ []
    cases None is = refl
    cases (Some intended) is = absurd
        (first_fault_is_one_holds.none_if_read bytes part intended fault
        (computed_reads bytes intended is))

-- where the bytes at the intent lead on, the result is told as a read of them
pub bytes-shown : (watcher : Lister) (wanted : List Tab) (bytes : Bytes) (intent : IntentFound)
    (tables : List NewTable) (result : Result Gatherer FolderFault) →
    TellsIntent (found_bytes bytes) intent → listed_by (Some bytes) ≡ tables →
    IfOk result (λ reading. reading ≡ begun_reading watcher wanted intent tables) →
    IfErr result (λ fault. fault ≡ Memory) →
    ReadsIntentFirst watcher wanted (Ok (found_bytes bytes)) result
bytes-shown watcher wanted bytes intent tables (Ok reading) told listed begun failed =
    let same = ap (λ (one : Gatherer). one.gathered.intent) begun in (
      subst (TellsIntent (found_bytes bytes)) (sym same) told,
      begun ∙ ap₂ (begun_reading watcher wanted) (sym same) (sym listed),
    )
bytes-shown watcher wanted bytes intent tables (Err Memory) told listed begun failed = tt
bytes-shown watcher wanted bytes intent tables (Err Failed) told listed begun failed =
    absurd (cc failed)
