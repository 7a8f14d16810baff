-- Claim: what a session without a lock has watched stands, or a greater lock does (`report-view`). Way:
-- what is watched was found now or was watched before (`watched-origin`). Only an active keeper changes
-- files, and the number of its lock is the greatest; nobody holds a judged lock, so a greater one stands
-- (`files-or-past`).
use Rattle.std.proofs.Common.{◌≡◌, ◌≢◌, refl, sym, ap, ◌∙◌, ◌⊎◌, inl, inr, ℕ, ◌<◌, ◌≤◌, Bool, true, false, ◌||◌, ◌&&◌, ◌==◌, if◌then◌else◌, nat_lt, [], ◌∷◌, Option, Some, None, option_map, true≢false, arith}
use Rattle.std.proofs.lemmas.Bool.Decides.{nat_tests}
use Rattle.acct_text.specs.Bytes.{Bytes}
use Rattle.acct_outside.specs.declared.Name.{Name}
use Rattle.acct_outside.specs.declared.Name.TheVariants.{Lock}
use Rattle.acct_outside.specs.declared.Verdict.{Verdict}
use Rattle.acct_outside.specs.declared.Verdict.TheVariants.{Alive, Dead}
use Rattle.acct_outside.specs.Names.{name_limit, same_name}
use Rattle.acct_outside.specs.Tokens.{Token}
use Rattle.acct_outside.specs.Folder.{Folder, greatest, top}
use Rattle.acct_outside.specs.Calls.{Found, found_within}
use Rattle.acct_outside.specs.History.{Event, History, after}
use Rattle.acct_outside.specs.Life.{life, running, runs_in}
use Rattle.suite_rules.specs.Deeds.{SuiteDeeds}
use Rattle.suite_rules.specs.OwnLock.{OwnLock, lock_kept, made_number, held_number, has_called_create}
use Rattle.suite_rules.specs.Knowledge.{is_watched}
use Rattle.suite_rules.specs.Listing.{Listing, new_listing, with_text, text_step, verdict_step, before_create, with_removed, watch_step}
use Rattle.suite_rules.specs.Standing.{Standing, standing}
use Rattle.suite_rules.specs.Rules.{KeeperRule}
use Rattle.suite_rules.specs.Lawful.{IsNext, Lawful, goes_on}
use Rattle.suite_rules.specs.Invariant.{ReportViewHolds}
use Rattle.suite_rules.proofs.Numbers.{number-is, number-differs}
use Rattle.acct_outside.proofs.NameLemmas.{name-is}
use Rattle.suite_rules.proofs.Names.{is_lock}
use Rattle.suite_rules.proofs.Sessions.{each, other-standing}
use Rattle.suite_rules.proofs.Effects.{SameFiles}
use Rattle.suite_rules.proofs.LockSteps.{LockStep, lock_quiet, lock_listed, lock_read, lock_watched, lock_told, lock_tried, lock_created, lock_given_up, lock_removed}
use Rattle.suite_rules.proofs.LockOrigins.{watched_where, map-origin, unmade-before}
use Rattle.suite_rules.proofs.LockFacts.{moment, LockFacts, HeldByOrPast, top-rises}
use Rattle.std.proofs.lemmas.Bool.{and_parts}
use Rattle.suite_rules.proofs.Keepers.{own-step, event-moves, lock-facts}
use Rattle.suite_rules.proofs.Settles.{effect-of, effect-others}

-- where what was watched at a name comes from: it was found now, or watched before under the same lock
data WatchedOrigin (before : Folder) (standing : Standing) (listing : Listing) (name : Name)
    (found : Found) : Type 0 where
  found_now : is_watched name ≡ true → listing.is_judged ≡ true →
      found ≡ found_within (name_limit name) (before.file name) →
      WatchedOrigin before standing listing name found
  watched_before : (old : Listing) → standing.listing ≡ Some old →
      listing.numbers ≡ old.numbers → (old.is_judged ≡ true → listing.is_judged ≡ true) →
      old.watched name ≡ Some found → WatchedOrigin before standing listing name found

-- a listing with a note that leaves its numbers and what was watched, and whether it is judged where
-- it is
record LeavesWatched (new old : Listing) : Type 0 where
  numbers : new.numbers ≡ old.numbers
  judged : old.is_judged ≡ true → new.is_judged ≡ true
  watched : new.watched ≡ old.watched

-- a listing is left by itself
leaves-same : (one : Listing) → LeavesWatched one one
leaves-same one = record { numbers = refl; judged = λ judged. judged; watched = refl }

-- more tests hold where one does
more-judged : (one other : Bool) → one ≡ true → (one || other) ≡ true
more-judged true other is = refl
more-judged false other is = absurd (true≢false (sym is))

-- a text that was read leaves what was watched
text-leaves : (number : ℕ) (text : Bytes) (one : Listing) →
    LeavesWatched (text_step number text one) one
text-leaves number text one = cases (number == greatest one.numbers)
  where
    cases : (same : Bool) → LeavesWatched (if same then with_text text one else one) one
    cases true =
        record { numbers = refl; judged = more-judged one.is_judged _; watched = refl }
    cases false = leaves-same one

-- so does a verdict
verdict-leaves : (asked : Token) (verdict : Verdict) (one : Listing) →
    LeavesWatched (verdict_step asked verdict one) one
verdict-leaves asked Alive one = leaves-same one
verdict-leaves asked Dead one =
    record { numbers = refl; judged = more-judged one.is_judged _; watched = refl }

-- so does a create
created-leaves : (one : Listing) → LeavesWatched (before_create one) one
created-leaves one = record { numbers = refl; judged = λ judged. judged; watched = refl }

-- and the removal of a lock
removed-leaves : (number : ℕ) (one : Listing) → LeavesWatched (with_removed number one) one
removed-leaves number one = record { numbers = refl; judged = λ judged. judged; watched = refl }

module _ (history : History) (token : Token) (before after : Folder) (standing later : Standing)
    (listing : Listing) (known : later.listing ≡ Some listing) (name : Name) (found : Found)
    (watched : listing.watched name ≡ Some found) where
  -- it was watched before, where the listing stays
  same-watched : later.listing ≡ standing.listing →
      WatchedOrigin before standing listing name found
  same-watched same = watched_before listing (sym same ∙ known) refl (λ judged. judged) watched

  -- so it was where the listing has a note that leaves what was watched
  noted-watched : (note : Listing → Listing) →
      ((one : Listing) → LeavesWatched (note one) one) →
      later.listing ≡ option_map note standing.listing →
      WatchedOrigin before standing listing name found
  noted-watched note leaves same =
      cases (map-origin note standing.listing listing (sym same ∙ known))
    where
      cases : (old : Listing) × (standing.listing ≡ Some old) × (listing ≡ note old) →
          WatchedOrigin before standing listing name found
      cases (old, had, new) =
          let left = leaves old in
          watched_before old had (ap (λ (one : Listing). one.numbers) new ∙ left.numbers)
          (λ judged. ap (λ (one : Listing). one.is_judged) new ∙ left.judged judged)
          (sym (ap (λ (one : Listing). one.watched name) new
          ∙ ap (λ (sights : Name → Option Found). sights name) left.watched) ∙ watched)

  -- it was found by this read, or watched before it
  read-watched : (asked : Name) (sight : Found) →
      sight ≡ found_within (name_limit asked) (before.file asked) →
      later.listing ≡ option_map (watch_step asked sight) standing.listing →
      WatchedOrigin before standing listing name found
  read-watched asked sight finds same =
      let old = map-origin (watch_step asked sight) standing.listing listing (sym same ∙ known) in
      cases old.0 old.1 (is_watched asked && old.0.is_judged) refl old.2
    where
      at : (old : Listing) → standing.listing ≡ Some old → is_watched asked ≡ true →
          old.is_judged ≡ true → listing ≡ watched_where true asked sight old →
          (here : Bool) → same_name name asked ≡ here →
          (if here then Some sight else old.watched name) ≡ Some found →
          WatchedOrigin before standing listing name found
      at old had watches judged new true here is =
          let equal : sight ≡ found = cc in
          let place = name-is name asked here in
          found_now (ap is_watched place ∙ watches)
          (ap (λ (one : Listing). one.is_judged) new ∙ judged)
          (sym equal ∙ (finds ∙ ap (λ (one : Name).
          found_within (name_limit one) (before.file one)) (sym place)))
      at old had watches judged new false here is =
          watched_before old had (ap (λ (one : Listing). one.numbers) new)
          (λ was. ap (λ (one : Listing). one.is_judged) new ∙ was) is

      cases : (old : Listing) → standing.listing ≡ Some old → (watches : Bool) →
          (is_watched asked && old.is_judged) ≡ watches →
          listing ≡ watched_where watches asked sight old →
          WatchedOrigin before standing listing name found
      cases old had true both new =
          let parts = and_parts (is_watched asked) old.is_judged both in
          at old had parts.0 parts.1 new (same_name name asked) refl
          (sym (ap (λ (one : Listing). one.watched name) new) ∙ watched)
      cases old had false neither new =
          watched_before old had (ap (λ (one : Listing). one.numbers) new)
          (λ judged. ap (λ (one : Listing). one.is_judged) new ∙ judged)
          (sym (ap (λ (one : Listing). one.watched name) new) ∙ watched)

  -- where what was watched comes from
  watched-origin : LockStep history token before after standing later →
      WatchedOrigin before standing listing name found
  watched-origin (lock_quiet locks own same) = same-watched same
  watched-origin (lock_listed locks own new) =
      let is : listing ≡ new_listing (has_called_create standing.own) before.locks = cc in
      let none : None ≡ Some found = sym (ap (λ (one : Listing). one.watched name) is)
      ∙ watched in
      absurd (cc)
  watched-origin (lock_read number text stands locks own same) =
      noted-watched (text_step number text) (text-leaves number text) same
  watched-origin (lock_watched asked sight finds locks own same) =
      read-watched asked sight finds same
  watched-origin (lock_told asked verdict given locks own same) =
      noted-watched (verdict_step asked verdict) (verdict-leaves asked verdict) same
  watched-origin (lock_tried locks own same) = noted-watched before_create created-leaves same
  watched-origin (lock_created number rule absent added own same) =
      noted-watched before_create created-leaves same
  watched-origin (lock_given_up number text keeps added own same) = same-watched same
  watched-origin (lock_removed number rule taken own (inl same)) = same-watched same
  watched-origin (lock_removed number rule taken own (inr same)) =
      noted-watched (with_removed number) (removed-leaves number) same

-- what was watched at a name belongs to a judged listing, and stands, or a greater lock does
record StillStands (first : Folder) (history : History) (token : Token) (listing : Listing)
    (name : Name) (found : Found) : Type 0 where
  watched : is_watched name ≡ true
  judged : listing.is_judged ≡ true
  stands : made_number (standing token history).own ≡ None →
      (greatest listing.numbers < top (after first history))
      ⊎ (found ≡ found_within (name_limit name) ((after first history).file name))

-- so all is that a session has watched
abbrev AllStands : Folder → History → Token → Type 0
AllStands first history token = (listing : Listing) →
    (standing token history).listing ≡ Some listing → (name : Name) (found : Found) →
    listing.watched name ≡ Some found → StillStands first history token listing name found

-- no watched name is a lock
watched-no-lock : (name : Name) → is_watched name ≡ true → is_lock name ≡ false
watched-no-lock (Lock number) is = absurd (true≢false (sym is))
watched-no-lock _ is = refl

module _ (deeds : SuiteDeeds) (first : Folder) (event : Event) (history : History)
    (lawful : Lawful deeds first history) (next : IsNext deeds first history event) where
  -- the folder before the event
  abbrev was : Folder
  was = after first history

  -- the folder after it
  abbrev now : Folder
  now = after first (event ∷ history)

  -- the facts of the locks before the event
  facts : LockFacts (moment first history)
  facts = lock-facts deeds first history lawful

  -- the greatest number hasn't fallen
  rises : top was ≤ top now
  rises = top-rises (moment first history) (moment first (event ∷ history)) event.token facts
      (event-moves deeds first event history lawful next)

  -- only an active keeper changes files
  changes : SameFiles was now
      ⊎ (KeeperRule (standing event.token history) × (life event.token history ≡ running))
  changes = effect-others deeds event.token was now (life event.token history)
      (standing event.token history) _
      (effect-of deeds history event.token was event.call event.result next.keeps next.gives)

  -- the event left the files, or a lock stands that is greater than a judged one
  files-or-past : (token : Token) (listing : Listing) →
      (standing token history).listing ≡ Some listing → listing.is_judged ≡ true →
      made_number (standing token history).own ≡ None →
      SameFiles was now ⊎ (greatest listing.numbers < top now)
  files-or-past token listing known judged unmade = elim changes [
    | inl same ↦ inl same
    | inr keeper ↦ inr (above keeper.0 (ap runs_in keeper.1)
        (facts.judged_lock token listing known judged unmade))
  ]
    where
      above : (keeper : KeeperRule (standing event.token history)) →
          runs_in (life event.token history) ≡ true →
          HeldByOrPast (λ holder. ⊥) (moment first history) (greatest listing.numbers) →
          greatest listing.numbers < top now
      above keeper runs (inl below) = let least = rises in omega (arith, below, least)
      above keeper runs (inr none) = at (greatest listing.numbers == keeper.number) refl
        where
          is : top was ≡ keeper.number
          is = facts.keeper_top event.token keeper.number runs keeper.keeps

          at : (same : Bool) → (greatest listing.numbers == keeper.number) ≡ same →
              greatest listing.numbers < top now
          at true same = absurd (none event.token runs (ap held_number keeper.keeps
              ∙ ap (λ (one : ℕ). Some one)
              (sym (number-is (greatest listing.numbers) keeper.number same))))
          at false same =
              let differs = number-differs (greatest listing.numbers) keeper.number same in
              let most = facts.listed_most token listing known in
              let least = rises in
              omega (arith, is, differs, most, least)

  -- what was watched stands still, or a greater lock does
  stands-later : (token : Token) (old listing : Listing) →
      (standing token history).listing ≡ Some old → listing.numbers ≡ old.numbers →
      (name : Name) (found : Found) → StillStands first history token old name found →
      made_number (standing token history).own ≡ None →
      (greatest listing.numbers < top now)
      ⊎ (found ≡ found_within (name_limit name) (now.file name))
  stands-later token old listing known numbers name found before unmade =
      cases (before.stands unmade)
      (files-or-past token old known before.judged unmade)
    where
      same : greatest listing.numbers ≡ greatest old.numbers
      same = ap greatest numbers

      cases : (greatest old.numbers < top was)
          ⊎ (found ≡ found_within (name_limit name) (was.file name)) →
          SameFiles was now ⊎ (greatest old.numbers < top now) →
          (greatest listing.numbers < top now)
          ⊎ (found ≡ found_within (name_limit name) (now.file name))
      cases (inl below) _ = let least = rises in inl (omega (arith, same, below, least))
      cases (inr stood) (inr below) = inl (omega (arith, same, below))
      cases (inr stood) (inl files) = inr (stood ∙ ap (found_within (name_limit name))
          (sym (files name (watched-no-lock name before.watched))))

  -- so it does for the event's own session
  own-stands : AllStands first history event.token → AllStands first (event ∷ history) event.token
  own-stands before listing known name found watched =
      cases (watched-origin history event.token was now (standing event.token history)
      (standing event.token (event ∷ history)) listing known name found watched
      (own-step deeds first event history next))
    where
      unmade : made_number (standing event.token (event ∷ history)).own ≡ None →
          made_number (standing event.token history).own ≡ None
      unmade = unmade-before history event.token was now (standing event.token history)
          (standing event.token (event ∷ history)) (own-step deeds first event history next)

      keeps-none : (own : OwnLock) (number : ℕ) → own ≡ lock_kept number →
          made_number own ≡ None → ⊥
      keeps-none own number keeps none =
          let made : Some number ≡ None = sym (ap made_number keeps) ∙ none in absurd (cc)

      cases : WatchedOrigin was (standing event.token history) listing name found →
          StillStands first (event ∷ history) event.token listing name found
      cases (watched_before old had numbers judged is) =
          let stood = before old had name found is in
          record {
            watched = stood.watched;
            judged = judged stood.judged;
            stands = λ none. stands-later event.token old listing had numbers name found stood
                (unmade none);
          }
      cases (found_now watches judged finds) = record {
        watched = watches;
        judged = judged;
        stands = λ none. elim changes [
          | inl files ↦ inr (finds ∙ ap (found_within (name_limit name))
              (sym (files name (watched-no-lock name watches))))
          | inr keeper ↦ absurd (keeps-none (standing event.token history).own keeper.0.number
              keeper.0.keeps (unmade none))
        ];
      }

  -- so it does for another session
  other-stands : (other : Token) → other ≢ event.token → AllStands first history other →
      AllStands first (event ∷ history) other
  other-stands other differs before listing known name found watched =
      let same = other-standing event history other differs in
      let had = sym (ap (λ (one : Standing). one.listing) same) ∙ known in
      let stood = before listing had name found watched in
      record {
        watched = stood.watched;
        judged = stood.judged;
        stands = λ none. stands-later other listing listing had refl name found stood
            (sym (ap (λ (one : Standing). made_number one.own) same) ∙ none);
      }

-- what a session has watched stands, or a greater lock does
all-stands : (deeds : SuiteDeeds) (first : Folder) (history : History) →
    Lawful deeds first history → (token : Token) → AllStands first history token
all-stands deeds first [] lawful token = λ listing known name found watched. absurd (cc)
all-stands deeds first (event ∷ history) (goes_on _ _ lawful next) token =
    each (λ asked. AllStands first history asked → AllStands first (event ∷ history) asked)
    event.token
    (own-stands deeds first event history lawful next)
    (other-stands deeds first event history lawful next)
    token (all-stands deeds first history lawful token)

-- the part of the invariant
pub report-view : (deeds : SuiteDeeds) (first : Folder) (history : History) →
    Lawful deeds first history → ReportViewHolds first history
report-view deeds first history lawful token listing known judged unmade =
    cases (nat_lt (greatest listing.numbers) (top (after first history))) refl
  where
    cases : (below : Bool) → nat_lt (greatest listing.numbers) (top (after first history)) ≡ below →
        (greatest listing.numbers < top (after first history))
        ⊎ ((name : Name) (found : Found) → listing.watched name ≡ Some found →
        found ≡ found_within (name_limit name) ((after first history).file name))
    cases true is = inl (grind (arith, nat_tests))
    cases false is = inr (λ name found watched.
        elim ((all-stands deeds first history lawful token listing known name found watched).stands
        unmade) [
          | inl below ↦ absurd (grind (arith, nat_tests))
          | inr stands ↦ stands
        ])
