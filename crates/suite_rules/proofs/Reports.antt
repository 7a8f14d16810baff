-- Claim: what a session has shown is the fold of all that was committed up to its number
-- (`reports-hold`). Way: the listing that confirmed it came when its number was the greatest, nobody
-- held that, and all that was watched stood (`shown-then`); so the settled files were the fold of all
-- that was committed, up to that number. Who commits later keeps a greater number, so that this place
-- stays (`place-stays`).
use Rattle.std.proofs.Common.{◌≡◌, refl, sym, ap, subst, ◌∙◌, ◌⊎◌, inl, inr, ℕ, ◌+◌, ◌<◌, ◌≤◌, Bool, true, false, ◌&&◌, ◌==◌, if◌then◌else◌, List, [], ◌∷◌, ◌++◌, Option, Some, None, append_assoc, arith}
use Rattle.std.specs.List.{AllByRecursion}
use Rattle.std.specs.Option.{option_or, option_and_then}
use Rattle.acct_text.specs.declared.Tab.{Tab}
use Rattle.acct_text.specs.Bytes.{Bytes}
use Rattle.acct_outside.specs.declared.Name.{Name}
use Rattle.acct_outside.specs.declared.Name.TheVariants.{Table, Intent, Defs}
use Rattle.acct_outside.specs.Names.{name_limit}
use Rattle.acct_outside.specs.Tokens.{Token}
use Rattle.acct_outside.specs.Folder.{Folder, greatest, top, settings_file}
use Rattle.acct_outside.specs.Calls.{Command, Call, Answer, CallResult, Found, found_within, lists, done}
use Rattle.acct_outside.specs.History.{Event, History, after}
use Rattle.acct_outside.specs.Life.{life, runs_in}
use Rattle.acct_outside.specs.Gives.{GivesResult}
use Rattle.intent_file.specs.Intent.{listed_in}
use Rattle.suite_rules.specs.Deeds.{SuiteDeeds}
use Rattle.suite_rules.specs.OwnLock.{OwnLock, lock_uncalled, lock_kept, made_number, held_number}
use Rattle.suite_rules.specs.Knowledge.{whole_content}
use Rattle.suite_rules.specs.Listing.{Listing}
use Rattle.suite_rules.specs.Shown.{Shown, whole_at, ShowsIntent, confirmed, shown_step}
use Rattle.suite_rules.specs.Standing.{Standing, standing}
use Rattle.suite_rules.specs.Lawful.{IsNext, Lawful, goes_on}
use Rattle.suite_rules.specs.Settled.{settled, listed_by}
use Rattle.suite_rules.specs.Committed.{Commitment, committed, place, folded}
use Rattle.suite_rules.specs.Laws.{ReportsHold}
use Rattle.suite_rules.proofs.Cut.{lawful-prefix}
use Rattle.suite_rules.proofs.Numbers.{number-is, number-differs}
use Rattle.suite_rules.proofs.Sessions.{each, own-standing, other-standing}
use Rattle.suite_rules.proofs.Effects.{whole-stands}
use Rattle.suite_rules.proofs.LockFacts.{moment, LockFacts, HeldByOrPast}
use Rattle.suite_rules.proofs.LockKept.{held-stays}
use Rattle.std.proofs.lemmas.Bool.{and_parts}
use Rattle.suite_rules.proofs.Keepers.{event-moves, lock-facts, never-falls}
use Rattle.suite_rules.proofs.Commitments.{each-follows, place-below, place-append}
use Rattle.suite_rules.proofs.Settles.{Committer, FileFacts, file-facts, new-facts}
use Rattle.suite_rules.proofs.Watching.{report-view}
use Rattle.suite_rules.proofs.Whole.{at-most-top}

-- what a listing confirmed, with the last one before it
record ConfirmedNow (folder : Folder) (stood : Standing) (shown : Shown) : Type 0 where
  uncalled : stood.own ≡ lock_uncalled
  listing : Listing
  known : stood.listing ≡ Some listing
  confirms : confirmed folder.locks listing ≡ Some shown

-- what can be shown was confirmed by this call, or shown before it
shown-origin : (folder : Folder) (history : History) (token : Token) (stood : Standing)
    (shown : Shown) (call : Call) (result : CallResult (Answer call)) →
    GivesResult folder history token call result →
    shown_step stood.own stood.listing call result stood.shown ≡ Some shown →
    (stood.shown ≡ Some shown) ⊎ ConfirmedNow folder stood shown
shown-origin folder history token stood shown call result gives is =
    cases stood.own stood.listing call result gives refl refl is
  where
    cases : (own : OwnLock) (listing : Option Listing) (call : Call)
        (result : CallResult (Answer call)) → GivesResult folder history token call result →
        stood.own ≡ own → stood.listing ≡ listing →
        shown_step own listing call result stood.shown ≡ Some shown →
        (stood.shown ≡ Some shown) ⊎ ConfirmedNow folder stood shown
    cases lock_uncalled (Some listing) lists (done numbers) gives own known is = inr (record {
      uncalled = own;
      listing = listing;
      known = known;
      confirms = ap (λ (found : List ℕ). confirmed found listing) (sym gives) ∙ is;
    })
    cases lock_uncalled None lists (done numbers) gives own known is = absurd (cc)
    cases _ listing lists (done numbers) gives own known is = absurd (cc)
    cases _ listing call result gives own known is = inl is

-- the moment of the listing that confirmed what is shown
record WasShown (first : Folder) (history : History) (shown : Shown) : Type 0 where
  is_top : shown.number ≡ top (after first history)
  none_holds : HeldByOrPast (λ holder. ⊥) (moment first history) shown.number
  stood : (name : Name) (found : Found) → shown.file name ≡ Some found →
      found ≡ found_within (name_limit name) ((after first history).file name)

module _ (deeds : SuiteDeeds) (first : Folder) where
  -- what a listing confirms stood at its moment
  confirmed-then : (history : History) → Lawful deeds first history → (token : Token)
      (shown : Shown) → ConfirmedNow (after first history) (standing token history) shown →
      WasShown first history shown
  confirmed-then history lawful token shown now =
      cases (now.listing.is_judged && (top (after first history) == greatest now.listing.numbers))
      refl now.confirms
    where
      stands : now.listing.is_judged ≡ true →
          top (after first history) ≡ greatest now.listing.numbers →
          WasShown first history
          (record { number = top (after first history); file = now.listing.watched })
      stands judged same = record {
        is_top = refl;
        none_holds = subst (HeldByOrPast (λ holder. ⊥) (moment first history)) (sym same)
            ((lock-facts deeds first history lawful).judged_lock token now.listing now.known judged
            unmade);
        stood = λ name found watched.
            elim (report-view deeds first history lawful token now.listing now.known judged
            unmade) [
              | inl below ↦ absurd (omega arith)
              | inr stand ↦ stand name found watched
            ];
      }
        where
          unmade : made_number (standing token history).own ≡ None
          unmade = ap made_number now.uncalled

      cases : (both : Bool) →
          (now.listing.is_judged && (top (after first history) == greatest now.listing.numbers))
          ≡ both →
          (if both then Some (record {
            number = top (after first history);
            file = now.listing.watched;
          }) else None) ≡ Some shown → WasShown first history shown
      cases false neither is = absurd (cc)
      cases true both is =
          let parts = and_parts now.listing.is_judged
          (top (after first history) == greatest now.listing.numbers) both in
          subst (WasShown first history) (cc is)
          (stands parts.0 (number-is (top (after first history)) (greatest now.listing.numbers)
          parts.1))

  -- the moment at which what can be shown stood
  record ShownThen (history : History) (shown : Shown) : Type 0 where
    newer : History
    older : History
    is_then : history ≡ newer ++ older
    was : WasShown first older shown

  -- one event later it did so too
  shown-later : (event : Event) (history : History) (shown : Shown) →
      ShownThen history shown → ShownThen (event ∷ history) shown
  shown-later event history shown past = record {
    newer = event ∷ past.newer;
    older = past.older;
    is_then = ap (λ (events : History). event ∷ events) past.is_then;
    was = past.was;
  }

  -- what can be shown stood at some moment
  shown-then : (history : History) → Lawful deeds first history → (token : Token)
      (shown : Shown) → (standing token history).shown ≡ Some shown → ShownThen history shown
  shown-then [] lawful token shown is = absurd (cc)
  shown-then (event ∷ history) (goes_on _ _ lawful next) token shown is =
      each (λ asked. ((standing asked history).shown ≡ Some shown → ShownThen history shown) →
      (standing asked (event ∷ history)).shown ≡ Some shown → ShownThen (event ∷ history) shown)
      event.token
      (λ before now. own before (shown-origin (after first history) history event.token
      (standing event.token history) shown event.call event.result next.gives
      (sym (ap (λ (one : Standing). one.shown) (own-standing event history)) ∙ now)))
      (λ other differs before now. shown-later event history shown (before
      (sym (ap (λ (one : Standing). one.shown) (other-standing event history other differs))
      ∙ now)))
      token (shown-then history lawful token shown) is
    where
      own : ((standing event.token history).shown ≡ Some shown → ShownThen history shown) →
          ((standing event.token history).shown ≡ Some shown)
          ⊎ ConfirmedNow (after first history) (standing event.token history) shown →
          ShownThen (event ∷ history) shown
      own before (inl had) = shown-later event history shown (before had)
      own before (inr now) = record {
        newer = event ∷ [];
        older = history;
        is_then = refl;
        was = confirmed-then history lawful event.token shown now;
      }

  -- who holds the number is still none, or a greater one stands
  none-holds : (newer older : History) → Lawful deeds first (newer ++ older) → (number : ℕ) →
      number ≤ top (after first older) →
      HeldByOrPast (λ holder. ⊥) (moment first older) number →
      HeldByOrPast (λ holder. ⊥) (moment first (newer ++ older)) number
  none-holds [] older lawful number most none = none
  none-holds (event ∷ newer) older (goes_on _ _ lawful next) number most none =
      held-stays (moment first (newer ++ older)) (moment first (event ∷ (newer ++ older)))
      event.token (lock-facts deeds first (newer ++ older) lawful)
      (event-moves deeds first event (newer ++ older) lawful next) (λ holder. ⊥) number
      (let falls = never-falls deeds first newer older lawful in omega arith)
      (none-holds newer older lawful number most none)

  -- who commits later keeps a greater number
  place-step : (event : Event) (history : History) → Lawful deeds first history →
      IsNext deeds first history event → (number : ℕ) → number ≤ top (after first history) →
      HeldByOrPast (λ holder. ⊥) (moment first history) number →
      place (number + 1) (committed (event ∷ history)) ≡ place (number + 1) (committed history)
  place-step event history lawful next number most none =
      place-append (number + 1) (committed history) _
      (new-facts deeds first event history lawful next (file-facts deeds first history lawful)
      (AllByRecursion (λ one. number + 1 ≤ one.number)) tt
      (λ keeper command active uncalled is. (
        above keeper.number (ap runs_in active.runs) active.keeps none,
        tt,
      )))
    where
      facts : LockFacts (moment first history)
      facts = lock-facts deeds first history lawful

      above : (kept : ℕ) → runs_in (life event.token history) ≡ true →
          (standing event.token history).own ≡ lock_kept kept →
          HeldByOrPast (λ holder. ⊥) (moment first history) number → number + 1 ≤ kept
      above kept runs keeps none = cases (number == kept) refl none
        where
          is : top (after first history) ≡ kept
          is = facts.keeper_top event.token kept runs keeps

          cases : (same : Bool) → (number == kept) ≡ same →
              HeldByOrPast (λ holder. ⊥) (moment first history) number → number + 1 ≤ kept
          cases same equal (inl below) = omega (arith, is, below)
          cases false equal (inr free) =
              let differs = number-differs number kept equal in omega (arith, is, most, differs)
          cases true equal (inr free) =
              absurd (free event.token runs (ap held_number keeps
              ∙ ap (λ (one : ℕ). Some one) (sym (number-is number kept equal))))

  -- the place of what was shown is all that was committed then
  place-stays : (newer older : History) → Lawful deeds first (newer ++ older) → (shown : Shown) →
      WasShown first older shown →
      place (shown.number + 1) (committed (newer ++ older)) ≡ committed older
  place-stays [] older lawful shown was =
      place-below (shown.number + 1) (committed older)
      (each-follows (Committer older) (λ one. one.number < shown.number + 1) (committed older)
      (λ one committer.
      let most = at-most-top deeds first older lawful one committer in
      let is = was.is_top in
      omega (arith, most, is))
      (file-facts deeds first older lawful).committers)
  place-stays (event ∷ newer) older (goes_on _ _ lawful next) shown was =
      let most : shown.number ≤ top (after first older) =
      (let is = was.is_top in omega (arith, is)) in
      place-step event (newer ++ older) lawful next shown.number
      (let falls = never-falls deeds first newer older lawful in omega (arith, falls, most))
      (none-holds newer older lawful shown.number most was.none_holds)
      ∙ place-stays newer older lawful shown was

  -- so its place stays, whatever is committed since it was shown
  place-shown : (newer older : History) → Lawful deeds first (newer ++ older) → (token : Token)
      (shown : Shown) → (standing token older).shown ≡ Some shown →
      place (shown.number + 1) (committed (newer ++ older))
      ≡ place (shown.number + 1) (committed older)
  place-shown newer older lawful token shown is =
      subst (λ (one : History). Lawful deeds first (newer ++ one) →
      place (shown.number + 1) (committed (newer ++ one))
      ≡ place (shown.number + 1) (committed one)) (sym past.is_then) both lawful
    where
      known : Lawful deeds first older
      known = lawful-prefix deeds first newer older lawful

      past : ShownThen older shown
      past = shown-then older known token shown is

      both : Lawful deeds first (newer ++ (past.newer ++ past.older)) →
          place (shown.number + 1) (committed (newer ++ (past.newer ++ past.older)))
          ≡ place (shown.number + 1) (committed (past.newer ++ past.older))
      both whole =
          let joined = append_assoc newer past.newer past.older in
          ap (λ (one : History). place (shown.number + 1) (committed one)) (sym joined)
          ∙ (place-stays (newer ++ past.newer) past.older
          (subst (Lawful deeds first) (sym joined) whole) shown past.was
          ∙ sym (place-stays past.newer past.older
          (subst (Lawful deeds first) past.is_then known) shown past.was))

-- what was found whole, and what was found there
whole-found : (shown : Shown) (name : Name) (whole : Option Bytes) →
    whole_at shown name ≡ Some whole →
    (found : Found) × (shown.file name ≡ Some found) × (whole_content found ≡ Some whole)
whole-found shown name whole = cases (shown.file name) refl
  where
    cases : (found : Option Found) → shown.file name ≡ found →
        option_and_then whole_content found ≡ Some whole →
        (found : Found) × (shown.file name ≡ Some found) × (whole_content found ≡ Some whole)
    cases None is whole = absurd (cc)
    cases (Some found) is whole = (found, is, whole)

-- The moment at which a session's listing confirmed what it has shown.
module _ (deeds : SuiteDeeds) (first : Folder) (history : History)
    (lawful : Lawful deeds first history) (shown : Shown)
    (past : ShownThen deeds first history shown) where
  -- the folder of that moment
  abbrev folder : Folder
  folder = after first past.older

  -- the history up to it and since then is lawful
  since : Lawful deeds first (past.newer ++ past.older)
  since = subst (Lawful deeds first) past.is_then lawful

  -- the facts of the files at that moment
  facts : FileFacts deeds first past.older
  facts = file-facts deeds first past.older
      (lawful-prefix deeds first past.newer past.older since)

  -- its settled files are the fold of the place
  is-place : (table : Tab) → settled folder table
      ≡ folded deeds first (place (shown.number + 1) (committed history)) table
  is-place table = facts.is_fold table
      ∙ ap (λ (list : List Commitment). folded deeds first list table)
      (sym (ap (λ (one : History). place (shown.number + 1) (committed one)) past.is_then
      ∙ place-stays deeds first past.newer past.older since shown past.was))

  -- what was found whole stood
  stood-whole : (name : Name) (whole : Option Bytes) → whole_at shown name ≡ Some whole →
      folder.file name ≡ whole
  stood-whole name whole is =
      let found = whole-found shown name whole is in
      whole-stands (name_limit name) (folder.file name) found.0 whole
      (past.was.stood name found.0 found.1) found.2

  module _ (intent : Option Bytes) (shows : ShowsIntent shown intent) (table : Tab) where
    -- the settled content of a table, by what the found intent lists
    settles : (listed : Option Bytes) → listed_in (listed_by intent) table ≡ listed →
        settled folder table ≡ option_or listed (folder.file (Table table))
    settles listed is =
        ap (λ (content : Option Bytes).
        option_or (listed_in (listed_by content) table) (folder.file (Table table)))
        (stood-whole Intent intent shows.is_found)
        ∙ ap (λ (new : Option Bytes). option_or new (folder.file (Table table))) is

    -- a listed table
    listed-holds : (new : Bytes) → listed_in (listed_by intent) table ≡ Some new →
        folded deeds first (place (shown.number + 1) (committed history)) table ≡ Some new
    listed-holds new is = sym (is-place table) ∙ settles (Some new) is

    -- a table that isn't listed
    unlisted-holds : listed_in (listed_by intent) table ≡ None → folder.file (Table table)
        ≡ folded deeds first (place (shown.number + 1) (committed history)) table
    unlisted-holds is = sym (settles None is) ∙ is-place table

-- the law
pub reports-hold : ReportsHold
reports-hold = record {
  stays = place-shown;
  listed = λ deeds first history lawful token shown is intent shows table new.
      listed-holds deeds first history lawful shown
      (shown-then deeds first history lawful token shown is) intent shows table new;
  unlisted = λ deeds first history lawful token shown is intent shows table found none has.
      let past = shown-then deeds first history lawful token shown is in
      past.was.stood (Table table) found has
      ∙ ap (found_within (name_limit (Table table)))
      (unlisted-holds deeds first history lawful shown past intent shows table none);
  settings = λ deeds first history lawful token shown is found has.
      let past = shown-then deeds first history lawful token shown is in
      past.was.stood Defs found has ∙ ap (found_within (name_limit Defs))
      (facts deeds first history lawful shown past).settings;
}
