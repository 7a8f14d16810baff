-- Claim: a keeper's call on other files leaves its lock and the lower locks, whatever it answered,
-- so that it stands as a keeper with what it knows then (`keeps-aside`). Way: such a call is no
-- listing, no verdict, no create, no read or removal of a lock and no move of the free text, so it
-- leaves the own lock (`own-aside`) and what the last listing shows (`listing-aside`). It is keeper as the
-- rules ask (`is-keeper`).
use Rattle.std.proofs.Common.{◌≡◌, refl, sym, ap, subst, ◌∙◌, ℕ, nat_lt, Bool, true, false, ◌&&◌, if◌then◌else◌, List, ◌++◌, filter, Some}
use Rattle.acct_outside.specs.declared.Name.{Name}
use Rattle.acct_outside.specs.declared.Name.TheVariants.{FreeStage, Lock}
use Rattle.acct_outside.specs.Calls.{Call, Answer, CallResult, Found, lists, reads, asks, creates, renames, removes, done}
use Rattle.acct_outside.specs.Folder.{greatest}
use Rattle.suite_rules.specs.OwnLock.{OwnLock, lock_kept, own_step}
use Rattle.suite_rules.specs.Listing.{Listing, watched_with, watch_step, listing_step}
use Rattle.suite_rules.specs.Knowledge.{Knowledge, nothing_seen, is_watched, knows_step}
use Rattle.suite_rules.specs.Standing.{Standing, standing_step}
use Rattle.suite_rules.specs.Rules.{KeeperRule}
use Rattle.lock_steps.specs.States.{Kept}
use Rattle.lock_steps.specs.Stands.{HasLocks, Keeps, KnowsNone, KnowsNoneYet}
use Rattle.lock_steps.proofs.StandsLemmas.{kept-part}

-- the call is on other files than the locks
abbrev pub IsAside : Call → Type 0
IsAside lists = ⊥
IsAside (asks token) = ⊥
IsAside (creates number) = ⊥
IsAside (reads (Lock number)) = ⊥
IsAside (renames FreeStage (Lock number)) = ⊥
IsAside (removes (Lock number)) = ⊥
IsAside _ = Unit {0}

-- it leaves the own lock
own-aside : (call : Call) → IsAside call → (result : CallResult (Answer call)) (own : OwnLock) →
    own_step call result own ≡ own
own-aside lists aside result own = absurd aside
own-aside (asks token) aside result own = absurd aside
own-aside (creates number) aside result own = absurd aside
own-aside (renames FreeStage (Lock number)) aside result own = absurd aside
own-aside call aside result own = refl

-- the two listings show the same locks, whatever was watched since
pub record ShowsSame (listing later : Listing) : Type 0 where
  pub numbers : later.numbers ≡ listing.numbers
  pub follows : later.follows_create ≡ listing.follows_create
  pub removed : later.removed ≡ listing.removed

-- what is watched leaves what is listed
watches-same : (name : Name) (found : Found) (listing : Listing) →
    ShowsSame listing (watch_step name found listing)
watches-same name found listing = cases (is_watched name && listing.is_judged)
  where
    cases : (watches : Bool) → ShowsSame listing (if watches
        then record listing { watched = watched_with name found listing.watched } else listing)
    cases true = record { numbers = refl; follows = refl; removed = refl }
    cases false = record { numbers = refl; follows = refl; removed = refl }

-- its last listing shows the same locks
listing-aside : (call : Call) → IsAside call → (result : CallResult (Answer call))
    (own : OwnLock) (listing : Listing) →
    (later : Listing) × (listing_step own call result (Some listing) ≡ Some later)
    × ShowsSame listing later
listing-aside lists aside result own listing = absurd aside
listing-aside (asks token) aside result own listing = absurd aside
listing-aside (creates number) aside result own listing = absurd aside
listing-aside (reads (Lock number)) aside result own listing = absurd aside
listing-aside (reads name) aside (done found) own listing =
    (watch_step name found listing, refl, watches-same name found listing)
listing-aside (removes (Lock number)) aside result own listing = absurd aside
listing-aside call aside result own listing =
    (listing, refl, record { numbers = refl; follows = refl; removed = refl })

-- a keeper keeps its locks where its last listing shows the same
locks-same : (keeper : Kept) (stood now : Standing) (locks : HasLocks (lock_kept keeper.number)
    keeper.number keeper.lower stood) (later : Listing) → now.own ≡ stood.own →
    now.listing ≡ Some later → ShowsSame locks.listing later →
    HasLocks (lock_kept keeper.number) keeper.number keeper.lower now
locks-same keeper stood now locks later same_own listed same = record {
  owns = same_own ∙ locks.owns;
  listing = later;
  listed = listed;
  is_greatest = ap greatest same.numbers ∙ locks.is_greatest;
  is_such = (
    same.follows ∙ locks.is_such.0,
    ap (filter (λ other. nat_lt other keeper.number)) same.numbers
        ∙ (locks.is_such.1 ∙ ap (λ (gone : List ℕ). gone ++ keeper.lower) (sym same.removed)),
  );
}

-- the session keeps its number, with the same lower locks
pub keeps-aside : (keeper : Kept) (Knows Knew : Knowledge → Type 0)
    (call : Call) (aside : IsAside call) (result : CallResult (Answer call)) (stood : Standing) →
    Knows (knows_step stood.staged call result stood.knows) → Keeps keeper Knew stood →
    Keeps keeper Knows (standing_step call result stood)
keeps-aside keeper Knows Knew call aside result stood knows held =
    let later = listing-aside call aside result stood.own held.locks.listing in
    record {
      locks = locks-same keeper stood (standing_step call result stood) held.locks later.0
          (own-aside call aside result stood.own)
          (ap (listing_step stood.own call result) held.locks.listed ∙ later.1) later.2;
      knows = subst Knows
          (sym (kept-part keeper.number stood.own (own_step call result stood.own) _ _ stood.knows
          held.locks.owns))
          knows;
    }

-- a keeper whose own lock and listing stay keeps its number, whatever it knows now
pub keeps-on : (keeper : Kept) (Knew Knows : Knowledge → Type 0) (stood now : Standing) →
    now.own ≡ stood.own → now.listing ≡ stood.listing → Keeps keeper Knew stood →
    Knows now.knows → Keeps keeper Knows now
keeps-on keeper Knew Knows stood now same_own same_listing keeps knows = record {
  locks = record {
    owns = same_own ∙ keeps.locks.owns;
    listing = keeps.locks.listing;
    listed = same_listing ∙ keeps.locks.listed;
    is_greatest = keeps.locks.is_greatest;
    is_such = keeps.locks.is_such;
  };
  knows = knows;
}

-- a keeper keeps its number, as the rules ask
pub is-keeper : (keeper : Kept) (Knows : Knowledge → Type 0) (stood : Standing) →
    Keeps keeper Knows stood → KeeperRule stood
is-keeper keeper Knows stood keeps =
    record { number = keeper.number; keeps = keeps.locks.owns }

-- a keeper that has seen nothing yet knows that no intent stands
pub clean-is-clean : (keeper : Kept) (stood : Standing) → Keeps keeper KnowsNoneYet stood →
    Keeps keeper KnowsNone stood
clean-is-clean keeper stood keeps =
    record { locks = keeps.locks; knows = (nothing_seen, keeps.knows) }
