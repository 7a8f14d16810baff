-- The standing of a session in each typed state (docs/ARCHITECTURE.md, "Typed steps"). Each is
-- found from the session's own events alone.
use Rattle.std.specs.Prelude.{◌≡◌, ℕ, ◌++◌, nat_lt, true, List, [], filter, Some}
use Rattle.acct_outside.specs.Moment.{Moment}
use Rattle.acct_outside.specs.declared.Name.TheVariants.{FreeStage}
use Rattle.acct_outside.specs.Tokens.{Token, free_text}
use Rattle.acct_outside.specs.Folder.{greatest}
use Rattle.suite_rules.specs.OwnLock.{OwnLock, lock_uncalled, lock_made, lock_kept, lock_freed}
use Rattle.suite_rules.specs.Listing.{Listing, is_held_in}
use Rattle.suite_rules.specs.Knowledge.{Seen, Knowledge, nothing_seen, knows_none}
use Rattle.suite_rules.specs.Standing.{Standing}
use Rattle.suite_rules.specs.Steps.{StandsIn}
use Rattle.lock_steps.specs.declared.judging.Told.{Told}
use Rattle.lock_steps.specs.declared.judging.Told.TheVariants.{Judged, Ask}
use Rattle.lock_steps.specs.declared.claiming.Confirmed.{Confirmed}
use Rattle.lock_steps.specs.declared.claiming.Confirmed.TheVariants.{Keeper, Loser}
use Rattle.lock_steps.specs.States.{Lister, Asker, Maker, Overtaken, Kept}

-- it hasn't called create
abbrev pub HasNoLock : Standing → Type 0
HasNoLock standing = standing.own ≡ lock_uncalled

-- it has this own lock, and its last listing of the locks has this greatest number and is such a one
pub record HasListed (own : OwnLock) (number : ℕ) (IsSuch : Listing → Type 0) (standing : Standing)
    : Type 0 where
  pub owns : standing.own ≡ own
  pub listing : Listing
  pub listed : standing.listing ≡ Some listing
  pub is_greatest : greatest listing.numbers ≡ number
  pub is_such : IsSuch listing

-- it has listed the locks, and judged them where there are none
abbrev pub HasLooked : Lister → Standing → Type 0
HasLooked seen = HasListed lock_uncalled seen.greatest
    (λ listing. seen.greatest ≡ 0 → listing.is_judged ≡ true)

-- it has read the greatest lock as held by the session that it asks for
abbrev pub HasReadHeld : Asker → Standing → Type 0
HasReadHeld asking = HasListed lock_uncalled asking.greatest
    (λ listing. is_held_in listing.texts asking.asked ≡ true)

-- it has judged the greatest lock, so it may create the next
abbrev pub HasJudged : Lister → Standing → Type 0
HasJudged judged = HasListed lock_uncalled judged.greatest (λ listing. listing.is_judged ≡ true)

-- its create was done
abbrev pub HasMade : Maker → Standing → Type 0
HasMade claimed standing = standing.own ≡ lock_made claimed.number

-- it has made its lock, and a later listing of its own shows this greatest one
abbrev pub WasOvertaken : Overtaken → Standing → Type 0
WasOvertaken loser = HasListed (lock_made loser.number) loser.greatest
    (λ listing. listing.follows_create ≡ true)

-- of the locks below the number that were listed these are left, behind those removed since
abbrev pub AreLeft : ℕ → Listing → List ℕ → Type 0
AreLeft number listing left =
    filter (λ other. nat_lt other number) listing.numbers ≡ listing.removed ++ left

-- It has this own lock, of this number, which its last listing, after its create, showed as the
-- greatest; and of the lower locks in that listing these are left.
abbrev pub HasLocks : OwnLock → ℕ → List ℕ → Standing → Type 0
HasLocks own number left = HasListed own number
    (λ listing. (listing.follows_create ≡ true) × AreLeft number listing left)

-- it keeps its number, these lower locks are left, and such is what it knows of the intent
pub record Keeps (keeper : Kept) (Knows : Knowledge → Type 0) (standing : Standing) : Type 0 where
  pub locks : HasLocks (lock_kept keeper.number) keeper.number keeper.lower standing
  pub knows : Knows standing.knows

-- anything may be so of the intent
abbrev pub KnowsAnything : Knowledge → Type 0
KnowsAnything knows = Unit {0}

-- it knows that no intent stands
abbrev pub KnowsNone : Knowledge → Type 0
KnowsNone knows = (seen : Seen) × (knows ≡ knows_none seen)

-- it knows that no intent stands, and has seen no file since it came to know that
abbrev pub KnowsNoneYet : Knowledge → Type 0
KnowsNoneYet knows = knows ≡ knows_none nothing_seen

-- it keeps its number, no lower lock is left, and it has staged the free text
pub record HasStagedFree (freeing : Maker) (standing : Standing) : Type 0 where
  pub locks : HasLocks (lock_kept freeing.number) freeing.number [] standing
  pub staged : standing.staged FreeStage ≡ Some free_text

-- it has freed its lock of this number, and no lower lock is left
abbrev pub HasFreed : ℕ → Standing → Type 0
HasFreed number = HasLocks (lock_freed number) number []

-- after the greatest lock was read: it is judged, or read as held
abbrev pub HoldsTold : Told → Standing → Type 0
HoldsTold (Judged judged) = HasJudged judged
HoldsTold (Ask asking) = HasReadHeld asking

-- the session stands so after that
abbrev pub StandsTold : Moment → Token → Told → Type 0
StandsTold now token told = StandsIn now token (HoldsTold told)

-- after the second listing: it keeps its number, or was overtaken
abbrev pub HoldsConfirmed : Confirmed → Standing → Type 0
HoldsConfirmed (Keeper keeper) = Keeps keeper KnowsAnything
HoldsConfirmed (Loser loser) = WasOvertaken loser

-- the session stands so after that
abbrev pub StandsConfirmed : Moment → Token → Confirmed → Type 0
StandsConfirmed now token confirmed = StandsIn now token (HoldsConfirmed confirmed)

-- no state follows a step that always ends the command
abbrev pub HoldsNever : Unit {0} → Standing → Type 0
HoldsNever unit standing = ⊥
