-- The invariant, which each lawful event keeps. Its first four parts make the keeper one; with the
-- fifth and the sixth they keep what sessions know, the settled files and the backups.
use Rattle.std.specs.Prelude.{◌≡◌, ◌⊎◌, ℕ, ◌<◌, ◌≤◌, Bool, true, ◌++◌, All, Option, Some, None, IsSome, IsNone}
use Rattle.acct_text.specs.declared.Tab.{Tab}
use Rattle.acct_text.specs.Bytes.{Bytes}
use Rattle.acct_outside.specs.declared.Name.{Name}
use Rattle.acct_outside.specs.declared.Name.TheVariants.{Table, Backup, Intent, Lock}
use Rattle.acct_outside.specs.Names.{is_staging, name_limit}
use Rattle.acct_outside.specs.Tokens.{Token, held_text}
use Rattle.acct_outside.specs.Folder.{Folder, IsFolder, greatest, top}
use Rattle.acct_outside.specs.Calls.{Found, found_within}
use Rattle.acct_outside.specs.History.{History, after}
use Rattle.acct_outside.specs.Life.{life, running, is_running}
use Rattle.acct_outside.specs.declared.CommitStage.TheVariants.{Before}
use Rattle.intent_file.specs.Intent.{Intended, ReadsIntent, listed_in}
use Rattle.suite_rules.specs.Deeds.{SuiteDeeds}
use Rattle.suite_rules.specs.OwnLock.{lock_kept, made_number, held_number}
use Rattle.suite_rules.specs.Listing.{Listing}
use Rattle.suite_rules.specs.Knowledge.{Stages, Seen, Knowledge, knows_nothing, knows_none, knows_bytes, is_input}
use Rattle.suite_rules.specs.Standing.{standing}
use Rattle.suite_rules.specs.Lawful.{Lawful}
use Rattle.suite_rules.specs.Settled.{settled}
use Rattle.suite_rules.specs.Committed.{Rises, committed, folded}
use Rattle.suite_rules.specs.Backups.{AreBackups}

-- the greatest lock number hasn't fallen, and each lock that was removed lies below it
pub record HasNotFallen (before now : Folder) : Type 0 where
  pub rises : top before ≤ top now
  pub removed : (number : ℕ) → 0 < number → IsSome (before.file (Lock number)) →
      IsNone (now.file (Lock number)) → number < top now

-- the greatest lock number never falls, and a lock number that was removed lies below it
abbrev pub TopHolds : Folder → History → Type 0
TopHolds first history = (newer older : History) → history ≡ newer ++ older →
    HasNotFallen (after first older) (after first history)

-- the session's lock stands with its text, and stood at no moment before its create
pub record LockStands (first : Folder) (history : History) (token : Token)
    (number : ℕ) : Type 0 where
  pub text : (after first history).file (Lock number) ≡ Some (held_text token)
  pub new : (newer older : History) → history ≡ newer ++ older →
      made_number (standing token older).own ≡ None →
      IsNone ((after first older).file (Lock number))

-- where a running session made a lock and hasn't freed it, it stands as it was made, or a greater
-- one stands
abbrev pub OwnLockHolds : Folder → History → Type 0
OwnLockHolds first history = (token : Token) (number : ℕ) → is_running token history ≡ true →
    held_number (standing token history).own ≡ Some number →
    (number < top (after first history)) ⊎ LockStands first history token number

-- no running session made the lock of this number without having freed it
abbrev pub IsHeldByNone : History → ℕ → Type 0
IsHeldByNone history number = (token : Token) → is_running token history ≡ true →
    held_number (standing token history).own ≡ Some number → ⊥

-- where a session that hasn't made a lock has judged the greatest lock of its listing, no running
-- session holds that, or a greater one stands
abbrev pub JudgedLockHolds : Folder → History → Type 0
JudgedLockHolds first history = (token : Token) (listing : Listing) →
    (standing token history).listing ≡ Some listing → listing.is_judged ≡ true →
    made_number (standing token history).own ≡ None →
    (greatest listing.numbers < top (after first history))
    ⊎ IsHeldByNone history (greatest listing.numbers)

-- where a session that hasn't made a lock has judged the greatest lock of its listing, what it watched
-- since then stands, or a greater one does
abbrev pub ReportViewHolds : Folder → History → Type 0
ReportViewHolds first history = (token : Token) (listing : Listing) →
    (standing token history).listing ≡ Some listing → listing.is_judged ≡ true →
    made_number (standing token history).own ≡ None →
    (greatest listing.numbers < top (after first history))
    ⊎ ((name : Name) (found : Found) → listing.watched name ≡ Some found →
    found ≡ found_within (name_limit name) ((after first history).file name))

-- no intent stands, what was seen stands, and each backed table has its bytes as backup
pub record NoneStands (folder : Folder) (seen : Seen) : Type 0 where
  pub intent : folder.file Intent ≡ None
  pub inputs : (name : Name) (content : Option Bytes) → is_input name ≡ true →
      seen.file name ≡ Some content → folder.file name ≡ content
  pub backups : (table : Tab) → seen.backed table ≡ true →
      folder.file (Backup table) ≡ folder.file (Table table)

-- the intent stands, and each table in place has the bytes that it lists
pub record BytesStand (folder : Folder) (bytes : Bytes) (placed : Tab → Bool) : Type 0 where
  pub intent : folder.file Intent ≡ Some bytes
  pub tables : (intent : Intended) → ReadsIntent bytes intent → (table : Tab) (new : Bytes) →
      listed_in intent.tables table ≡ Some new → placed table ≡ true →
      folder.file (Table table) ≡ Some new

-- what is known stands in the folder
abbrev pub KnownStands : Folder → Knowledge → Type 0
KnownStands folder knows_nothing = Unit {0}
KnownStands folder (knows_none seen) = NoneStands folder seen
KnownStands folder (knows_bytes bytes placed) = BytesStand folder bytes placed

-- what a keeper knows and has staged stands in the folder
pub record KeeperView (folder : Folder) (knows : Knowledge) (staged : Stages) : Type 0 where
  pub known : KnownStands folder knows
  pub stages : (name : Name) (bytes : Bytes) → is_staging name ≡ true →
      staged name ≡ Some bytes → folder.file name ≡ Some bytes

-- the session runs as keeper of the number; one of its calls may have failed
pub record RunsAsKeeper (history : History) (token : Token) (number : ℕ) : Type 0 where
  pub runs : is_running token history ≡ true
  pub keeps : (standing token history).own ≡ lock_kept number

-- the session runs without a failed call, and keeps the number
pub record IsActiveKeeper (history : History) (token : Token) (number : ℕ) : Type 0 where
  pub runs : life token history ≡ running
  pub keeps : (standing token history).own ≡ lock_kept number

-- the number of an active keeper is the greatest, and what it knows and has staged stands
abbrev pub KeeperViewHolds : Folder → History → Type 0
KeeperViewHolds first history = (token : Token) (number : ℕ) → IsActiveKeeper history token number →
    let own = standing token history in
    (top (after first history) ≡ number) × KeeperView (after first history) own.knows own.staged

-- The settled files are the fold of the committed list. Its numbers rise, are at most the greatest
-- lock number, and lie below that of a running keeper that hasn't called its commit.
pub record SettledIsFold (deeds : SuiteDeeds) (first : Folder) (history : History) : Type 0 where
  pub is_fold : (table : Tab) →
      settled (after first history) table ≡ folded deeds first (committed history) table
  pub rises : Rises (committed history)
  pub at_most_top : All (λ one. one.number ≤ top (after first history)) (committed history)
  pub below_keeper : (token : Token) (number : ℕ) → RunsAsKeeper history token number →
      (standing token history).commit ≡ Before →
      All (λ one. one.number < number) (committed history)

-- the invariant of a history that began with this first folder
pub record Invariant (deeds : SuiteDeeds) (first : Folder) (history : History) : Type 0 where
  -- the lock numbers of the folder are those of the standing locks, ascend and lie in bounds
  pub is_folder : IsFolder (after first history)
  pub top_holds : TopHolds first history
  pub own_lock : OwnLockHolds first history
  pub judged_lock : JudgedLockHolds first history
  pub keeper_view : KeeperViewHolds first history
  pub report_view : ReportViewHolds first history
  pub settled_is_fold : SettledIsFold deeds first history
  pub backups_kept : AreBackups deeds first history

-- the invariant holds in every lawful history
abbrev pub InvariantHolds : Type 0
InvariantHolds = (deeds : SuiteDeeds) (first : Folder) (history : History) →
    Lawful deeds first history → Invariant deeds first history
