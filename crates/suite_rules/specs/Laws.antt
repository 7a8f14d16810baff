-- The laws of lawful histories, for any deeds, first folder and history.
use Rattle.std.specs.Prelude.{◌≡◌, ℕ, ◌+◌, ◌≤◌, [], ◌++◌, Option, Some, None, IsSome}
use Rattle.acct_text.specs.declared.Tab.{Tab}
use Rattle.acct_text.specs.Bytes.{Bytes}
use Rattle.acct_outside.specs.declared.Name.TheVariants.{Table, Lock, Defs}
use Rattle.acct_outside.specs.Names.{name_limit}
use Rattle.acct_outside.specs.Tokens.{Token}
use Rattle.acct_outside.specs.Folder.{Folder, top, settings_file}
use Rattle.acct_outside.specs.Calls.{Command, Call, Answer, CallResult, Effect, Found, found_within, begins, done, failed, died}
use Rattle.acct_outside.specs.History.{History, after, own_events}
use Rattle.acct_outside.specs.Life.{life}
use Rattle.acct_outside.specs.Gives.{GivesResult}
use Rattle.acct_outside.specs.declared.CommitStage.TheVariants.{Before, Committed}
use Rattle.intent_file.specs.Intent.{listed_in}
use Rattle.suite_rules.specs.Deeds.{SuiteDeeds}
use Rattle.suite_rules.specs.OwnLock.{lock_kept, kept_number}
use Rattle.suite_rules.specs.Knowledge.{Seen, knows_none}
use Rattle.suite_rules.specs.Shown.{Shown, ShowsIntent}
use Rattle.suite_rules.specs.Standing.{standing}
use Rattle.suite_rules.specs.Rules.{HasSeen}
use Rattle.suite_rules.specs.Lawful.{IsNext, Lawful}
use Rattle.suite_rules.specs.Settled.{settled, listed_by}
use Rattle.suite_rules.specs.Committed.{commitment_of, Rises, committed, commitments_of, place, folded}
use Rattle.suite_rules.specs.Backups.{AreBackups}
use Rattle.suite_rules.specs.Invariant.{RunsAsKeeper, IsActiveKeeper}

-- the call came to no answer
pub data IsUnanswered {A : Type 0} : CallResult A → Type 0 where
  it_failed : (effect : Effect) → IsUnanswered (failed effect)
  it_died : (effect : Effect) → IsUnanswered (died effect)

-- A prefix of a lawful history is lawful. A begin may fail, or its session die in it, at any
-- moment. Where a session's call is lawful as done, it is lawful as failed or died, with every
-- effect that the folder gives.
pub record LawfulCut : Type 0 where
  pub prefix : (deeds : SuiteDeeds) (first : Folder) (newer older : History) →
      Lawful deeds first (newer ++ older) → Lawful deeds first older
  pub begin_unanswered : (deeds : SuiteDeeds) (first : Folder) (history : History)
      (command : Command) (result : CallResult (Answer (begins command))) → IsUnanswered result →
      IsNext deeds first history (record { token = []; call = begins command; result = result })
  pub unanswered : (deeds : SuiteDeeds) (first : Folder) (history : History) (token : Token)
      (call : Call) (answer : Answer call) (result : CallResult (Answer call)) →
      IsNext deeds first history (record { token = token; call = call; result = done answer }) →
      IsUnanswered result → GivesResult (after first history) history token call result →
      IsNext deeds first history (record { token = token; call = call; result = result })

-- Events of other sessions leave the life and the standing of a session as they are.
pub record OwnStanding : Type 0 where
  pub same_life : (token : Token) (history : History) →
      life token history ≡ life token (own_events token history)
  pub same_standing : (token : Token) (history : History) →
      standing token history ≡ standing token (own_events token history)

-- The greatest lock number never falls. At most one running session is keeper, its lock stands, and
-- its number is the greatest that ever stood. No two sessions were keeper of one number.
pub record OneKeeper : Type 0 where
  pub never_falls : (deeds : SuiteDeeds) (first : Folder) (newer older : History) →
      Lawful deeds first (newer ++ older) →
      top (after first older) ≤ top (after first (newer ++ older))
  pub alone : (deeds : SuiteDeeds) (first : Folder) (history : History) →
      Lawful deeds first history → (token other : Token) (number another : ℕ) →
      RunsAsKeeper history token number → RunsAsKeeper history other another → token ≡ other
  pub is_greatest : (deeds : SuiteDeeds) (first : Folder) (newer older : History) →
      Lawful deeds first (newer ++ older) → (token : Token) (number : ℕ) →
      RunsAsKeeper (newer ++ older) token number →
      IsSome ((after first (newer ++ older)).file (Lock number))
      × (top (after first older) ≤ number)
  pub no_two : (deeds : SuiteDeeds) (first : Folder) (history : History) →
      Lawful deeds first history → (newer older later earlier : History) →
      history ≡ newer ++ older → history ≡ later ++ earlier →
      (token other : Token) (number : ℕ) → (standing token older).own ≡ lock_kept number →
      (standing other earlier).own ≡ lock_kept number → token ≡ other

-- an active keeper that hasn't called its commit, knows of no intent and has seen this
pub record IsCleanKeeper (history : History) (token : Token) (number : ℕ)
    (seen : Seen) : Type 0 where
  pub active : IsActiveKeeper history token number
  pub uncommitted : (standing token history).commit ≡ Before
  pub clean : (standing token history).knows ≡ knows_none seen

-- The settled files are the fold of the committed list, whose numbers rise. What a clean keeper has
-- seen of a table is its settled content, which is that of the fold of its place. The backups are
-- kept.
pub record LawfulSettles : Type 0 where
  pub is_fold : (deeds : SuiteDeeds) (first : Folder) (history : History) →
      Lawful deeds first history → (table : Tab) →
      settled (after first history) table ≡ folded deeds first (committed history) table
  pub numbers_rise : (deeds : SuiteDeeds) (first : Folder) (history : History) →
      Lawful deeds first history → Rises (committed history)
  pub has_seen : (deeds : SuiteDeeds) (first : Folder) (history : History) →
      Lawful deeds first history → (token : Token) (number : ℕ) (seen : Seen) →
      IsCleanKeeper history token number seen → (table : Tab) (content : Option Bytes) →
      seen.file (Table table) ≡ Some content →
      (content ≡ settled (after first history) table)
      × (content ≡ folded deeds first (place number (committed history)) table)
  pub backup_law : (deeds : SuiteDeeds) (first : Folder) (history : History) →
      Lawful deeds first history → AreBackups deeds first history

-- a session that is or was keeper of the number, hasn't called its commit, and has seen this since it
-- last came to know that no intent stands; it may have freed its lock, failed, answered or died
pub record KeeperSaw (history : History) (token : Token) (number : ℕ) (seen : Seen) : Type 0 where
  pub kept : kept_number (standing token history).own ≡ Some number
  pub uncommitted : (standing token history).commit ≡ Before
  pub clean : (standing token history).knows ≡ knows_none seen

-- The place of a number stays, once a lock of this number or a greater one stands. What a session
-- has seen is the fold of its place under the first login.defs, whatever was committed since.
pub record PlacesStay : Type 0 where
  pub stays : (deeds : SuiteDeeds) (first : Folder) (newer older : History) →
      Lawful deeds first (newer ++ older) → (number : ℕ) → number ≤ top (after first older) →
      place number (committed (newer ++ older)) ≡ place number (committed older)
  pub has_seen : (deeds : SuiteDeeds) (first : Folder) (history : History) →
      Lawful deeds first history → (token : Token) (number : ℕ) (seen : Seen) →
      KeeperSaw history token number seen → (table : Tab) (content : Option Bytes) →
      seen.file (Table table) ≡ Some content →
      content ≡ folded deeds first (place number (committed history)) table
  pub settings : (deeds : SuiteDeeds) (first : Folder) (history : History) →
      Lawful deeds first history → (token : Token) (number : ℕ) (seen : Seen) →
      KeeperSaw history token number seen → (content : Option Bytes) →
      seen.file Defs ≡ Some content → content ≡ settings_file first
  pub whole : (deeds : SuiteDeeds) (first : Folder) (history : History) →
      Lawful deeds first history → (token : Token) (number : ℕ) (seen : Seen) →
      KeeperSaw history token number seen → (all : HasSeen (standing token history).command seen) →
      (all.files ≡ folded deeds first (place number (committed history)))
      × (all.defs ≡ settings_file first)

-- What a session has shown under a lock was found at one moment. A table that the found intent lists
-- has these bytes in the fold of all that was committed under that lock's number and lower ones;
-- another was found with its content of that fold, and login.defs as the first one. That place stays,
-- whatever was committed since.
pub record ReportsHold : Type 0 where
  pub stays : (deeds : SuiteDeeds) (first : Folder) (newer older : History) →
      Lawful deeds first (newer ++ older) → (token : Token) (shown : Shown) →
      (standing token older).shown ≡ Some shown →
      place (shown.number + 1) (committed (newer ++ older))
      ≡ place (shown.number + 1) (committed older)
  pub listed : (deeds : SuiteDeeds) (first : Folder) (history : History) →
      Lawful deeds first history → (token : Token) (shown : Shown) →
      (standing token history).shown ≡ Some shown →
      (intent : Option Bytes) → ShowsIntent shown intent → (table : Tab) (new : Bytes) →
      listed_in (listed_by intent) table ≡ Some new →
      folded deeds first (place (shown.number + 1) (committed history)) table ≡ Some new
  pub unlisted : (deeds : SuiteDeeds) (first : Folder) (history : History) →
      Lawful deeds first history → (token : Token) (shown : Shown) →
      (standing token history).shown ≡ Some shown →
      (intent : Option Bytes) → ShowsIntent shown intent → (table : Tab) (found : Found) →
      listed_in (listed_by intent) table ≡ None → shown.file (Table table) ≡ Some found →
      found ≡ found_within (name_limit (Table table))
      (folded deeds first (place (shown.number + 1) (committed history)) table)
  pub settings : (deeds : SuiteDeeds) (first : Folder) (history : History) →
      Lawful deeds first history → (token : Token) (shown : Shown) →
      (standing token history).shown ≡ Some shown →
      (found : Found) → shown.file Defs ≡ Some found →
      found ≡ found_within (name_limit Defs) (settings_file first)

-- A session that hasn't called its commit has committed nothing; one whose commit was done has
-- committed once, under its number, what it was asked.
pub record CommittedOnce : Type 0 where
  pub none : (deeds : SuiteDeeds) (first : Folder) (history : History) →
      Lawful deeds first history → (token : Token) →
      (standing token history).commit ≡ Before →
      commitments_of token (committed history) ≡ []
  pub one : (deeds : SuiteDeeds) (first : Folder) (history : History) →
      Lawful deeds first history → (token : Token) →
      (standing token history).commit ≡ Committed →
      commitments_of token (committed history)
      ≡ commitment_of token (kept_number (standing token history).own)
      (standing token history).command
