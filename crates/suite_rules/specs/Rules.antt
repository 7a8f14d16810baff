-- The rules: which calls a session may make next, by its life and its standing
-- (docs/ARCHITECTURE.md, "The rules"). Listings, reads and verdicts are free to every running
-- session. A call that no rule permits is never allowed.
use Rattle.std.specs.Prelude.{◌≡◌, ◌≢◌, ℕ, ◌+◌, ◌<◌, ◌≤◌, Bool, true, length, Option, Some, None, IsSome}
use Rattle.acct_text.specs.declared.Tab.{Tab}
use Rattle.acct_text.specs.Bytes.{Bytes}
use Rattle.acct_text.specs.Contents.{Contents}
use Rattle.acct_outside.specs.declared.Name.{Name}
use Rattle.acct_outside.specs.declared.Name.TheVariants.{Table, Backup, Staged, Intent, IntentStage, BackupStage, FreeStage, Lock, Defs}
use Rattle.acct_outside.specs.Names.{is_staging, greatest_lock}
use Rattle.acct_outside.specs.Pieces.{piece_limit}
use Rattle.acct_outside.specs.Tokens.{Token, free_text}
use Rattle.acct_outside.specs.Folder.{greatest}
use Rattle.acct_outside.specs.Calls.{Command, Call, begins, lists, reads, asks, creates, writes, appends, renames, removes, answers}
use Rattle.acct_outside.specs.Life.{Life, MayCall}
use Rattle.acct_outside.specs.declared.CommitStage.TheVariants.{Before, Committed}
use Rattle.intent_file.specs.Intent.{Intended, intent_of, intent_text, ReadsIntent, listed_in}
use Rattle.suite_rules.specs.Deeds.{SuiteDeeds}
use Rattle.suite_rules.specs.OwnLock.{lock_uncalled, lock_kept, made_number}
use Rattle.suite_rules.specs.Listing.{Listing}
use Rattle.suite_rules.specs.Shown.{AreShown, Shown, ShowsIntent}
use Rattle.suite_rules.specs.Knowledge.{Seen, knows_none, knows_bytes}
use Rattle.suite_rules.specs.Standing.{Standing}
use Rattle.suite_rules.specs.Settled.{listed_by}

-- Create at most once, only one above the greatest lock of the last listing, only where that is
-- judged, and below the greatest number of a lock.
pub record CreateRule (standing : Standing) (number : ℕ) : Type 0 where
  pub listing : Listing
  pub listed : standing.listing ≡ Some listing
  pub first : standing.own ≡ lock_uncalled
  pub one_above : number ≡ greatest listing.numbers + 1
  pub judged : listing.is_judged ≡ true
  pub not_exhausted : greatest listing.numbers < greatest_lock

-- Tables, backups, staging names and the intent are written, appended to, moved or removed only by a
-- keeper.
pub record KeeperRule (standing : Standing) : Type 0 where
  pub number : ℕ
  pub keeps : standing.own ≡ lock_kept number

-- Write and append only at staging names, and at most 65,536 bytes in one call.
pub record StagingRule (name : Name) (piece : Bytes) : Type 0 where
  pub staging : is_staging name ≡ true
  pub small : length piece ≤ piece_limit

-- Append only at a name at which the session has staged bytes.
pub record AppendRule (standing : Standing) (name : Name) (piece : Bytes) : Type 0 where
  pub rule : StagingRule name piece
  pub behind : IsSome (standing.staged name)

-- the session was asked to do this, and has seen these six files and this login.defs
pub record HasSeen (asked : Option Command) (seen : Seen) : Type 0 where
  pub command : Command
  pub files : Contents
  pub defs : Option Bytes
  pub is_asked : asked ≡ Some command
  pub each_table : (table : Tab) → seen.file (Table table) ≡ Some (files table)
  pub settings : seen.file Defs ≡ Some defs

-- Commit at most once, and only where the session knows of no intent and has seen the six tables
-- and login.defs; where its deed on these is new files; where the staged text is that of version 2
-- of its number and the tables that differ, with their new bytes; and where each of these tables is
-- backed up.
pub record CommitRule (deeds : SuiteDeeds) (standing : Standing) (number : ℕ) : Type 0 where
  pub first : standing.commit ≡ Before
  pub seen : Seen
  pub knows : standing.knows ≡ knows_none seen
  pub has_seen : HasSeen standing.command seen
  pub new : Contents
  pub is_deed : deeds.deed has_seen.command has_seen.files has_seen.defs ≡ Some new
  pub staged : standing.staged IntentStage
      ≡ Some (intent_text (intent_of number has_seen.files new))
  pub backed : (table : Tab) → new table ≢ has_seen.files table → seen.backed table ≡ true

-- the session knows an intent that reads, and has put these tables in place
pub record KnowsIntent (standing : Standing) : Type 0 where
  pub bytes : Bytes
  pub placed : Tab → Bool
  pub knows : standing.knows ≡ knows_bytes bytes placed
  pub intent : Intended
  pub reads_it : ReadsIntent bytes intent

-- Move staged bytes to a table only where they are those that the known intent lists for it.
pub record InstallRule (standing : Standing) (table : Tab) : Type 0 where
  pub knows : KnowsIntent standing
  pub bytes : Bytes
  pub listed : listed_in knows.intent.tables table ≡ Some bytes
  pub staged : standing.staged (Staged table) ≡ Some bytes

-- Remove the intent only where each table that the known intent lists is in place.
pub record ClearRule (standing : Standing) : Type 0 where
  pub knows : KnowsIntent standing
  pub in_place : (table : Tab) (bytes : Bytes) →
      listed_in knows.intent.tables table ≡ Some bytes → knows.placed table ≡ true

-- the session knows of no intent, and its staged backup is what it has seen of the table
pub record MayBackUp (standing : Standing) (table : Tab) : Type 0 where
  pub seen : Seen
  pub knows : standing.knows ≡ knows_none seen
  pub bytes : Bytes
  pub is_seen : seen.file (Table table) ≡ Some (Some bytes)
  pub staged : standing.staged BackupStage ≡ Some bytes

-- Beside the commit and the tables, move only a staged backup, and the free text to the own lock.
pub data MoveRule (standing : Standing) (number : ℕ) : Name → Name → Type 0 where
  moves_backup : (table : Tab) → MayBackUp standing table →
      MoveRule standing number BackupStage (Backup table)
  moves_free : standing.staged FreeStage ≡ Some free_text →
      MoveRule standing number FreeStage (Lock number)

-- the session made this lock, and its last listing, made after the create, shows a greater one
pub record HasSeenGreater (standing : Standing) (number : ℕ) : Type 0 where
  pub made : made_number standing.own ≡ Some number
  pub listing : Listing
  pub listed : standing.listing ≡ Some listing
  pub follows : listing.follows_create ≡ true
  pub greater : number < greatest listing.numbers

-- Remove a lock only below the kept number, or the own one where a greater outran it.
pub data UnlockRule (standing : Standing) (number : ℕ) : Type 0 where
  unlocks_below : (keeper : KeeperRule standing) → number < keeper.number →
      UnlockRule standing number
  unlocks_own : HasSeenGreater standing number → UnlockRule standing number

-- the session has seen all seven files, and its answer on them has status 0 and isn't Changed
pub record AnswersSame (deeds : SuiteDeeds) (standing : Standing) : Type 0 where
  pub seen : Seen
  pub knows : standing.knows ≡ knows_none seen
  pub has_seen : HasSeen standing.command seen
  pub same : deeds.answers_same has_seen.command has_seen.files has_seen.defs ≡ true

-- The session took no lock. What it has shown of the intent is absent or reads, and whichever files are as
-- it has shown, its answer on what it reads of them has status 0 and isn't Changed.
pub record ReportsShown (deeds : SuiteDeeds) (standing : Standing) : Type 0 where
  pub uncalled : standing.own ≡ lock_uncalled
  pub shown : Shown
  pub shows : standing.shown ≡ Some shown
  pub command : Command
  pub is_asked : standing.command ≡ Some command
  pub intent : Option Bytes
  pub shows_intent : ShowsIntent shown intent
  pub same : (files : Contents) (defs : Option Bytes) → AreShown shown intent files defs →
      deeds.shows_same command files defs ≡ true

-- Answer with status 0 only after the own commit was done, or where nothing was to change.
pub data AnswerRule (deeds : SuiteDeeds) (standing : Standing) (status : ℕ) : Type 0 where
  answers_refusal : status ≢ 0 → AnswerRule deeds standing status
  answers_changed : standing.commit ≡ Committed → AnswerRule deeds standing status
  answers_same : AnswersSame deeds standing → AnswerRule deeds standing status
  answers_shown : ReportsShown deeds standing → AnswerRule deeds standing status

-- The standing permits the call, each by its rule. A begin has the rule of lives alone.
pub data Permits (deeds : SuiteDeeds) (standing : Standing) : Call → Type 0 where
  free_begin : (command : Command) → Permits deeds standing (begins command)
  free_listing : Permits deeds standing lists
  free_read : (name : Name) → Permits deeds standing (reads name)
  free_verdict : (token : Token) → Permits deeds standing (asks token)
  create_rule : (number : ℕ) → CreateRule standing number →
      Permits deeds standing (creates number)
  staging_rule : (name : Name) (piece : Bytes) → KeeperRule standing → StagingRule name piece →
      Permits deeds standing (writes name piece)
  append_rule : (name : Name) (piece : Bytes) → KeeperRule standing →
      AppendRule standing name piece → Permits deeds standing (appends name piece)
  commit_rule : (keeper : KeeperRule standing) → CommitRule deeds standing keeper.number →
      Permits deeds standing (renames IntentStage Intent)
  install_rule : (table : Tab) → KeeperRule standing → InstallRule standing table →
      Permits deeds standing (renames (Staged table) (Table table))
  clear_rule : KeeperRule standing → ClearRule standing →
      Permits deeds standing (removes Intent)
  move_rule : (from to : Name) (keeper : KeeperRule standing) →
      MoveRule standing keeper.number from to → Permits deeds standing (renames from to)
  unlock_rule : (number : ℕ) → UnlockRule standing number →
      Permits deeds standing (removes (Lock number))
  answer_rule : (status : ℕ) → AnswerRule deeds standing status →
      Permits deeds standing (answers status)

-- the session's life and its standing allow the call
pub record KeepsRules (deeds : SuiteDeeds) (life : Life) (standing : Standing)
    (call : Call) : Type 0 where
  pub life_rule : MayCall life call
  pub permitted : Permits deeds standing call
