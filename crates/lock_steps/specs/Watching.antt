-- The states of a session that takes no lock: what contracts see of each, what its step gives by the answer
-- of its one call, and how it stands, by its own events alone (docs/ARCHITECTURE.md, "Reports").
use Rattle.std.specs.Prelude.{◌≡◌, ◌≢◌, ⊤, ℕ, true, List, [], length, get_or, drop, slice_get, Some, Result, Ok, Err}
use Rattle.acct_text.specs.declared.Tab.{Tab}
use Rattle.acct_outside.specs.declared.Name.{Name}
use Rattle.acct_outside.specs.declared.Name.TheVariants.{Defs}
use Rattle.acct_outside.specs.declared.FolderFault.{FolderFault}
use Rattle.acct_outside.specs.declared.FolderFault.TheVariants.{Failed, Memory}
use Rattle.acct_outside.specs.Tokens.{Token}
use Rattle.acct_outside.specs.Folder.{greatest}
use Rattle.acct_outside.specs.Calls.{Call, Answer, Found, found_too_large, lists, reads}
use Rattle.acct_outside.specs.Moment.{Moment}
use Rattle.intent_file.specs.Intent.{NewTable}
use Rattle.suite_rules.specs.OwnLock.{lock_uncalled}
use Rattle.suite_rules.specs.Shown.{Shown}
use Rattle.suite_rules.specs.Standing.{Standing}
use Rattle.suite_rules.specs.Steps.{TakesStep, own_command}
use Rattle.lock_steps.specs.declared.gathered.IntentFound.{IntentFound}
use Rattle.lock_steps.specs.declared.LockRefusal.TheVariants.{Outrun}
use Rattle.lock_steps.specs.declared.LockEnd.{LockEnd}
use Rattle.lock_steps.specs.declared.LockEnd.TheVariants.{Refused, Folder}
use Rattle.lock_steps.specs.States.{Lister}
use Rattle.lock_steps.specs.Stands.{HasListed}
use Rattle.lock_steps.specs.NextCall.{next_or}
use Rattle.lock_steps.specs.Gathered.{Gathered, HasFound, TellsIntent, listed_at, first_gathered, names_behind, with_found}

-- one that has judged the greatest lock, of this number, and has read the intent since; it wants these
-- tables, what it has found is gathered, and these names are left to read
pub record Gatherer : Type 0 where
  pub token : Token
  pub number : ℕ
  pub wanted : List Tab
  pub gathered : Gathered
  pub left : List Name

-- what was found of the wanted tables under the greatest lock of two listings, which has this number
pub record Report : Type 0 where
  pub number : ℕ
  pub wanted : List Tab
  pub gathered : Gathered

-- how many reads are left
abbrev pub gathering_left : Gatherer → ℕ
gathering_left reading = length reading.left

-- the first of the names that are left; the last of them is login.defs
abbrev pub next_left : Gatherer → Name
next_left reading = get_or reading.left 0 Defs

-- it reads the first of the names that are left, and then lists the locks again
abbrev pub gathering_call : Gatherer → Call
gathering_call reading = next_or lists reads (slice_get reading.left 0)

-- one that wants these tables, once the intent is read, of which this is told, and which lists those
abbrev pub begun_reading : Lister → List Tab → IntentFound → List NewTable → Gatherer
begun_reading watcher wanted intent tables =
    let gathered = first_gathered wanted intent tables in
    record {
      token = watcher.token;
      number = watcher.greatest;
      wanted = wanted;
      gathered = gathered;
      left = names_behind gathered;
    }

-- once this is found at the first of the names that are left
abbrev pub gathered_on : Gatherer → Found → Gatherer
gathered_on reading found = record reading {
  gathered = with_found (next_left reading) found reading.gathered;
  left = drop 1 reading.left;
}

-- what it has gathered, under its number
abbrev pub report_of : Gatherer → Report
report_of reading = record {
  number = reading.number;
  wanted = reading.wanted;
  gathered = reading.gathered;
}

-- a read of the intent leads on, whatever it finds; memory may run out for what it lists
abbrev pub ReadsIntentFirst : Lister → List Tab → Result Found FolderFault →
    Result Gatherer FolderFault → Type 0
ReadsIntentFirst watcher wanted (Ok found) (Ok reading) =
    TellsIntent found reading.gathered.intent
    × (reading ≡ begun_reading watcher wanted reading.gathered.intent (listed_at found))
ReadsIntentFirst watcher wanted (Ok found) (Err Memory) = ⊤
ReadsIntentFirst watcher wanted (Err fault) (Err came) = came ≡ fault
ReadsIntentFirst _ _ _ _ = ⊥

-- a read of the next name leads on, whatever it finds; of one that is too large the name is noted, and
-- memory may run out for that
abbrev pub GathersOn : Gatherer → Result Found FolderFault → Result Gatherer FolderFault → Type 0
GathersOn reading (Ok found) (Ok more) = more ≡ gathered_on reading found
GathersOn reading (Ok found_too_large) (Err Memory) = ⊤
GathersOn reading (Err fault) (Err came) = came ≡ fault
GathersOn _ _ _ = ⊥

-- a second listing: what was found is confirmed where the same lock is the greatest, and only there
abbrev pub ConfirmsFound : Gatherer → Result (List ℕ) FolderFault → Result Report LockEnd → Type 0
ConfirmsFound reading (Ok numbers) (Ok report) = (greatest numbers ≡ reading.number)
    × (report ≡ report_of reading)
ConfirmsFound reading (Ok numbers) (Err (Refused (Outrun number other))) =
    (greatest numbers ≢ reading.number) × (number ≡ reading.number) × (other ≡ greatest numbers)
ConfirmsFound reading (Err fault) (Err (Folder came)) = came ≡ fault
ConfirmsFound _ _ _ = ⊥

-- It hasn't called create, and has judged the greatest lock, which has this number. What it found since
-- is gathered, but for the names that are left to read.
abbrev pub HasGathered : Gatherer → Standing → Type 0
HasGathered reading = HasListed lock_uncalled reading.number
    (λ listing. (listing.is_judged ≡ true)
    × HasFound reading.wanted listing.watched reading.gathered reading.left)

-- it hasn't called create, and has shown all that the report has
pub record HasReported (report : Report) (standing : Standing) : Type 0 where
  pub uncalled : standing.own ≡ lock_uncalled
  pub shown : Shown
  pub shows : standing.shown ≡ Some shown
  pub number : shown.number ≡ report.number
  pub is_found : HasFound report.wanted shown.file report.gathered []

-- The session makes this read, whose answer shows so in the result. It keeps what it was asked and how far
-- its commit is.
abbrev pub Watches : {State : Type 0} → Moment → Moment → Token → (call : Call)
    → (Result (Answer call) FolderFault → Result State FolderFault → Type 0)
    → (State → Standing → Type 0) → Result State FolderFault → Type 0
Watches before now token call Shows Holds result =
    TakesStep before now token call (λ answer. Shows answer result) Holds own_command Failed result
