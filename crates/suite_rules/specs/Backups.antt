-- What stands at the backups of the tables.
use Rattle.std.specs.Prelude.{◌≡◌, ◌⊎◌, if◌then◌else◌, List, [], ◌∷◌, Option}
use Rattle.acct_text.specs.declared.Tab.{Tab}
use Rattle.acct_text.specs.Bytes.{Bytes}
use Rattle.acct_text.specs.Contents.{Contents, same_content}
use Rattle.acct_outside.specs.declared.Name.TheVariants.{Backup}
use Rattle.acct_outside.specs.Folder.{Folder, settings_file}
use Rattle.acct_outside.specs.History.{History, after}
use Rattle.suite_rules.specs.Deeds.{SuiteDeeds}
use Rattle.suite_rules.specs.Settled.{settled}
use Rattle.suite_rules.specs.Committed.{Commitment, committed, after_deed}

-- the table just before the last of the commands that changed it, and `held` where none did
abbrev pub before_last_change : SuiteDeeds → (defs : Option Bytes) → Tab →
    (held : Option Bytes) → Contents → List Commitment → Option Bytes
before_last_change deeds defs table held files [] = held
before_last_change deeds defs table held files (one ∷ list) =
    let new = after_deed deeds defs files one.command in
    before_last_change deeds defs table
    (if same_content (files table) (new table) then held else files table) new list

-- the table just before the last committed deed that changed it, or what the first folder held at
-- its backup where none did
abbrev pub last_backup : SuiteDeeds → Folder → Tab → List Commitment → Option Bytes
last_backup deeds first table list =
    before_last_change deeds (settings_file first) table (first.file (Backup table))
    (settled first) list

-- the backup of each table is the table just before the last committed deed that changed it, or
-- what the first folder held there where none did; or it is the table in the settled files now
abbrev pub AreBackups : SuiteDeeds → Folder → History → Type 0
AreBackups deeds first history = (table : Tab) →
    let backup = (after first history).file (Backup table) in
    (backup ≡ last_backup deeds first table (committed history))
    ⊎ (backup ≡ settled (after first history) table)
