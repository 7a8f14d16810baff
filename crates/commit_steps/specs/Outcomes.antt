-- What each step of a commit gives by the answer of its one call, and which call it makes
-- (docs/ARCHITECTURE.md, "The commit").
use Rattle.std.specs.Prelude.{◌≡◌, Bool, true, false, if◌then◌else◌, Option, Some, None, is_none, Result, Ok, Err}
use Rattle.acct_text.specs.declared.Tab.{Tab}
use Rattle.acct_text.specs.declared.Tab.TheVariants.{Passwd, Group}
use Rattle.acct_text.specs.Bytes.{Bytes}
use Rattle.acct_outside.specs.declared.Name.TheVariants.{Backup, BackupStage}
use Rattle.acct_outside.specs.declared.FolderFault.{FolderFault}
use Rattle.acct_outside.specs.Pieces.{piece_at}
use Rattle.acct_outside.specs.Calls.{Call, Found, found_absent, found_bytes, found_too_large, writes, appends, renames}
use Rattle.intent_file.specs.Intent.{NewTable}
use Rattle.suite_rules.specs.Outcomes.{before_commit, stages, stages_more, installs}
use Rattle.commit_steps.specs.declared.Loading.{Loading}
use Rattle.commit_steps.specs.declared.Loading.TheVariants.{More, Done}
use Rattle.commit_steps.specs.declared.LoadEnd.{LoadEnd}
use Rattle.commit_steps.specs.declared.LoadEnd.TheVariants.{Fault, TooLarge, NoTable}
use Rattle.commit_steps.specs.States.{Reader, Walker, next_name, read_on, inputs_of, old_bytes, has_staged}

-- the table is absent, and one without which no tool runs
abbrev pub is_missing : Tab → Option Bytes → Bool
is_missing Passwd content = is_none content
is_missing Group content = is_none content
is_missing _ content = false

-- what was read of a table leads on, unless the table is needed and absent
abbrev pub LoadsTable : Reader → Tab → Option Bytes → Result Loading LoadEnd → Type 0
LoadsTable reader table content (Ok (More more)) =
    (is_missing table content ≡ false) × (more ≡ read_on reader table content)
LoadsTable reader table content (Err (NoTable missing keeper)) =
    (is_missing table content ≡ true) × (missing ≡ table) × (keeper ≡ reader.keeper)
LoadsTable _ _ _ _ = ⊥

-- what was read of the next name: of a table, or of login.defs, which is the last
abbrev pub LoadsContent : Reader → (next : Option Tab) → Option Bytes →
    Result Loading LoadEnd → Type 0
LoadsContent reader (Some table) content result = LoadsTable reader table content result
LoadsContent reader None content (Ok (Done inputs)) = inputs ≡ inputs_of reader content
LoadsContent _ None _ _ = ⊥

-- a read of the next name: one with too many bytes refuses with that name
abbrev pub Loads : Reader → Result Found FolderFault → Result Loading LoadEnd → Type 0
Loads reader (Ok found_absent) result = LoadsContent reader reader.next None result
Loads reader (Ok (found_bytes bytes)) result = LoadsContent reader reader.next (Some bytes) result
Loads reader (Ok found_too_large) (Err (TooLarge name keeper)) =
    (name ≡ next_name reader.next) × (keeper ≡ reader.keeper)
Loads reader (Err fault) (Err (Fault came)) = came ≡ before_commit fault
Loads _ _ _ = ⊥

-- the next step of a backup: it stages the first piece of the table's old bytes, or moves them all
abbrev pub backup_call : Walker → NewTable → Call
backup_call walker next = if has_staged walker
    then renames BackupStage (Backup next.table)
    else writes BackupStage (piece_at 0 (old_bytes walker.change next.table))

-- between the two it appends the further pieces
abbrev pub backs_up_more : Walker → NewTable → Call
backs_up_more walker next =
    appends BackupStage (piece_at walker.staged (old_bytes walker.change next.table))

-- the next step of an installation: it stages the first piece of the table's new bytes, or moves them
-- all
abbrev pub install_call : Walker → NewTable → Call
install_call walker next = if has_staged walker then installs next else stages next

-- between the two it appends the further pieces
abbrev pub installs_more : Walker → NewTable → Call
installs_more walker next = stages_more walker.staged next
