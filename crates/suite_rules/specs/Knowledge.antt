-- What a keeper knows of the intent, and what it has done since it came to know it
-- (docs/ARCHITECTURE.md, "The commit").
use Rattle.std.specs.Prelude.{Bool, true, false, ◌||◌, if◌then◌else◌, Option, Some, None, bytes_eq}
use Rattle.acct_text.specs.declared.Tab.{Tab}
use Rattle.acct_text.specs.Bytes.{Bytes}
use Rattle.acct_text.specs.Tables.{same_table}
use Rattle.acct_outside.specs.declared.Name.{Name}
use Rattle.acct_outside.specs.declared.Name.TheVariants.{Table, Backup, Staged, Intent, IntentStage, BackupStage, Defs}
use Rattle.acct_outside.specs.Names.{same_name}
use Rattle.acct_outside.specs.Calls.{Call, Answer, CallResult, Found, reads, renames, removes, done, found_absent, found_bytes, found_too_large}

-- the bytes that a keeper has staged at each name, none where it has staged nothing
abbrev pub Stages : Type 0
Stages = Name → Option Bytes

-- what a keeper has seen at each name: bytes or absent; none where it hasn't read it whole
abbrev pub Sights : Type 0
Sights = Name → Option (Option Bytes)

-- what a keeper has seen and backed up since it last came to know that no intent stands
pub record Seen : Type 0 where
  -- what it has seen at each table and at login.defs
  pub file : Sights
  -- the tables of which it moved the seen bytes to the backup
  pub backed : Tab → Bool

-- what a keeper knows of the intent: nothing; that none stands, and what it has seen since; or
-- the bytes of the one that stands, and to which tables it moved staged bytes since
pub data Knowledge : Type 0 where
  knows_nothing : Knowledge
  knows_none : Seen → Knowledge
  knows_bytes : Bytes → (Tab → Bool) → Knowledge

-- it knows that no intent stands, and has seen nothing yet
abbrev pub nothing_seen : Seen
nothing_seen = record { file = λ name. None; backed = λ table. false }

-- it knows the intent's bytes, and has put no table in place yet
abbrev pub knows_new : Bytes → Knowledge
knows_new bytes = knows_bytes bytes (λ table. false)

-- the files on which a deed is taken: the six tables and login.defs
abbrev pub is_input : Name → Bool
is_input (Table table) = true
is_input Defs = true
is_input _ = false

-- the files on which the settled files and an answer on them depend
abbrev pub is_watched : Name → Bool
is_watched Intent = true
is_watched name = is_input name

-- what a read found, where it found all
abbrev pub whole_content : Found → Option (Option Bytes)
whole_content found_absent = Some None
whole_content (found_bytes bytes) = Some (Some bytes)
whole_content found_too_large = None

-- what was seen, with what was found now at one name, where it was found whole
abbrev pub seen_with : Name → Option (Option Bytes) → Sights → Sights
seen_with name None seen other = seen other
seen_with name (Some content) seen other =
    if same_name other name then Some content else seen other

-- a test of tables that one more passes
abbrev pub table_with : Tab → (Tab → Bool) → Tab → Bool
table_with table test other = same_table other table || test other

-- it read the intent
abbrev pub intent_step : Found → Knowledge → Knowledge
intent_step found_absent knows = knows_none nothing_seen
intent_step (found_bytes bytes) knows = knows_new bytes
intent_step found_too_large knows = knows

-- it read another file, which counts while it knows that no intent stands
abbrev pub input_step : Name → Found → Knowledge → Knowledge
input_step name found (knows_none seen) =
    knows_none (record seen { file = seen_with name (whole_content found) seen.file })
input_step name found knows = knows

-- it read a file
abbrev pub read_step : Name → Found → Knowledge → Knowledge
read_step Intent found knows = intent_step found knows
read_step name found knows = if is_input name then input_step name found knows else knows

-- it committed the staged bytes
abbrev pub commits_bytes : Option Bytes → Knowledge → Knowledge
commits_bytes None knows = knows
commits_bytes (Some bytes) knows = knows_new bytes

-- the staged bytes are those seen
abbrev pub is_seen : Option Bytes → Option (Option Bytes) → Bool
is_seen (Some bytes) (Some (Some seen)) = bytes_eq bytes seen
is_seen _ _ = false

-- it moved staged bytes to the table's backup
abbrev pub backup_step : Tab → Option Bytes → Knowledge → Knowledge
backup_step table staged (knows_none seen) =
    if is_seen staged (seen.file (Table table))
    then knows_none (record seen { backed = table_with table seen.backed })
    else knows_none seen
backup_step table staged knows = knows

-- it moved staged bytes to the table
abbrev pub install_step : Tab → Knowledge → Knowledge
install_step table (knows_bytes bytes placed) = knows_bytes bytes (table_with table placed)
install_step table knows = knows

-- a move of it was done
abbrev pub moved_step : Stages → Name → Name → Knowledge → Knowledge
moved_step staged IntentStage Intent knows = commits_bytes (staged IntentStage) knows
moved_step staged BackupStage (Backup table) knows = backup_step table (staged BackupStage) knows
moved_step staged (Staged table) (Table other) knows =
    if same_table table other then install_step table knows else knows
moved_step staged _ _ knows = knows

-- a keeper's knowledge after one of its calls, with its staged bytes as they were before it
abbrev pub knows_step : Stages → (call : Call) → CallResult (Answer call) → Knowledge → Knowledge
knows_step staged (reads name) (done found) knows = read_step name found knows
knows_step staged (renames from to) (done answer) knows = moved_step staged from to knows
knows_step staged (removes Intent) (done answer) knows = knows_none nothing_seen
knows_step staged _ _ knows = knows
