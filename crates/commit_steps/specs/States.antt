-- What contracts see of the states of a commit: the keeper, what it has read, the new files, and how
-- far it has come with the tables that differ (docs/ARCHITECTURE.md, "The commit").
use Rattle.std.specs.Prelude.{◌≡◌, ◌≤◌, ℕ, ◌+◌, ◌-◌, ◌*◌, nat_lt, Bool, true, if◌then◌else◌, List, [], length, slice_get, drop, Option, Some, None, IsSome, option_map, unwrap_or}
use Rattle.std.specs.Option.{option_or}
use Rattle.acct_text.specs.declared.Tab.{Tab}
use Rattle.acct_text.specs.declared.Tab.TheVariants.{Passwd, Shadow, Group, Gshadow, Subuid, Subgid}
use Rattle.acct_text.specs.declared.files.Files.{Files}
use Rattle.acct_text.specs.Bytes.{Bytes}
use Rattle.acct_text.specs.Limits.{table_limit}
use Rattle.acct_text.specs.Contents.{Contents, IsChange}
use Rattle.acct_text.specs.Files.{no_files, table_of, with_table}
use Rattle.acct_text.specs.Tables.{table_place}
use Rattle.acct_outside.specs.declared.Name.{Name}
use Rattle.acct_outside.specs.declared.Name.TheVariants.{Table, Defs}
use Rattle.intent_file.specs.Intent.{NewTable, Intended, intent_of, listed_in}
use Rattle.acct_text.specs.ChangedTables.{changed_tables}
use Rattle.intent_file.specs.Pieces.{intent_pieces}
use Rattle.suite_rules.specs.Outcomes.{pieces_left}
use Rattle.lock_steps.specs.States.{Kept}

-- a keeper that reads the inputs: it has read the tables before the next one, and all six where
-- login.defs is next
pub record Reader : Type 0 where
  pub keeper : Kept
  pub files : Files
  pub next : Option Tab

-- a keeper that has read the six tables and login.defs
pub record Inputs : Type 0 where
  pub keeper : Kept
  pub files : Files
  pub defs : Option Bytes

-- new files that a command makes of the inputs
pub record Change : Type 0 where
  pub inputs : Inputs
  pub new : Files

-- a keeper on its way over the tables that differ: those before the place, from 0, are done, and of
-- the bytes for the one at the place so many first pieces are staged
pub record Walker : Type 0 where
  pub change : Change
  pub place : ℕ
  pub staged : ℕ

-- a keeper that has backed up its tables, and staged so many first pieces of the intent's text
pub record Stager : Type 0 where
  pub change : Change
  pub staged : ℕ

-- the files, each table that is listed with the bytes listed for it
abbrev pub with_tables : List NewTable → Files → Files
with_tables tables files = record {
  passwd = option_or (listed_in tables Passwd) files.passwd;
  shadow = option_or (listed_in tables Shadow) files.shadow;
  group = option_or (listed_in tables Group) files.group;
  gshadow = option_or (listed_in tables Gshadow) files.gshadow;
  subuid = option_or (listed_in tables Subuid) files.subuid;
  subgid = option_or (listed_in tables Subgid) files.subgid;
}

-- The listed tables make a change of the files: each of them differs, and they stand in the fixed order.
pub record MakesChange (tables : List NewTable) (files : Files) : Type 0 where
  pub allowed : IsChange (table_of files) (table_of (with_tables tables files))
  pub listed : tables ≡ changed_tables (table_of files) (table_of (with_tables tables files))

-- the table that is read after one, and none after the last
abbrev pub table_behind : Tab → Option Tab
table_behind Passwd = Some Shadow
table_behind Shadow = Some Group
table_behind Group = Some Gshadow
table_behind Gshadow = Some Subuid
table_behind Subuid = Some Subgid
table_behind Subgid = None

-- a table comes before the one that is next; all come before login.defs
abbrev pub is_before : Tab → Option Tab → Bool
is_before table None = true
is_before table (Some next) = nat_lt (table_place table) (table_place next)

-- Of the tables before the next, passwd and group stand, and each is within its limit.
pub record AreSound (next : Option Tab) (files : Files) : Type 0 where
  pub passwd : is_before Passwd next ≡ true → IsSome files.passwd
  pub group : is_before Group next ≡ true → IsSome files.group
  pub small : (table : Tab) (bytes : Bytes) → table_of files table ≡ Some bytes →
      length bytes ≤ table_limit

-- the name that is read next
abbrev pub next_name : Option Tab → Name
next_name None = Defs
next_name (Some table) = Table table

-- the keeper before its first read
abbrev pub start_of : Kept → Reader
start_of keeper = record { keeper = keeper; files = no_files; next = Some Passwd }

-- the keeper once the next table is read
abbrev pub read_on : Reader → Tab → Option Bytes → Reader
read_on reader table content = record reader {
  files = with_table table content reader.files;
  next = table_behind table;
}

-- the keeper once login.defs is read
abbrev pub inputs_of : Reader → Option Bytes → Inputs
inputs_of reader content =
    record { keeper = reader.keeper; files = reader.files; defs = content }

-- the change of the inputs by which the listed tables get their new bytes
abbrev pub change_by : List NewTable → Inputs → Change
change_by tables inputs = record { inputs = inputs; new = with_tables tables inputs.files }

-- the six tables as they were read
abbrev pub old_files : Change → Contents
old_files change = table_of change.inputs.files

-- the six tables as they will be
abbrev pub new_files : Change → Contents
new_files change = table_of change.new

-- the tables that differ, with their new bytes
abbrev pub changed : Change → List NewTable
changed change = changed_tables (old_files change) (new_files change)

-- the intent of the change, under the lock of its keeper
abbrev pub intended : Change → Intended
intended change = intent_of change.inputs.keeper.number (old_files change) (new_files change)

-- the bytes that a table had, which become its backup
abbrev pub old_bytes : Change → Tab → Bytes
old_bytes change table = unwrap_or (old_files change table) []

-- before the first of the tables
abbrev pub walk_of : Change → Walker
walk_of change = record { change = change; place = 0; staged = 0 }

-- a piece of the bytes for the table at the place is staged
abbrev pub has_staged : Walker → Bool
has_staged walker = nat_lt 0 walker.staged

-- one step on: the first piece of the bytes for a table is staged, and later all are moved
abbrev pub step_on : Walker → Walker
step_on walker = if has_staged walker
    then record walker { place = walker.place + 1; staged = 0 }
    else record walker { staged = 1 }

-- one piece more is staged
abbrev pub append_on : Walker → Walker
append_on walker = record walker { staged = walker.staged + 1 }

-- how many steps are left: two for each table, one for that of which a piece is staged. The appends
-- aren't counted.
abbrev pub steps_left : Walker → ℕ
steps_left walker =
    2 * (length (changed walker.change) - walker.place) - (if has_staged walker then 1 else 0)

-- the table at the walker's place, and none once all are done
abbrev pub next_table : Walker → Option NewTable
next_table walker = slice_get (changed walker.change) walker.place

-- how many pieces of the old bytes of the table at the place are left to append
abbrev pub backup_pieces : Walker → ℕ
backup_pieces walker = unwrap_or (option_map
    (λ next. pieces_left walker.staged (old_bytes walker.change next.table)) (next_table walker)) 0

-- how many pieces of the new bytes of the table at the place are left to append
abbrev pub install_pieces : Walker → ℕ
install_pieces walker = unwrap_or (option_map
    (λ next. pieces_left walker.staged next.bytes) (next_table walker)) 0

-- the piece of the intent's text at this place, empty past its end
abbrev pub intent_piece : ℕ → Change → Bytes
intent_piece place change = unwrap_or (slice_get (intent_pieces (intended change)) place) []

-- how many pieces of the intent's text are left to append
abbrev pub intent_left : Stager → ℕ
intent_left stager = length (intent_pieces (intended stager.change)) - stager.staged

-- the first piece of the intent's text is staged
abbrev pub begun_of : Change → Stager
begun_of change = record { change = change; staged = 1 }

-- one piece of the intent's text more is staged
abbrev pub append_intent : Stager → Stager
append_intent stager = record stager { staged = stager.staged + 1 }

-- the tables that differ and aren't done
abbrev pub tables_left : Walker → List NewTable
tables_left walker = drop walker.place (changed walker.change)
