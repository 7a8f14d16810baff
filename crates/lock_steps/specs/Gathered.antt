-- What a session without a lock keeps of the files on which its answer depends: of the intent, of the six
-- tables and of login.defs (docs/ARCHITECTURE.md, "Reports").
use Rattle.std.specs.Prelude.{◌≡◌, ◌≤◌, Bool, true, false, List, [], ◌∷◌, ◌++◌, length, filter, Option, Some, None, IfSome, is_none, is_some, ◌&&◌}
use Rattle.std.specs.List.{list_any}
use Rattle.acct_text.specs.declared.Tab.{Tab}
use Rattle.acct_text.specs.declared.Tab.TheVariants.{Passwd, Shadow, Group, Gshadow, Subuid, Subgid}
use Rattle.acct_text.specs.declared.files.Files.{Files}
use Rattle.acct_text.specs.Bytes.{Bytes}
use Rattle.acct_text.specs.Files.{no_files, table_of, with_table}
use Rattle.acct_text.specs.Limits.{table_limit}
use Rattle.acct_text.specs.SeenTables.{seen_of, seen_through}
use Rattle.acct_outside.specs.declared.Name.{Name}
use Rattle.acct_outside.specs.declared.Name.TheVariants.{Table, Intent, Defs}
use Rattle.acct_outside.specs.Names.{same_name}
use Rattle.acct_outside.specs.Calls.{Found, found_absent, found_bytes, found_too_large}
use Rattle.intent_file.specs.Intent.{Intended, NewTable, ReadsIntent, listed_in}
use Rattle.intent_file.specs.Parts.{FirstFault}
use Rattle.suite_rules.specs.Knowledge.{is_input}
use Rattle.suite_rules.specs.Settled.{listed_by}
use Rattle.lock_steps.specs.declared.gathered.IntentFound.{IntentFound}
use Rattle.lock_steps.specs.declared.gathered.IntentFound.TheVariants.{Absent, Listed, TooLarge, Damaged}

-- what is kept of all that was found
pub record Gathered : Type 0 where
  pub intent : IntentFound
  -- a table that the intent lists has the intent's bytes, and one that isn't wanted is empty
  pub files : Files
  pub defs : Option Bytes
  -- the names that were read, and at which too many bytes stand
  pub large : List Name

-- the name is one of these
abbrev pub is_in : Name → List Name → Bool
is_in name names = list_any (λ other. same_name other name) names

-- too many bytes were found at the name
abbrev pub is_large : Gathered → Name → Bool
is_large gathered name = is_in name gathered.large

-- the bytes that are kept for a table or login.defs, none where it is absent or too large
abbrev pub content_at : Gathered → Name → Option Bytes
content_at gathered (Table table) = table_of gathered.files table
content_at gathered Defs = gathered.defs
content_at gathered _ = None

-- what was found, by whether it was too large and the bytes that are kept
abbrev pub found_as : Bool → Option Bytes → Found
found_as true content = found_too_large
found_as false None = found_absent
found_as false (Some bytes) = found_bytes bytes

-- what was found at a table or at login.defs
abbrev pub gathered_at : Gathered → Name → Found
gathered_at gathered name = found_as (is_large gathered name) (content_at gathered name)

-- this is told of what was found at the intent
abbrev pub TellsIntent : Found → IntentFound → Type 0
TellsIntent found_absent Absent = Unit {0}
TellsIntent (found_bytes bytes) Listed = (intended : Intended) × ReadsIntent bytes intended
TellsIntent (found_bytes bytes) (Damaged part) = FirstFault bytes part
TellsIntent found_too_large TooLarge = Unit {0}
TellsIntent _ _ = ⊥

-- the intent is absent or reads, so that the tables behind it are known
abbrev pub is_readable : IntentFound → Bool
is_readable Absent = true
is_readable Listed = true
is_readable _ = false

-- the tables that an intent lists, of which this was found
abbrev pub listed_at : Found → List NewTable
listed_at (found_bytes bytes) = listed_by (Some bytes)
listed_at _ = []

-- what is known of a table without its read, where these are wanted and this was found at the intent: the
-- bytes that it lists, and that a table which isn't wanted counts as empty
abbrev pub known_of : List Tab → Found → Tab → Option Bytes
known_of wanted found table = seen_of wanted table (listed_in (listed_at found) table)

-- the name is a table's that is known so
abbrev pub is_known : List Tab → Found → Name → Bool
is_known wanted found (Table table) = is_some (known_of wanted found table)
is_known wanted found _ = false

-- What is kept is what was found at these names, of which these tables are wanted: at the intent, and where
-- that is absent or reads at login.defs and at each wanted table that it doesn't list, but for the names
-- that are left to read.
pub record HasFound (wanted : List Tab) (watched : Name → Option Found) (gathered : Gathered)
    (left : List Name) : Type 0 where
  pub found : Found
  pub at_intent : watched Intent ≡ Some found
  pub told : TellsIntent found gathered.intent
  pub known : (table : Tab) (bytes : Bytes) → known_of wanted found table ≡ Some bytes →
      table_of gathered.files table ≡ Some bytes
  pub taken : (table : Tab) (bytes : Bytes) → known_of wanted found table ≡ Some bytes →
      (is_large gathered (Table table) ≡ false) × (is_in (Table table) left ≡ false)
  pub unknown : is_readable gathered.intent ≡ true → (name : Name) → is_input name ≡ true →
      is_known wanted found name ≡ false → is_in name left ≡ false →
      watched name ≡ Some (gathered_at gathered name)

-- no table, and not login.defs, has more bytes than the limit
pub record AreSmall (files : Files) (defs : Option Bytes) : Type 0 where
  pub tables : (table : Tab) (bytes : Bytes) → table_of files table ≡ Some bytes →
      length bytes ≤ table_limit
  pub settings : IfSome defs (λ bytes. length bytes ≤ table_limit)

-- the files with the bytes of the tables that are listed
abbrev pub with_listed : List NewTable → Files → Files
with_listed [] files = files
with_listed (new ∷ news) files = with_table new.table (Some new.bytes) (with_listed news files)

-- before any other read, where this is told of the intent, it lists these tables, and those are wanted
abbrev pub first_gathered : List Tab → IntentFound → List NewTable → Gathered
first_gathered wanted intent tables = record {
  intent = intent;
  files = seen_through wanted (with_listed tables no_files);
  defs = None;
  large = [];
}

-- the six tables in the fixed order, and login.defs
abbrev pub inputs : List Name
inputs = Table Passwd ∷ Table Shadow ∷ Table Group ∷ Table Gshadow ∷ Table Subuid ∷ Table Subgid
    ∷ Defs ∷ []

-- it isn't a table that is there already
abbrev pub lacks : Files → Name → Bool
lacks files (Table table) = is_none (table_of files table)
lacks files _ = true

-- it is to be read behind the intent: nothing is where that doesn't read, else each input that isn't known
abbrev pub awaits : Gathered → Name → Bool
awaits gathered name = is_readable gathered.intent && lacks gathered.files name

-- what is to be read behind the intent, in order
abbrev pub names_behind : Gathered → List Name
names_behind gathered = filter (awaits gathered) inputs

-- the bytes that are kept of what was found
abbrev pub held_bytes : Found → Option Bytes
held_bytes (found_bytes bytes) = Some bytes
held_bytes _ = None

-- the tables with these bytes for the name, where that is a table's
abbrev pub files_with_content : Name → Option Bytes → Files → Files
files_with_content (Table table) content files = with_table table content files
files_with_content _ content files = files

-- login.defs with these bytes for the name, where that is its
abbrev pub defs_with : Name → Option Bytes → Option Bytes → Option Bytes
defs_with Defs content defs = content
defs_with _ content defs = defs

-- the names of files that are too large, with this one where it was found so
abbrev pub large_with : Name → Found → List Name → List Name
large_with name found_too_large large = large ++ name ∷ []
large_with name _ large = large

-- these bytes are kept for a table or login.defs, None where it has none
abbrev pub with_content : Name → Option Bytes → Gathered → Gathered
with_content name content gathered = record gathered {
  files = files_with_content name content gathered.files;
  defs = defs_with name content gathered.defs;
}

-- this was found at a table or at login.defs
abbrev pub with_found : Name → Found → Gathered → Gathered
with_found name found gathered = with_content name (held_bytes found)
    (record gathered { large = large_with name found gathered.large })

-- The names that are left to read are tables and login.defs, none of them twice, and none is told too
-- large.
abbrev pub AreUnread : List Name → List Name → Type 0
AreUnread large [] = Unit {0}
AreUnread large (name ∷ names) = (is_input name ≡ true) × (is_in name large ≡ false)
    × (is_in name names ≡ false) × AreUnread large names
