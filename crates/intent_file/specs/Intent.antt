-- The text of an intent in both versions, and when bytes read as one: a header, the changed tables
-- in their fixed order, and an end. Version 2 says in its header how many bytes follow it.
use Rattle.std.specs.Prelude.{◌≡◌, ℕ, zero, suc, min, Bool, true, ◌&&◌, ◌==◌, nat_le, nat_lt, if◌then◌else◌, List, [], ◌∷◌, ◌++◌, length, take, drop, Option, Some, None, bytes_eq, codes, decimal}
use Rattle.std.specs.List.{list_all, flat_map}
use Rattle.std.specs.Str.Parse.{digits_value}
use Rattle.acct_text.specs.declared.Tab.{Tab}
use Rattle.acct_text.specs.declared.Tab.TheVariants.{Passwd, Shadow, Group, Gshadow, Subuid, Subgid}
use Rattle.acct_text.specs.Bytes.{Bytes, newline, blank}
use Rattle.acct_text.specs.Limits.{table_limit}
use Rattle.acct_text.specs.Tables.{table_place, same_table, table_name}
use Rattle.acct_outside.specs.Names.{greatest_lock}
use Rattle.acct_text.specs.declared.new_tables.NewTable.{NewTable as Listed}
use Rattle.acct_text.specs.ChangedTables.{changed_tables}
use Rattle.acct_text.specs.Contents.{Contents}
use Rattle.intent_file.specs.declared.Version.{Version}
use Rattle.intent_file.specs.declared.Version.TheVariants.{One, Two}

-- a table with its new bytes, as the program holds it
abbrev pub NewTable : Type 0
NewTable = Listed

-- what an intent says: the version of its text, the number of the lock under which it was made, and
-- the tables that differ
pub record Intended : Type 0 where
  pub version : Version
  pub number : ℕ
  pub tables : List NewTable

-- the intent of these tables as it is written now
abbrev pub intent_listing : ℕ → List NewTable → Intended
intent_listing number tables = record { version = Two; number = number; tables = tables }

-- the intent of a change of the old files to the new ones, under the lock of this number
abbrev pub intent_of : ℕ → Contents → Contents → Intended
intent_of number old new = intent_listing number (changed_tables old new)

-- the number of a version
abbrev pub version_number : Version → ℕ
version_number One = 1
version_number Two = 2

-- what a header says of the bytes that follow it: nothing in version 1, their number in version 2
abbrev pub total_word : Version → ℕ → Bytes
total_word One total = []
total_word Two total = codes " " ++ decimal total

-- `accounts-intent 1 N COUNT` or `accounts-intent 2 N COUNT TOTAL` on a line: the number of the lock,
-- how many tables follow, and how many bytes
abbrev pub header : Version → ℕ → ℕ → ℕ → Bytes
header version number count total =
    codes "accounts-intent " ++ (decimal (version_number version) ++ (codes " "
    ++ (decimal number ++ (codes " " ++ (decimal count
    ++ (total_word version total ++ codes "\n"))))))

-- `NAME LENGTH` on a line, then the bytes and a newline
abbrev pub table_part : NewTable → Bytes
table_part new =
    table_name new.table ++ (codes " " ++ (decimal (length new.bytes)
    ++ (codes "\n" ++ (new.bytes ++ codes "\n"))))

-- the parts of these tables, one behind the other
abbrev pub table_parts : List NewTable → Bytes
table_parts tables = flat_map table_part tables

-- `end` on a line
abbrev pub end_part : Bytes
end_part = codes "end\n"

-- what follows the header of an intent of these tables
abbrev pub body : List NewTable → Bytes
body tables = table_parts tables ++ end_part

-- that header
abbrev pub header_of : Version → ℕ → List NewTable → Bytes
header_of version number tables = header version number (length tables) (length (body tables))

-- the text of an intent
abbrev pub intent_text : Intended → Bytes
intent_text intent =
    header_of intent.version intent.number intent.tables ++ body intent.tables

-- each table comes later in the fixed order than those before it, so at most once
abbrev pub is_in_order : List NewTable → Bool
is_in_order [] = true
is_in_order (new ∷ []) = true
is_in_order (new ∷ next ∷ news) =
    nat_lt (table_place new.table) (table_place next.table) && is_in_order (next ∷ news)

-- no table has more bytes than a table may have
abbrev pub is_within_limit : List NewTable → Bool
is_within_limit tables = list_all (λ new. nat_le (length new.bytes) table_limit) tables

-- a lock may have the number
abbrev pub is_lock_number : ℕ → Bool
is_lock_number number = nat_le 1 number && nat_le number greatest_lock

-- the number is a lock's, and the tables are at least one, in the fixed order and within their limit
abbrev pub is_allowed : Intended → Bool
is_allowed intent =
    is_lock_number intent.number && (nat_le 1 (length intent.tables)
    && (is_in_order intent.tables && is_within_limit intent.tables))

-- the bytes read as this intent
pub record ReadsIntent (bytes : Bytes) (intent : Intended) : Type 0 where
  pub allowed : is_allowed intent ≡ true
  pub text : bytes ≡ intent_text intent

-- the bytes that the tables list for a table, and none where they don't list it
abbrev pub listed_in : List NewTable → Tab → Option Bytes
listed_in [] table = None
listed_in (new ∷ news) table =
    if same_table new.table table then Some new.bytes else listed_in news table

-- computed
-- At most one intent can have the bytes as its text: the one that their first bytes spell. It is
-- read where it is allowed and they are its text. The law `reading_is_unique` joins the two.

-- the bytes before the first end, or all where there is none
abbrev pub before_byte : ℕ → Bytes → Bytes
before_byte end [] = []
before_byte end (byte ∷ bytes) = if byte == end then [] else byte ∷ before_byte end bytes

-- the bytes after the first end
abbrev pub after_byte : ℕ → Bytes → Bytes
after_byte end bytes = drop (suc (length (before_byte end bytes))) bytes

-- the table with this name; for another text the last one
abbrev pub table_of_name : Bytes → Tab
table_of_name name =
    if bytes_eq name (table_name Passwd) then Passwd else
    (if bytes_eq name (table_name Shadow) then Shadow else
    (if bytes_eq name (table_name Group) then Group else
    (if bytes_eq name (table_name Gshadow) then Gshadow else
    (if bytes_eq name (table_name Subuid) then Subuid else Subgid))))

-- the length that a table part would have listed: behind a blank, up to a newline
abbrev pub listed_length : Bytes → ℕ
listed_length bytes = digits_value 10 (before_byte newline (after_byte blank bytes))

-- the bytes behind the first line of a table part
abbrev pub after_line : Bytes → Bytes
after_line bytes = after_byte newline (after_byte blank bytes)

-- the only table whose part the bytes can begin with
abbrev pub spelled_table : Bytes → NewTable
spelled_table bytes = record {
  table = table_of_name (before_byte blank bytes);
  bytes = take (listed_length bytes) (after_line bytes);
}

-- what follows that part
abbrev pub after_table : Bytes → Bytes
after_table bytes = drop (suc (listed_length bytes)) (after_line bytes)

-- the only tables, so many, whose parts the bytes can begin with
abbrev pub spelled_tables : ℕ → Bytes → List NewTable
spelled_tables zero bytes = []
spelled_tables (suc count) bytes =
    spelled_table bytes ∷ spelled_tables count (after_table bytes)

-- the bytes behind the first word of a header
abbrev pub after_first : Bytes → Bytes
after_first bytes = drop (length (codes "accounts-intent ")) bytes

-- the version of this number; of another number the last one
abbrev pub version_of : ℕ → Version
version_of number = if number == version_number One then One else Two

-- the version that a header would have
abbrev pub spelled_version : Bytes → Version
spelled_version bytes = version_of (digits_value 10 (before_byte blank (after_first bytes)))

-- the bytes behind the version
abbrev pub after_version : Bytes → Bytes
after_version bytes = after_byte blank (after_first bytes)

-- the number that a header would have
abbrev pub spelled_number : Bytes → ℕ
spelled_number bytes = digits_value 10 (before_byte blank (after_version bytes))

-- the bytes behind the number
abbrev pub after_number : Bytes → Bytes
after_number bytes = after_byte blank (after_version bytes)

-- the byte behind the count: in version 2 the total follows
abbrev pub count_end : Version → ℕ
count_end One = newline
count_end Two = blank

-- the count that a header would have
abbrev pub spelled_count : Version → Bytes → ℕ
spelled_count version bytes = digits_value 10 (before_byte (count_end version) (after_number bytes))

-- the bytes behind the count and the total
abbrev pub after_count : Version → Bytes → Bytes
after_count One bytes = after_byte newline bytes
after_count Two bytes = after_byte newline (after_byte blank bytes)

-- what follows a header
abbrev pub after_header : Version → Bytes → Bytes
after_header version bytes = after_count version (after_number bytes)

-- the only intent of the version whose text the bytes can begin with
abbrev pub spelled_in : Version → Bytes → Intended
spelled_in version bytes = record {
  version = version;
  number = spelled_number bytes;
  tables = spelled_tables (min 6 (spelled_count version bytes)) (after_header version bytes);
}

-- the only intent whose text the bytes can begin with
abbrev pub spelled_intent : Bytes → Intended
spelled_intent bytes = spelled_in (spelled_version bytes) bytes

-- this intent, where it is allowed and the bytes are its text
abbrev pub checked_intent : Bytes → Intended → Option Intended
checked_intent bytes intent =
    if is_allowed intent && bytes_eq bytes (intent_text intent) then Some intent else None

-- the intent that the bytes read as, if they do
abbrev pub read_intent : Bytes → Option Intended
read_intent bytes = checked_intent bytes (spelled_intent bytes)
