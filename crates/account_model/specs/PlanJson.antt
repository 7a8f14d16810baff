-- What a plan tells as one JSON object (RFC 8259): the status, what is printed, the records of the lines
-- that are new, and the tables that change, with their sizes.
use Rattle.std.specs.Prelude.{ℕ, ◌/◌, ◌%◌, List, [], ◌∷◌, ◌++◌, length, map, flat_map, filter_map, Option, None, Some, codes, decimal, slice_index, nat_lt, ◌==◌, ◌||◌, if◌then◌else◌}
use Rattle.std.specs.List.{join_with_byte}
use Rattle.std.specs.Str.Lossy.{utf8_lossy}
use Rattle.acct_text.specs.declared.Tab.TheVariants.{Passwd, Group, Subuid, Subgid}
use Rattle.acct_text.specs.declared.files.Files.{Files}
use Rattle.acct_text.specs.Bytes.{Bytes, newline, blank}
use Rattle.acct_text.specs.Tables.{table_name}
use Rattle.account_model.specs.declared.fate.Fate.TheVariants.{Kept, Gone, New}
use Rattle.account_model.specs.declared.records.PasswdRecord.{PasswdRecord}
use Rattle.account_model.specs.declared.records.GroupRecord.{GroupRecord}
use Rattle.account_model.specs.declared.records.SubidRecord.{SubidRecord}
use Rattle.account_model.specs.Format.{Format}
use Rattle.account_model.specs.Records.{passwd_format, group_format, subid_format}
use Rattle.account_model.specs.Text.{comma, quote, without_last}
use Rattle.account_model.specs.PlanChanges.{TableChange, change_between, changes}
use Rattle.account_model.specs.PlanDiff.{DiffLine, diff_lines}

-- ---- Values (RFC 8259, sections 5 to 7)

-- a `\` stands in front of what is escaped
abbrev pub backslash : ℕ
backslash = 92

-- a digit of a number of base 16
abbrev pub hex_digit : ℕ → ℕ
hex_digit digit = slice_index (codes "0123456789abcdef") digit

-- a byte of a text as a string holds it: control characters by their numbers, `"` and `\` behind a `\`
abbrev pub escaped : ℕ → Bytes
escaped byte =
    if nat_lt byte blank
    then codes "\\u00" ++ hex_digit (byte / 16) ∷ hex_digit (byte % 16) ∷ []
    else (if (byte == quote) || (byte == backslash) then backslash ∷ byte ∷ [] else byte ∷ [])

-- a text as a string: U+FFFD stands for each sequence of bytes that isn't UTF-8
abbrev pub json_string : Bytes → Bytes
json_string text = codes "\"" ++ flat_map escaped (utf8_lossy text) ++ codes "\""

-- the array of these values
abbrev pub json_array : List Bytes → Bytes
json_array values = codes "[" ++ join_with_byte comma values ++ codes "]"

-- ---- New records

-- the record of a line that is new; none where the line isn't, or is other text
abbrev pub new_record : {R : Type 0} → Format R → DiffLine → Option R
new_record format line = elim line.fate [
  | Kept ↦ None
  | Gone ↦ None
  | New ↦ format.read line.line.text
]

-- the records of the lines that are new in a table; none where it stays
abbrev pub new_records : {R : Type 0} → Format R → Option TableChange → List R
new_records format None = []
new_records format (Some change) =
    filter_map (new_record format) (diff_lines change.old change.new)

-- the array of these records, each as an object
abbrev pub new_array : {R : Type 0} → Format R → (R → Bytes) → Option TableChange → Bytes
new_array format object change = json_array (map object (new_records format change))

-- a user
abbrev pub user_object : PasswdRecord → Bytes
user_object user = codes "{\"name\":" ++ json_string user.name
    ++ codes ",\"uid\":" ++ decimal user.uid
    ++ codes ",\"gid\":" ++ decimal user.gid ++ codes "}"

-- a group
abbrev pub group_object : GroupRecord → Bytes
group_object group = codes "{\"name\":" ++ json_string group.name
    ++ codes ",\"gid\":" ++ decimal group.gid ++ codes "}"

-- a range of subordinate IDs
abbrev pub range_object : SubidRecord → Bytes
range_object range = codes "{\"owner\":" ++ json_string range.owner
    ++ codes ",\"start\":" ++ decimal range.first
    ++ codes ",\"count\":" ++ decimal range.count ++ codes "}"

-- ---- The object

-- a table that changes, with its sizes in bytes before and after
abbrev pub table_object : TableChange → Bytes
table_object change = codes "{\"name\":\"" ++ table_name change.table
    ++ codes "\",\"old\":" ++ decimal (length change.old)
    ++ codes ",\"new\":" ++ decimal (length change.new) ++ codes "}"

-- what a command with this status, output and message would change, on a line
abbrev pub json_told : Files → Files → ℕ → Bytes → Bytes → Bytes
json_told old new status output error =
    let change = change_between old new in
    codes "{\"status\":" ++ decimal status
    ++ codes ",\"message\":" ++ json_string (without_last newline error)
    ++ codes ",\"output\":" ++ json_string output
    ++ codes ",\"users\":" ++ new_array passwd_format user_object (change Passwd)
    ++ codes ",\"groups\":" ++ new_array group_format group_object (change Group)
    ++ codes ",\"subuids\":" ++ new_array subid_format range_object (change Subuid)
    ++ codes ",\"subgids\":" ++ new_array subid_format range_object (change Subgid)
    ++ codes ",\"tables\":" ++ json_array (map table_object (changes old new))
    ++ codes "}\n"
