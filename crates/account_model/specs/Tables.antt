-- The six tables of a folder (passwd(5), shadow(5), group(5), gshadow(5), subuid(5), subgid(5)), and what a command does
-- to them.
use Rattle.std.specs.Prelude.{◌++◌, ℕ, List, [], ◌∷◌, Option, Some, None, option_map}
use Rattle.acct_text.specs.declared.files.Files.{Files}
use Rattle.account_model.specs.declared.records.PasswdRecord.{PasswdRecord}
use Rattle.account_model.specs.declared.records.ShadowRecord.{ShadowRecord}
use Rattle.account_model.specs.declared.records.GroupRecord.{GroupRecord}
use Rattle.account_model.specs.declared.records.GshadowRecord.{GshadowRecord}
use Rattle.account_model.specs.declared.records.SubidRecord.{SubidRecord}
use Rattle.acct_text.specs.Lines.{Line, lines_of, file_bytes}
use Rattle.account_model.specs.Format.{Format, records_of}
use Rattle.account_model.specs.Edits.{Edit, edited_by}
use Rattle.account_model.specs.Records.{passwd_format, shadow_format, group_format, gshadow_format, subid_format}

-- the lines of a table's file; an absent one has none
abbrev pub table_lines : Option (List ℕ) → List Line
table_lines None = []
table_lines (Some bytes) = lines_of bytes

-- the records of a table, in the order of its lines; an absent one has none
abbrev pub table_records : {R : Type 0} → Format R → Option (List ℕ) → List R
table_records format None = []
table_records format (Some bytes) = records_of format (lines_of bytes)

-- the users
abbrev pub passwd_records : Files → List PasswdRecord
passwd_records files = table_records passwd_format files.passwd

-- their hashes and aging
abbrev pub shadow_records : Files → List ShadowRecord
shadow_records files = table_records shadow_format files.shadow

-- the groups
abbrev pub group_records : Files → List GroupRecord
group_records files = table_records group_format files.group

-- their hashes, administrators and members
abbrev pub gshadow_records : Files → List GshadowRecord
gshadow_records files = table_records gshadow_format files.gshadow

-- the ranges of subordinate UIDs
abbrev pub subuid_records : Files → List SubidRecord
subuid_records files = table_records subid_format files.subuid

-- the ranges of subordinate GIDs
abbrev pub subgid_records : Files → List SubidRecord
subgid_records files = table_records subid_format files.subgid

-- The edits of a command, table by table. An edit of an absent table does nothing.
pub record Script : Type 0 where
  pub passwd : List (Edit PasswdRecord)
  pub shadow : List (Edit ShadowRecord)
  pub group : List (Edit GroupRecord)
  pub gshadow : List (Edit GshadowRecord)
  pub subuid : List (Edit SubidRecord)
  pub subgid : List (Edit SubidRecord)

-- nothing is done
abbrev pub no_edits : Script
no_edits = record { passwd = []; shadow = []; group = []; gshadow = []; subuid = []; subgid = [] }

-- the bytes of a table after its edits; an absent one stays absent
abbrev pub table_after : {R : Type 0} → Format R → List (Edit R) → Option (List ℕ) → Option (List ℕ)
table_after format edits bytes =
    option_map (λ b. file_bytes (edited_by format edits (lines_of b))) bytes

-- the tables after a command's edits
abbrev pub files_after : Script → Files → Files
files_after script files = record {
  passwd = table_after passwd_format script.passwd files.passwd;
  shadow = table_after shadow_format script.shadow files.shadow;
  group = table_after group_format script.group files.group;
  gshadow = table_after gshadow_format script.gshadow files.gshadow;
  subuid = table_after subid_format script.subuid files.subuid;
  subgid = table_after subid_format script.subgid files.subgid;
}

-- the edits of both, those of the first before those of the second
abbrev pub followed_by : Script → Script → Script
followed_by first second = record {
  passwd = first.passwd ++ second.passwd;
  shadow = first.shadow ++ second.shadow;
  group = first.group ++ second.group;
  gshadow = first.gshadow ++ second.gshadow;
  subuid = first.subuid ++ second.subuid;
  subgid = first.subgid ++ second.subgid;
}

-- the edits of all, in their order
abbrev pub in_order : List Script → Script
in_order [] = no_edits
in_order (script ∷ rest) = followed_by script (in_order rest)
