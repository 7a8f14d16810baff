-- The files of which one sees some tables alone: what the others hold counts for nothing.
use Rattle.std.specs.Prelude.{Bool, if◌then◌else◌, List, [], Option, Some}
use Rattle.std.specs.List.{list_any}
use Rattle.acct_text.specs.declared.Tab.{Tab}
use Rattle.acct_text.specs.declared.Tab.TheVariants.{Passwd, Shadow, Group, Gshadow, Subuid, Subgid}
use Rattle.acct_text.specs.declared.files.Files.{Files}
use Rattle.acct_text.specs.Bytes.{Bytes}
use Rattle.acct_text.specs.Tables.{same_table}

-- the table is one of these
abbrev pub is_among : List Tab → Tab → Bool
is_among tables table = list_any (λ other. same_table other table) tables

-- what is seen of a table, through these: one that isn't among them is empty
abbrev pub seen_of : List Tab → Tab → Option Bytes → Option Bytes
seen_of tables table content = if is_among tables table then content else Some []

-- the files as they are seen through these tables
abbrev pub seen_through : List Tab → Files → Files
seen_through tables files = record {
  passwd = seen_of tables Passwd files.passwd;
  shadow = seen_of tables Shadow files.shadow;
  group = seen_of tables Group files.group;
  gshadow = seen_of tables Gshadow files.gshadow;
  subuid = seen_of tables Subuid files.subuid;
  subgid = seen_of tables Subgid files.subgid;
}
