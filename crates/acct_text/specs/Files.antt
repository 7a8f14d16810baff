-- The files of the six tables as a record, and as a function of the table.
use Rattle.std.specs.Prelude.{Option, None}
use Rattle.acct_text.specs.declared.Tab.{Tab}
use Rattle.acct_text.specs.declared.Tab.TheVariants.{Passwd, Shadow, Group, Gshadow, Subuid, Subgid}
use Rattle.acct_text.specs.declared.files.Files.{Files}
use Rattle.acct_text.specs.Bytes.{Bytes}
use Rattle.acct_text.specs.Contents.{Contents}

-- the bytes of a table's file, and none where it is absent
abbrev pub table_of : Files → Contents
table_of files Passwd = files.passwd
table_of files Shadow = files.shadow
table_of files Group = files.group
table_of files Gshadow = files.gshadow
table_of files Subuid = files.subuid
table_of files Subgid = files.subgid

-- each file is absent
abbrev pub no_files : Files
no_files = record {
  passwd = None;
  shadow = None;
  group = None;
  gshadow = None;
  subuid = None;
  subgid = None;
}

-- the files with this for one table
abbrev pub with_table : Tab → Option Bytes → Files → Files
with_table Passwd content files = record files { passwd = content }
with_table Shadow content files = record files { shadow = content }
with_table Group content files = record files { group = content }
with_table Gshadow content files = record files { gshadow = content }
with_table Subuid content files = record files { subuid = content }
with_table Subgid content files = record files { subgid = content }
