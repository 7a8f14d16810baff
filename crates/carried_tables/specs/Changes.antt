-- Where tables stand of which those that differ are taken out, as an absent table is never made.
use Rattle.std.specs.Prelude.{◌≡◌, Bool, false, is_some}
use Rattle.acct_text.specs.declared.Tab.{Tab}
use Rattle.acct_text.specs.declared.Tab.TheVariants.{Passwd, Shadow, Group, Gshadow, Subuid, Subgid}
use Rattle.acct_text.specs.declared.files.Files.{Files}
use Rattle.acct_text.specs.Files.{table_of}
use Rattle.carried_tables.specs.declared.touched_tables.TouchedTables.{TouchedTables}

-- each table stands in the new files where it stood in the first
abbrev pub StandWhere : Files → Files → Type 0
StandWhere first last =
    (table : Tab) → is_some (table_of last table) ≡ is_some (table_of first table)

-- whether the table may differ
abbrev pub is_touched : TouchedTables → Tab → Bool
is_touched touched Passwd = touched.passwd
is_touched touched Shadow = touched.shadow
is_touched touched Group = touched.group
is_touched touched Gshadow = touched.gshadow
is_touched touched Subuid = touched.subuid
is_touched touched Subgid = touched.subgid

-- each table that may not is the first one
abbrev pub UneditedStay : TouchedTables → Files → Files → Type 0
UneditedStay touched first last = (table : Tab) → is_touched touched table ≡ false
    → table_of last table ≡ table_of first table
