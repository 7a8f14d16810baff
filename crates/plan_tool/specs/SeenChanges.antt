-- The files and changes of a plan as account_model has them.
use Rattle.std.specs.Prelude.{◌++◌, codes, List, find, Option, option_map}
use Rattle.std.specs.Option.{option_or}
use Rattle.acct_text.specs.declared.Tab.{Tab}
use Rattle.acct_text.specs.declared.Tab.TheVariants.{Passwd, Shadow, Group, Gshadow, Subuid, Subgid}
use Rattle.acct_text.specs.declared.files.Files.{Files}
use Rattle.acct_text.specs.declared.new_tables.NewTable.{NewTable}
use Rattle.acct_text.specs.Bytes.{Bytes}
use Rattle.acct_text.specs.Tables.{same_table}
use Rattle.account_model.specs.Records.{passwd_format, group_format, subid_format}
use Rattle.account_model.specs.PlanChanges.{TableChange, change_between, changes}
use Rattle.account_model.specs.PlanJson.{group_object, new_array, range_object, user_object}
use Rattle.plan_tool.specs.declared.changes.TableChange.{TableChange as SomeChange}
use Rattle.plan_tool.specs.declared.changes.PlannedFiles.{PlannedFiles}

-- the bytes that a table gets of these; none where it gets no others
abbrev pub new_bytes : List NewTable → Tab → Option Bytes
new_bytes news table = option_map (λ new. new.bytes) (find (λ new. same_table new.table table) news)

-- the files with these tables in place of their own
abbrev pub files_with : List NewTable → Files → Files
files_with news files = record {
  passwd = option_or (new_bytes news Passwd) files.passwd;
  shadow = option_or (new_bytes news Shadow) files.shadow;
  group = option_or (new_bytes news Group) files.group;
  gshadow = option_or (new_bytes news Gshadow) files.gshadow;
  subuid = option_or (new_bytes news Subuid) files.subuid;
  subgid = option_or (new_bytes news Subgid) files.subgid;
}

-- the change of a table
abbrev pub seen_change : SomeChange → TableChange
seen_change change = record {
  table = change.table;
  old = change.old.now;
  new = change.new.now;
}

-- the files that a plan's command would leave
abbrev pub files_then : PlannedFiles → Files
files_then planned = files_with planned.news.now planned.files.now

-- the change of a table in the files of a plan
abbrev pub change_told : PlannedFiles → Tab → Option TableChange
change_told planned table = change_between planned.files.now (files_then planned) table

-- the changes of all tables
abbrev pub changes_told : PlannedFiles → List TableChange
changes_told planned = changes planned.files.now (files_then planned)

-- the object so far with the new records behind it, by the change of each table
abbrev pub with_new : Bytes → (Tab → Option TableChange) → Bytes
with_new text change = text
    ++ codes ",\"users\":" ++ new_array passwd_format user_object (change Passwd)
    ++ codes ",\"groups\":" ++ new_array group_format group_object (change Group)
    ++ codes ",\"subuids\":" ++ new_array subid_format range_object (change Subuid)
    ++ codes ",\"subgids\":" ++ new_array subid_format range_object (change Subgid)
