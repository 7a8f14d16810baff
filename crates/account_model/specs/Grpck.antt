-- grpck (grpck(8)): reports the problems of group and gshadow (`-r`), or sorts them (`-s`).
use Rattle.std.specs.Prelude.{map, filter, ℕ, not, ◌&&◌, if◌then◌else◌, List, [], ◌∷◌, ◌++◌, codes, is_some}
use Rattle.std.specs.List.{position_or_len}
use Rattle.acct_text.specs.declared.files.Files.{Files}
use Rattle.acct_text.specs.declared.Tab.TheVariants.{Group, Gshadow}
use Rattle.account_model.specs.declared.records.GroupRecord.{GroupRecord}
use Rattle.account_model.specs.declared.records.GshadowRecord.{GshadowRecord}
use Rattle.account_model.specs.Format.{is_named}
use Rattle.account_model.specs.Edits.{Arrange}
use Rattle.account_model.specs.Records.{group_format, gshadow_format}
use Rattle.account_model.specs.Tables.{Script, no_edits, table_after, table_records}
use Rattle.account_model.specs.Names.{is_valid_name}
use Rattle.account_model.specs.Request.{Request, has_option}
use Rattle.account_model.specs.Action.{Action, changes, reports}
use Rattle.account_model.specs.Users.{has_user, has_group, has_gshadow}
use Rattle.account_model.specs.Problems.{Problem, Located, InvalidGroupName, NoGshadowEntry, NoGroupEntry, UnknownAdministrator, UnknownMember, problem_if, duplicate_name, table_problems, problem_lines, report_status}

-- the names of a list that aren't in passwd, each in its place
abbrev pub unknown_users : Files → List (List ℕ) → List (List ℕ)
unknown_users files names = filter (λ name. not (has_user name files)) names

-- the problems of a record of group behind the earlier ones, in their order
abbrev pub group_problems : Files → List GroupRecord → GroupRecord → List Problem
group_problems files earlier group =
    duplicate_name group_format earlier group
    ++ problem_if (not (is_valid_name group.name)) (InvalidGroupName group.name)
    ++ map (UnknownMember group.name) (unknown_users files group.members)
    ++ problem_if (is_some files.gshadow && not (has_gshadow group.name files))
    (NoGshadowEntry group.name)

-- the problems of a record of gshadow behind the earlier ones, in their order
abbrev pub gshadow_problems : Files → List GshadowRecord → GshadowRecord → List Problem
gshadow_problems files earlier group =
    duplicate_name gshadow_format earlier group
    ++ problem_if (not (has_group group.name files)) (NoGroupEntry group.name)
    ++ map (UnknownAdministrator group.name) (unknown_users files group.administrators)
    ++ map (UnknownMember group.name) (unknown_users files group.members)

-- the problems of group
abbrev pub group_report : Files → List Located
group_report files = table_problems group_format (group_problems files) files.group

-- the problems of gshadow
abbrev pub gshadow_report : Files → List Located
gshadow_report files = table_problems gshadow_format (gshadow_problems files) files.gshadow

-- what `-r` reports, first of group and then of gshadow
abbrev pub grpck_report : Files → Action
grpck_report files = reports [] (report_status (group_report files ++ gshadow_report files))
    (problem_lines Group (group_report files) ++ problem_lines Gshadow (gshadow_report files))

-- group sorted by GID
abbrev pub sorted_groups : Files → List GroupRecord
sorted_groups files =
    table_records group_format
    (table_after group_format (Arrange (λ group. group.gid) ∷ []) files.group)

-- `-s` sorts group by GID, and gshadow by the place in it of the first record of the name; names that it lacks come
-- last
abbrev pub grpck_sort : Files → Script
grpck_sort files = record no_edits {
  group = Arrange (λ group. group.gid) ∷ [];
  gshadow =
      Arrange (λ r. position_or_len (is_named group_format r.name) (sorted_groups files)) ∷ [];
}

-- what grpck does, by the tables
abbrev pub grpck : Request → Files → Action
grpck request files =
    if has_option (codes "s") request then changes [] (grpck_sort files) else grpck_report files
