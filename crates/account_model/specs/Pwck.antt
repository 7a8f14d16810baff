-- pwck (pwck(8)): reports the problems of passwd and shadow (`-r`), or sorts them (`-s`).
use Rattle.std.specs.Prelude.{ℕ, Bool, false, not, ◌&&◌, ◌==◌, nat_lt, if◌then◌else◌, List, [], ◌∷◌, ◌++◌, bytes_eq, codes, Option, Some, None, is_some}
use Rattle.std.specs.List.{list_any, position_or_len}
use Rattle.acct_text.specs.declared.files.Files.{Files}
use Rattle.acct_text.specs.declared.Tab.TheVariants.{Passwd, Shadow}
use Rattle.account_model.specs.declared.records.PasswdRecord.{PasswdRecord}
use Rattle.account_model.specs.declared.records.ShadowRecord.{ShadowRecord}
use Rattle.account_model.specs.Format.{is_named}
use Rattle.account_model.specs.Edits.{Arrange}
use Rattle.account_model.specs.Records.{passwd_format, shadow_format}
use Rattle.account_model.specs.Tables.{Script, no_edits, table_after, table_records, group_records}
use Rattle.account_model.specs.Names.{is_valid_name}
use Rattle.account_model.specs.Request.{Request, has_option}
use Rattle.account_model.specs.Action.{Action, changes, reports}
use Rattle.account_model.specs.Hashes.{elsewhere}
use Rattle.account_model.specs.Users.{has_user, has_shadow}
use Rattle.account_model.specs.Problems.{Problem, Located, InvalidUserName, NoPrimaryGroup, NoShadowEntry, PasswordNotInShadow, NoPasswdEntry, ChangeInFuture, problem_if, duplicate_name, table_problems, problem_lines, without_notices, report_status}

-- a group has the user's primary GID
abbrev pub has_primary_group : Files → PasswdRecord → Bool
has_primary_group files user = list_any (λ group. group.gid == user.gid) (group_records files)

-- the problems of a record of passwd behind the earlier ones, in their order
abbrev pub user_problems : Files → List PasswdRecord → PasswdRecord → List Problem
user_problems files earlier user =
    duplicate_name passwd_format earlier user
    ++ problem_if (not (is_valid_name user.name)) (InvalidUserName user.name)
    ++ problem_if (not (has_primary_group files user)) (NoPrimaryGroup user.name user.gid)
    ++ problem_if (is_some files.shadow && not (has_shadow user.name files))
    (NoShadowEntry user.name)
    ++ problem_if (is_some files.shadow && not (bytes_eq user.password elsewhere))
    (PasswordNotInShadow user.name)

-- whether a day lies after today
abbrev pub is_after : ℕ → Option ℕ → Bool
is_after today None = false
is_after today (Some day) = nat_lt today day

-- the problems of a record of shadow behind the earlier ones, in their order
abbrev pub shadow_problems : Files → ℕ → List ShadowRecord → ShadowRecord → List Problem
shadow_problems files today earlier r =
    duplicate_name shadow_format earlier r
    ++ problem_if (not (has_user r.name files)) (NoPasswdEntry r.name)
    ++ problem_if (is_after today r.last_change) (ChangeInFuture r.name)

-- the problems of passwd
abbrev pub passwd_report : Files → List Located
passwd_report files = table_problems passwd_format (user_problems files) files.passwd

-- the problems of shadow
abbrev pub shadow_report : Files → ℕ → List Located
shadow_report files today = table_problems shadow_format (shadow_problems files today) files.shadow

-- what the output has of problems: `-q` leaves the notices out
abbrev pub shown_problems : Request → List Located → List Located
shown_problems request problems =
    if has_option (codes "q") request then without_notices problems else problems

-- what `-r` reports, first of passwd and then of shadow
abbrev pub pwck_report : Request → Files → ℕ → Action
pwck_report request files today =
    reports [] (report_status (passwd_report files ++ shadow_report files today))
    (problem_lines Passwd (shown_problems request (passwd_report files))
    ++ problem_lines Shadow (shown_problems request (shadow_report files today)))

-- passwd sorted by UID
abbrev pub sorted_users : Files → List PasswdRecord
sorted_users files =
    table_records passwd_format
    (table_after passwd_format (Arrange (λ user. user.uid) ∷ []) files.passwd)

-- `-s` sorts passwd by UID, and shadow by the place in it of the first record of the name; names that it lacks come
-- last
abbrev pub pwck_sort : Files → Script
pwck_sort files = record no_edits {
  passwd = Arrange (λ user. user.uid) ∷ [];
  shadow =
      Arrange (λ r. position_or_len (is_named passwd_format r.name) (sorted_users files)) ∷ [];
}

-- what pwck does, by the tables and the day
abbrev pub pwck : Request → Files → ℕ → Action
pwck request files today =
    if has_option (codes "s") request
    then changes [] (pwck_sort files)
    else pwck_report request files today
