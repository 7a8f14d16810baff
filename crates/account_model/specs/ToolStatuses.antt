-- The statuses that go by the tool, by the "EXIT VALUES" of useradd(8), usermod(8), userdel(8),
-- chfn(1), chsh(1), groupadd(8), groupmod(8), groupdel(8), gpasswd(1), chage(1), passwd(1),
-- pwconv(8), pwck(8) and grpck(8). Where the pages of a tool differ between versions or name no
-- number, the number is this profile's own.
use Rattle.std.specs.Prelude.{ℕ}
use Rattle.account_model.specs.declared.tool_statuses.ToolStatuses.{ToolStatuses}

-- ---- The numbers

-- the command can't be done, for no reason that has a number of its own
abbrev pub general_failure : ℕ
general_failure = 1

-- what the command asks for makes no sense: its words, and for chage a value
abbrev pub bad_usage : ℕ
bad_usage = 2

-- a value or a name that can't be used
abbrev pub bad_argument : ℕ
bad_argument = 3

-- pwck and grpck can't use a file
abbrev pub unusable_file : ℕ
unusable_file = 3

-- pwck and grpck don't get the lock
abbrev pub unlocked_files : ℕ
unlocked_files = 4

-- pwck and grpck can't change the tables
abbrev pub unchanged_files : ℕ
unchanged_files = 5

-- the UID or the GID is in use, or none is free
abbrev pub used_id : ℕ
used_id = 4

-- passwd doesn't get the lock
abbrev pub busy_file : ℕ
busy_file = 5

-- passwd can't use a value
abbrev pub invalid_argument : ℕ
invalid_argument = 6

-- the user or the group doesn't exist
abbrev pub unknown_account : ℕ
unknown_account = 6

-- the group is a user's primary group
abbrev pub primary_of_user : ℕ
primary_of_user = 8

-- the name is in use
abbrev pub used_name : ℕ
used_name = 9

-- the group files can't be changed
abbrev pub group_failure : ℕ
group_failure = 10

-- shadow is wanted and absent
abbrev pub absent_shadow : ℕ
absent_shadow = 15

-- ---- The statuses of each tool

-- those of a tool that has none of its own
abbrev pub common_statuses : ToolStatuses
common_statuses = record {
  syntax = bad_usage;
  lock = general_failure;
  update = general_failure;
  file = general_failure;
  multiple_groups = general_failure;
  multiple = general_failure;
  bad_value = bad_argument;
  no_user = unknown_account;
  no_group = unknown_account;
  no_shadow = bad_usage;
}

-- useradd(8), usermod(8), userdel(8)
abbrev pub user_statuses : ToolStatuses
user_statuses = record common_statuses { multiple_groups = group_failure }

-- chfn(1), chsh(1)
abbrev pub chfn_statuses : ToolStatuses
chfn_statuses = record common_statuses {
  bad_value = general_failure;
  no_user = general_failure;
}

-- groupadd(8), groupmod(8), groupdel(8)
abbrev pub group_statuses : ToolStatuses
group_statuses = record common_statuses {
  lock = group_failure;
  update = group_failure;
  file = group_failure;
  multiple_groups = group_failure;
  multiple = group_failure;
}

-- gpasswd(1), groupmems(8)
abbrev pub gpasswd_statuses : ToolStatuses
gpasswd_statuses = record common_statuses { no_user = bad_argument; no_group = bad_argument }

-- chage(1)
abbrev pub chage_statuses : ToolStatuses
chage_statuses = record common_statuses {
  bad_value = bad_usage;
  no_user = general_failure;
  no_shadow = absent_shadow;
}

-- passwd(1)
abbrev pub passwd_statuses : ToolStatuses
passwd_statuses = record common_statuses {
  lock = busy_file;
  bad_value = invalid_argument;
  no_user = general_failure;
  no_shadow = general_failure;
}

-- pwconv(8), pwunconv(8), grpconv(8), grpunconv(8)
abbrev pub conversion_statuses : ToolStatuses
conversion_statuses = record common_statuses { no_shadow = general_failure }

-- getsubids(1)
abbrev pub getsubids_statuses : ToolStatuses
getsubids_statuses = record common_statuses { syntax = general_failure }

-- pwck(8), grpck(8)
abbrev pub check_statuses : ToolStatuses
check_statuses = record common_statuses {
  syntax = general_failure;
  lock = unlocked_files;
  update = unchanged_files;
  file = unusable_file;
}
