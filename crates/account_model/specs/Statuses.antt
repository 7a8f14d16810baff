-- The statuses of refusals and of what a command meets outside the tables, by the "EXIT VALUES" of
-- useradd(8), usermod(8), userdel(8), groupadd(8), groupmod(8), groupdel(8), gpasswd(1), chage(1),
-- pwck(8) and grpck(8). Where the pages of a tool differ between versions or name no number, the
-- number is this profile's own.
use Rattle.std.specs.Prelude.{ℕ}
use Rattle.account_model.specs.declared.tool.Tool.{Tool}
use Rattle.acct_text.specs.declared.Tab.{Tab}
use Rattle.acct_text.specs.declared.Tab.TheVariants.{Group, Gshadow}
use Rattle.account_model.specs.Rows.{row_of}
use Rattle.account_model.specs.declared.tool_statuses.ToolStatuses.{ToolStatuses}
use Rattle.account_model.specs.ToolStatuses.{bad_argument, general_failure, primary_of_user, used_id, used_name}
use Rattle.account_model.specs.declared.refusal.Refusal.{Refusal}
use Rattle.account_model.specs.declared.refusal.Refusal.TheVariants.{BadName, BadKey, BadValue, UserExists, GroupExists, NoUser, NoGroup, UidInUse, GidInUse, NoFreeUid, NoFreeGid, NoGap, Meets, EmptyHash, PrimaryGroup, NotMember, NoShadow, NoGshadow, BadLine, NoRanges, Multiple}

-- ---- The numbers

-- no memory was found; this one and the next three are this profile's own, and those of every tool
abbrev pub memory_status : ℕ
memory_status = 100

-- the input can't be read
abbrev pub input_fault_status : ℕ
input_fault_status = 101

-- the output or the message can't be written; no text says so
abbrev pub output_fault_status : ℕ
output_fault_status = 102

-- the clock gives no day
abbrev pub clock_fault_status : ℕ
clock_fault_status = 103

-- ---- The statuses of each tool

-- a lock that isn't got
abbrev pub lock_status : Tool → ℕ
lock_status tool = (row_of tool).statuses.lock

-- a folder that can't be changed
abbrev pub update_status : Tool → ℕ
update_status tool = (row_of tool).statuses.update

-- a table, login.defs or a setting that can't be used
abbrev pub file_status : Tool → ℕ
file_status tool = (row_of tool).statuses.file

-- multiple entries, in group or gshadow, and in another table
abbrev pub multiple_status : ToolStatuses → Tab → ℕ
multiple_status statuses Group = statuses.multiple_groups
multiple_status statuses Gshadow = statuses.multiple_groups
multiple_status statuses tab = statuses.multiple

-- the status of a refusal
abbrev pub refusal_status : Tool → Refusal → ℕ
refusal_status tool (BadName name) = bad_argument
refusal_status tool (BadKey word) = bad_argument
refusal_status tool (BadValue letter value) = (row_of tool).statuses.bad_value
refusal_status tool (UserExists name) = used_name
refusal_status tool (GroupExists name) = used_name
refusal_status tool (NoUser name) = (row_of tool).statuses.no_user
refusal_status tool (NoGroup word) = (row_of tool).statuses.no_group
refusal_status tool (UidInUse uid) = used_id
refusal_status tool (GidInUse gid) = used_id
refusal_status tool NoFreeUid = used_id
refusal_status tool NoFreeGid = used_id
refusal_status tool (NoGap tab) = general_failure
refusal_status tool (Meets first last tab line) = bad_argument
refusal_status tool (EmptyHash name) = bad_argument
refusal_status tool (PrimaryGroup group user) = primary_of_user
refusal_status tool (NotMember user group) = bad_argument
refusal_status tool NoShadow = (row_of tool).statuses.no_shadow
refusal_status tool NoGshadow = general_failure
refusal_status tool (BadLine line problem) = general_failure
refusal_status tool (NoRanges name) = general_failure
refusal_status tool (Multiple tab name) = multiple_status (row_of tool).statuses tab
