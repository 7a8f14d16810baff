-- How many users, groups and ranges have an ID (passwd(5), group(5), subuid(5), subgid(5)), and which commands may
-- give one to more of them on purpose.
use Rattle.std.specs.Prelude.{ℕ, Bool, true, false, ◌&&◌, ◌==◌, nat_le, count_by, codes, Option, Some, None}
use Rattle.acct_text.specs.declared.files.Files.{Files}
use Rattle.account_model.specs.declared.records.SubidRecord.{SubidRecord}
use Rattle.account_model.specs.declared.tool.Tool.{Tool}
use Rattle.account_model.specs.declared.tool.Tool.TheVariants.{Useradd, Usermod, Groupadd, Groupmod}
use Rattle.account_model.specs.Records.{last_id}
use Rattle.account_model.specs.Tables.{passwd_records, group_records, subuid_records, subgid_records}
use Rattle.account_model.specs.Request.{Request, has_option}
use Rattle.account_model.specs.Values.{given_uid, given_gid}

-- how many users have the UID
abbrev pub uid_holders : ℕ → Files → ℕ
uid_holders uid files = count_by (λ user. user.uid == uid) (passwd_records files)

-- how many groups have the GID
abbrev pub gid_holders : ℕ → Files → ℕ
gid_holders gid files = count_by (λ group. group.gid == gid) (group_records files)

-- whether the range has the number
abbrev pub range_has : ℕ → SubidRecord → Bool
range_has number r = nat_le r.first number && nat_le number (last_id r)

-- how many ranges of subordinate UIDs have the number
abbrev pub subuid_holders : ℕ → Files → ℕ
subuid_holders number files = count_by (range_has number) (subuid_records files)

-- how many ranges of subordinate GIDs have the number
abbrev pub subgid_holders : ℕ → Files → ℕ
subgid_holders number files = count_by (range_has number) (subgid_records files)

-- whether the value that is given is this ID
abbrev pub gives_id : ℕ → Option ℕ → Bool
gives_id id None = false
gives_id id (Some given) = given == id

-- the tools that may give a user a UID that is in use (useradd(8), usermod(8), `-o`)
abbrev pub gives_uids : Tool → Bool
gives_uids Useradd = true
gives_uids Usermod = true
gives_uids tool = false

-- the tools that may give a group a GID that is in use (groupadd(8), groupmod(8), `-o`)
abbrev pub gives_gids : Tool → Bool
gives_gids Groupadd = true
gives_gids Groupmod = true
gives_gids tool = false

-- the tool is asked for the UID with `-o`
abbrev pub shares_uid_by : Tool → ℕ → Request → Bool
shares_uid_by tool uid request =
    gives_uids tool && (has_option (codes "o") request && gives_id uid (given_uid request))

-- the tool is asked for the GID with `-o`
abbrev pub shares_gid_by : Tool → ℕ → Request → Bool
shares_gid_by tool gid request =
    gives_gids tool && (has_option (codes "o") request && gives_id gid (given_gid request))

-- the command asks for the UID with `-o`
abbrev pub shares_uid : ℕ → Request → Bool
shares_uid uid request = shares_uid_by request.tool uid request

-- the command asks for the GID with `-o`
abbrev pub shares_gid : ℕ → Request → Bool
shares_gid gid request = shares_gid_by request.tool gid request
