-- When IDs are apart: no two users have one UID and no two groups one GID (passwd(5), group(5)), and no two ranges of
-- subordinate IDs have a number in common (subuid(5), subgid(5)).
use Rattle.std.specs.Prelude.{◌≢◌, AllPairs}
use Rattle.acct_text.specs.declared.files.Files.{Files}
use Rattle.account_model.specs.declared.records.SubidRecord.{SubidRecord}
use Rattle.account_model.specs.Records.{last_id}
use Rattle.account_model.specs.Tables.{passwd_records, group_records, subuid_records, subgid_records}
use Rattle.account_model.specs.FreeRange.{Meeting}

-- each two users have different UIDs
abbrev pub UidsAreDistinct : Files → Type 0
UidsAreDistinct files = AllPairs (λ user other. user.uid ≢ other.uid) (passwd_records files)

-- each two groups have different GIDs
abbrev pub GidsAreDistinct : Files → Type 0
GidsAreDistinct files = AllPairs (λ group other. group.gid ≢ other.gid) (group_records files)

-- two ranges have no number in common, whoever owns them
abbrev pub ShareNoNumber : SubidRecord → SubidRecord → Type 0
ShareNoNumber range other = Meeting range.first (last_id range) other → ⊥

-- each two ranges of subordinate UIDs are apart
abbrev pub SubuidsAreApart : Files → Type 0
SubuidsAreApart files = AllPairs ShareNoNumber (subuid_records files)

-- each two ranges of subordinate GIDs are apart
abbrev pub SubgidsAreApart : Files → Type 0
SubgidsAreApart files = AllPairs ShareNoNumber (subgid_records files)
