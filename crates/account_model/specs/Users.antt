-- A user or a group as the tables show it (passwd(5), shadow(5), group(5), gshadow(5)). Of a name that stands twice the
-- first record counts.
use Rattle.std.specs.Prelude.{ℕ, Bool, not, List, [], filter, Option, is_some, option_map, unwrap_or}
use Rattle.acct_text.specs.declared.files.Files.{Files}
use Rattle.account_model.specs.declared.records.PasswdRecord.{PasswdRecord}
use Rattle.account_model.specs.declared.records.ShadowRecord.{ShadowRecord}
use Rattle.account_model.specs.declared.records.GroupRecord.{GroupRecord}
use Rattle.account_model.specs.declared.records.GshadowRecord.{GshadowRecord}
use Rattle.account_model.specs.Format.{is_named, find_named}
use Rattle.account_model.specs.Records.{hash_alone, passwd_format, shadow_format, group_format, gshadow_format}
use Rattle.account_model.specs.Tables.{passwd_records, shadow_records, group_records, gshadow_records}

-- the user's record in passwd
abbrev pub find_user : List ℕ → Files → Option PasswdRecord
find_user name files = find_named passwd_format name (passwd_records files)

-- the user's record in shadow
abbrev pub find_shadow : List ℕ → Files → Option ShadowRecord
find_shadow name files = find_named shadow_format name (shadow_records files)

-- the group's record in group
abbrev pub group_named : List ℕ → Files → Option GroupRecord
group_named name files = find_named group_format name (group_records files)

-- the group's record in gshadow
abbrev pub gshadow_named : List ℕ → Files → Option GshadowRecord
gshadow_named name files = find_named gshadow_format name (gshadow_records files)

-- whether passwd has the user
abbrev pub has_user : List ℕ → Files → Bool
has_user name files = is_some (find_user name files)

-- whether shadow has the user
abbrev pub has_shadow : List ℕ → Files → Bool
has_shadow name files = is_some (find_shadow name files)

-- whether group has the group
abbrev pub has_group : List ℕ → Files → Bool
has_group name files = is_some (group_named name files)

-- whether gshadow has the group
abbrev pub has_gshadow : List ℕ → Files → Bool
has_gshadow name files = is_some (gshadow_named name files)

-- the other users: the records of passwd with another name
abbrev pub other_users : List ℕ → Files → List PasswdRecord
other_users name files =
    filter (λ user. not (is_named passwd_format name user)) (passwd_records files)

-- the user's UID
abbrev pub uid_of : List ℕ → Files → Option ℕ
uid_of name files = option_map (λ user. user.uid) (find_user name files)

-- the user's password field in passwd
abbrev pub passwd_field : List ℕ → Files → List ℕ
passwd_field name files = unwrap_or (option_map (λ user. user.password) (find_user name files)) []

-- the user's comment in passwd
abbrev pub comment_of : List ℕ → Files → List ℕ
comment_of name files = unwrap_or (option_map (λ user. user.comment) (find_user name files)) []

-- the hash that counts: that of shadow, and without a record there the password field of passwd
abbrev pub hash_of : List ℕ → Files → List ℕ
hash_of name files =
    unwrap_or (option_map (λ r. r.hash) (find_shadow name files)) (passwd_field name files)

-- the aging that counts: that of shadow, and without a record there none
abbrev pub aging_of : List ℕ → Files → ShadowRecord
aging_of name files = unwrap_or (find_shadow name files) (hash_alone name [])
