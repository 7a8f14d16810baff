-- What several tools print reads back: edits of two tables, lines with another password field, and those on demand.
use Rattle.std.proofs.Common.{ℕ, List, []}
use Rattle.std.specs.List.{AllByRecursion}
use Rattle.account_model.specs.declared.records.PasswdRecord.{PasswdRecord}
use Rattle.account_model.specs.declared.records.ShadowRecord.{ShadowRecord}
use Rattle.account_model.specs.declared.records.GroupRecord.{GroupRecord}
use Rattle.account_model.specs.declared.records.GshadowRecord.{GshadowRecord}
use Rattle.account_model.specs.Format.{is_named}
use Rattle.account_model.specs.Edits.{Edit}
use Rattle.account_model.specs.Records.{passwd_format, shadow_format, group_format, gshadow_format, hash_alone}
use Rattle.account_model.specs.RecordEdits.{IsWrittenEdit}
use Rattle.account_model.specs.Written.{IsField, IsPasswd, IsShadow, IsGroup}
use Rattle.account_model.specs.Tables.{no_edits}
use Rattle.account_model.specs.WrittenScript.{IsWrittenScript}
use Rattle.account_model.specs.Hashes.{elsewhere, locked, make_shadow, gshadow_of, make_gshadow}
use Rattle.account_model.proofs.HeldLaws.{passwd-holds, shadow-holds, group-holds, gshadow-holds, each_where-written}

-- ---- Scripts of two tables or four

-- edits of users and of groups alone
accounts-written :
    (passwd : List (Edit PasswdRecord)) (shadow : List (Edit ShadowRecord))
    (group : List (Edit GroupRecord)) (gshadow : List (Edit GshadowRecord))
    → AllByRecursion (IsWrittenEdit passwd_format) passwd
    → AllByRecursion (IsWrittenEdit shadow_format) shadow
    → AllByRecursion (IsWrittenEdit group_format) group
    → AllByRecursion (IsWrittenEdit gshadow_format) gshadow
    → IsWrittenScript (record no_edits {
      passwd = passwd;
      shadow = shadow;
      group = group;
      gshadow = gshadow;
    })
accounts-written passwd shadow group gshadow is_passwd is_shadow is_group is_gshadow = record {
  passwd = is_passwd;
  shadow = is_shadow;
  group = is_group;
  gshadow = is_gshadow;
  subuid = tt;
  subgid = tt;
}

-- edits of group and gshadow alone
pub groups-written :
    (group : List (Edit GroupRecord)) (gshadow : List (Edit GshadowRecord))
    → AllByRecursion (IsWrittenEdit group_format) group
    → AllByRecursion (IsWrittenEdit gshadow_format) gshadow
    → IsWrittenScript (record no_edits { group = group; gshadow = gshadow })
groups-written group gshadow = accounts-written [] [] group gshadow tt tt

-- edits of passwd and shadow alone
pub users-written :
    (passwd : List (Edit PasswdRecord)) (shadow : List (Edit ShadowRecord))
    → AllByRecursion (IsWrittenEdit passwd_format) passwd
    → AllByRecursion (IsWrittenEdit shadow_format) shadow
    → IsWrittenScript (record no_edits { passwd = passwd; shadow = shadow })
users-written passwd shadow is_passwd is_shadow =
    accounts-written passwd shadow [] [] is_passwd is_shadow tt tt

-- ---- The hashes of users

-- `x` can stand in a field
pub elsewhere-field : IsField elsewhere
elsewhere-field = record { no_colon = ((λ e. cc), tt); no_newline = ((λ e. cc), tt) }

-- and so can `!`
pub locked-field : IsField locked
locked-field = record { no_colon = ((λ e. cc), tt); no_newline = ((λ e. cc), tt) }

-- a line of passwd with another password field, which can stand in it
pub password-held :
    (password : List ℕ) (r : PasswdRecord)
    → (IsField r.password → IsField password)
    → IsPasswd r
    → IsPasswd (record r { password = password })
password-held password r keeps is = record {
  name = is.name;
  password = keeps is.password;
  uid = is.uid;
  gid = is.gid;
  comment = is.comment;
  home = is.home;
  shell = is.shell;
}

-- a name and a hash alone
pub hash-alone-held :
    (user : PasswdRecord)
    → IsPasswd user
    → IsShadow (hash_alone user.name user.password)
hash-alone-held user is = record {
  name = is.name;
  hash = is.password;
  last_change = tt;
  minimum = tt;
  maximum = tt;
  warning = tt;
  inactive = tt;
  expiration = tt;
  rest = record { no_colon = tt; no_newline = tt };
}

-- the line of shadow that is made
pub make-shadow-written : (user : PasswdRecord) → IsPasswd user → IsWrittenScript (make_shadow user)
make-shadow-written user is = users-written _ _ (
  each_where-written passwd_format IsPasswd passwd-holds (is_named passwd_format user.name)
      (λ r. record r { password = elsewhere })
      (λ r. password-held elsewhere r (λ old. elsewhere-field)),
  tt,
)
    (shadow-holds.written (hash_alone user.name user.password) (hash-alone-held user is), tt)

-- ---- The hashes of groups

-- a line of group with another password field
pub group-password-held :
    (password : List ℕ) (r : GroupRecord)
    → IsField password
    → IsGroup r
    → IsGroup (record r { password = password })
group-password-held password r is held =
    record { name = held.name; password = is; gid = held.gid; members = held.members }

-- the line of gshadow that is made
pub make-gshadow-written : (group : GroupRecord) → IsGroup group → IsWrittenScript (make_gshadow group)
make-gshadow-written group is = groups-written _ _ (
  each_where-written group_format IsGroup group-holds (is_named group_format group.name)
      (λ r. record r { password = elsewhere })
      (λ r. group-password-held elsewhere r elsewhere-field),
  tt,
) (
  gshadow-holds.written (gshadow_of group)
      (record {
        name = is.name;
        password = is.password;
        administrators = tt;
        members = is.members;
      }),
  tt,
)
