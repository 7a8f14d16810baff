-- Scripts that keep each UID and each GID, and leave all ranges (`IsQuiet`): those of hashes, members and lines on demand,
-- and scripts made of such ones (`quiet-composed`).
use Rattle.std.proofs.Common.{◌≡◌, ℕ, List, [], ◌++◌, refl, sym, ◌∙◌, ap, subst}
use Rattle.std.specs.Prelude.{is_some}
use Rattle.std.specs.List.{AllByRecursion}
use Rattle.acct_text.specs.declared.files.Files.{Files}
use Rattle.account_model.specs.declared.records.PasswdRecord.{PasswdRecord}
use Rattle.account_model.specs.declared.records.GroupRecord.{GroupRecord}
use Rattle.account_model.specs.declared.records.SubidRecord.{SubidRecord}
use Rattle.account_model.specs.Format.{is_named}
use Rattle.account_model.specs.Edits.{Edit}
use Rattle.account_model.specs.Records.{passwd_format, group_format, subid_format}
use Rattle.account_model.specs.Tables.{Script, no_edits}
use Rattle.account_model.specs.Members.{with_name, each_members, add_to_group}
use Rattle.account_model.specs.Hashes.{elsewhere, lacks_shadow, make_shadow, demand_shadow, each_password, each_user_hash, lacks_gshadow, make_gshadow, demand_gshadow, set_password, write_group_hash, set_group_hash}
use Rattle.account_model.specs.Users.{find_user, group_named}
use Rattle.account_model.proofs.ComposedScripts.{IsComposed, either-holds, some-holds}
use Rattle.account_model.proofs.ListLaws.{all-append}
use Rattle.ids_apart.specs.Holders.{range_has}
use Rattle.ids_apart.proofs.HolderEdits.{AddsNone}
use Rattle.ids_apart.proofs.Keys.{KeepsKeys, where-keys}
use Rattle.ids_apart.proofs.Kept.{uid_key, gid_key}

-- no edit of subuid and subgid
pub record LeavesRanges (script : Script) : Type 0 where
  pub subuid : script.subuid ≡ []
  pub subgid : script.subgid ≡ []

-- no edit of them, and each edit of passwd and group keeps names and IDs
pub record IsQuiet (script : Script) : Type 0 where
  pub passwd : AllByRecursion (KeepsKeys passwd_format uid_key) script.passwd
  pub group : AllByRecursion (KeepsKeys group_format gid_key) script.group
  pub ranges : LeavesRanges script

-- ---- Scripts together

-- two lists that are empty
both-empty : {X : Type 0} (a b : List X) → a ≡ [] → b ≡ [] → a ++ b ≡ []
both-empty a b no_a no_b = ap (λ front. front ++ b) no_a ∙ no_b

-- no edit leaves the ranges, and so do two scripts
pub leaves-composed : IsComposed LeavesRanges
leaves-composed = record {
  none = record { subuid = refl; subgid = refl };
  both = λ first second one other. record {
    subuid = both-empty first.subuid second.subuid one.subuid other.subuid;
    subgid = both-empty first.subgid second.subgid one.subgid other.subgid;
  };
}

-- no edits are quiet, and so are two scripts
pub quiet-composed : IsComposed IsQuiet
quiet-composed = record {
  none = record { passwd = tt; group = tt; ranges = leaves-composed.none };
  both = λ first second one other. record {
    passwd = all-append _ first.passwd second.passwd one.passwd other.passwd;
    group = all-append _ first.group second.group one.group other.group;
    ranges = leaves-composed.both first second one.ranges other.ranges;
  };
}

-- no edits of ranges
pub leaves-none :
    (edits : List (Edit SubidRecord))
    → edits ≡ []
    → (number : ℕ)
    → AllByRecursion (AddsNone subid_format (range_has number)) edits
leaves-none edits none number =
    subst (AllByRecursion (AddsNone subid_format (range_has number))) (sym none) tt

-- ---- Members

-- the members of a group become others
pub members-quiet :
    (group : List ℕ) (f : List (List ℕ) → List (List ℕ)) → IsQuiet (each_members group f)
members-quiet group f = record {
  passwd = tt;
  group = (
    where-keys group_format gid_key (is_named group_format group)
        (λ r. record r { members = f r.members }) (λ r. refl) (λ r. refl),
    tt,
  );
  ranges = record { subuid = refl; subgid = refl };
}

-- a user joins a group
pub add-to-group-quiet : (group user : List ℕ) → IsQuiet (add_to_group group user)
add-to-group-quiet group user = members-quiet group (with_name user)

-- ---- The hashes of users

-- a password field that becomes another
password-keys :
    (name : List ℕ) (f : List ℕ → List ℕ) → KeepsKeys passwd_format uid_key (each_password name f)
password-keys name f = where-keys passwd_format uid_key (is_named passwd_format name)
    (λ r. record r { password = f r.password }) (λ r. refl) (λ r. refl)

-- the line of shadow that is made
make-shadow-quiet : (user : PasswdRecord) → IsQuiet (make_shadow user)
make-shadow-quiet user = record {
  passwd = (password-keys user.name (λ hash. elsewhere), tt);
  group = tt;
  ranges = record { subuid = refl; subgid = refl };
}

-- the line of shadow on demand
pub demand-shadow-quiet : (name : List ℕ) (files : Files) → IsQuiet (demand_shadow name files)
demand-shadow-quiet name files = either-holds quiet-composed (lacks_shadow name files) _ no_edits
    (some-holds quiet-composed make_shadow (find_user name files)
    (λ user found. make-shadow-quiet user)) quiet-composed.none

-- the hash of a user
pub user-hash-quiet :
    (name : List ℕ) (f : List ℕ → List ℕ) (files : Files) → IsQuiet (each_user_hash name f files)
user-hash-quiet name f files = either-holds quiet-composed (is_some files.shadow) _ _
    (record { passwd = tt; group = tt; ranges = record { subuid = refl; subgid = refl } })
    (record {
      passwd = (password-keys name f, tt);
      group = tt;
      ranges = record { subuid = refl; subgid = refl };
    })

-- ---- The hashes of groups

-- a password field of group that becomes another
group-password-keys :
    (name password : List ℕ) → KeepsKeys group_format gid_key (set_password name password)
group-password-keys name password = where-keys group_format gid_key (is_named group_format name)
    (λ r. record r { password = password }) (λ r. refl) (λ r. refl)

-- the line of gshadow that is made
make-gshadow-quiet : (group : GroupRecord) → IsQuiet (make_gshadow group)
make-gshadow-quiet group = record {
  passwd = tt;
  group = (group-password-keys group.name elsewhere, tt);
  ranges = record { subuid = refl; subgid = refl };
}

-- the line of gshadow on demand
demand-gshadow-quiet : (name : List ℕ) (files : Files) → IsQuiet (demand_gshadow name files)
demand-gshadow-quiet name files = either-holds quiet-composed (lacks_gshadow name files) _ no_edits
    (some-holds quiet-composed make_gshadow (group_named name files)
    (λ group found. make-gshadow-quiet group)) quiet-composed.none

-- the hash of a group
pub group-hash-quiet :
    (name hash : List ℕ) (files : Files) → IsQuiet (set_group_hash name hash files)
group-hash-quiet name hash files =
    quiet-composed.both (demand_gshadow name files) (write_group_hash name hash files)
    (demand-gshadow-quiet name files)
    (either-holds quiet-composed (is_some files.gshadow) _ _
    (record { passwd = tt; group = tt; ranges = record { subuid = refl; subgid = refl } })
    (record {
      passwd = tt;
      group = (group-password-keys name hash, tt);
      ranges = record { subuid = refl; subgid = refl };
    }))
