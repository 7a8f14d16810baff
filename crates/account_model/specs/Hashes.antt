-- Where a hash stands: that of a user in shadow where shadow exists, and else in passwd (passwd(5), shadow(5)); that of
-- a group in gshadow where gshadow exists, and else in group (group(5), gshadow(5)). A record that is wanted there and
-- isn't is made on demand.
use Rattle.std.specs.Prelude.{ℕ, Bool, ◌&&◌, not, List, [], ◌∷◌, codes, is_some, Some, None, if◌then◌else◌}
use Rattle.acct_text.specs.declared.files.Files.{Files}
use Rattle.account_model.specs.declared.records.PasswdRecord.{PasswdRecord}
use Rattle.account_model.specs.declared.records.GroupRecord.{GroupRecord}
use Rattle.account_model.specs.declared.records.GshadowRecord.{GshadowRecord}
use Rattle.account_model.specs.Format.{is_named}
use Rattle.account_model.specs.Edits.{Edit, each_where}
use Rattle.account_model.specs.Edits.Edit.{AddMissing}
use Rattle.account_model.specs.Records.{hash_alone, passwd_format, shadow_format, group_format, gshadow_format}
use Rattle.account_model.specs.Tables.{Script, no_edits, followed_by}
use Rattle.account_model.specs.Users.{has_shadow, has_gshadow, find_user, group_named}

-- what stands in the password field where the hash stands in the other table
abbrev pub elsewhere : List ℕ
elsewhere = codes "x"

-- what stands in place of the hash of an account that has no password
abbrev pub locked : List ℕ
locked = codes "!"

-- ---- Users

-- the password field of the user becomes what f gives
abbrev pub each_password : List ℕ → (List ℕ → List ℕ) → Edit PasswdRecord
each_password name f =
    each_where (is_named passwd_format name) (λ r. record r { password = f r.password })

-- shadow exists without a record of the user
abbrev pub lacks_shadow : List ℕ → Files → Bool
lacks_shadow name files = is_some files.shadow && not (has_shadow name files)

-- the record of shadow is appended, with the passwd field as hash and all else empty, and the passwd field becomes `x`
abbrev pub make_shadow : PasswdRecord → Script
make_shadow user = record no_edits {
  passwd = each_password user.name (λ hash. elsewhere) ∷ [];
  shadow = AddMissing (hash_alone user.name user.password) ∷ [];
}

-- Shadow line on demand: where shadow lacks the user, its record is made.
abbrev pub demand_shadow : List ℕ → Files → Script
demand_shadow name files = if lacks_shadow name files
    then elim (find_user name files) [ None ↦ no_edits | Some user ↦ make_shadow user ]
    else no_edits

-- the hash of the user becomes what f gives, where it stands
abbrev pub each_user_hash : List ℕ → (List ℕ → List ℕ) → Files → Script
each_user_hash name f files = if is_some files.shadow
    then record no_edits {
      shadow = each_where (is_named shadow_format name) (λ r. record r { hash = f r.hash }) ∷ [];
    }
    else record no_edits { passwd = each_password name f ∷ [] }

-- ---- Groups

-- the password field of the group becomes this one, in group
abbrev pub set_password : List ℕ → List ℕ → Edit GroupRecord
set_password name password =
    each_where (is_named group_format name) (λ r. record r { password = password })

-- gshadow exists without a record of the group
abbrev pub lacks_gshadow : List ℕ → Files → Bool
lacks_gshadow name files = is_some files.gshadow && not (has_gshadow name files)

-- the record of gshadow that stands for a group: its password and its members, and no administrators
abbrev pub gshadow_of : GroupRecord → GshadowRecord
gshadow_of group = record {
  name = group.name;
  password = group.password;
  administrators = [];
  members = group.members;
}

-- the record of gshadow is appended, and the group's password field becomes `x`
abbrev pub make_gshadow : GroupRecord → Script
make_gshadow group = record no_edits {
  group = set_password group.name elsewhere ∷ [];
  gshadow = AddMissing (gshadow_of group) ∷ [];
}

-- Gshadow line on demand: where gshadow lacks the group, its record is made.
abbrev pub demand_gshadow : List ℕ → Files → Script
demand_gshadow name files = if lacks_gshadow name files
    then elim (group_named name files) [ None ↦ no_edits | Some group ↦ make_gshadow group ]
    else no_edits

-- the hash of the group becomes this one, where it stands
abbrev pub write_group_hash : List ℕ → List ℕ → Files → Script
write_group_hash name hash files = if is_some files.gshadow
    then record no_edits {
      gshadow = each_where (is_named gshadow_format name) (λ r. record r { password = hash }) ∷ [];
    }
    else record no_edits { group = set_password name hash ∷ [] }

-- the administrators of the group become these, which stand in gshadow alone
abbrev pub write_administrators : List ℕ → List (List ℕ) → Script
write_administrators name administrators = record no_edits {
  gshadow = each_where (is_named gshadow_format name)
      (λ r. record r { administrators = administrators }) ∷ [];
}

-- the hash of the group is set: the line on demand first
abbrev pub set_group_hash : List ℕ → List ℕ → Files → Script
set_group_hash name hash files =
    followed_by (demand_gshadow name files) (write_group_hash name hash files)

-- the administrators of the group are set: the line on demand first
abbrev pub set_administrators : List ℕ → List (List ℕ) → Files → Script
set_administrators name administrators files =
    followed_by (demand_gshadow name files) (write_administrators name administrators)
