-- The parts of scripts that spare what a command doesn't name: lines of a user that it names, and those of a group.
use Rattle.std.proofs.Common.{◌≡◌, ℕ, Bool, false, List, ◌∷◌, ◌∙◌, ap}
use Rattle.std.specs.Prelude.{bytes_eq}
use Rattle.acct_text.specs.declared.files.Files.{Files}
use Rattle.account_model.specs.declared.records.PasswdRecord.{PasswdRecord}
use Rattle.account_model.specs.declared.records.ShadowRecord.{ShadowRecord}
use Rattle.account_model.specs.declared.records.GroupRecord.{GroupRecord}
use Rattle.account_model.specs.declared.records.GshadowRecord.{GshadowRecord}
use Rattle.account_model.specs.Text.{is_listed}
use Rattle.account_model.specs.Format.{is_named}
use Rattle.account_model.specs.Records.{passwd_format, shadow_format, group_format, gshadow_format}
use Rattle.account_model.specs.Hashes.{elsewhere, make_gshadow, make_shadow}
use Rattle.account_model.specs.NewAccount.{add_group}
use Rattle.account_model.specs.Groupdel.{remove_group}
use Rattle.account_model.specs.Edits.{each_where}
use Rattle.account_model.specs.NamedLines.{Named, names_group, names_gshadow, names_passwd, names_shadow}
use Rattle.account_model.proofs.NamedLaws.{Spares, SparesUnnamed, drop-spares, group-parts, groups-spare, gshadow-parts, not-this, passwd-parts, shadow-parts, users-spare, where-spares}

-- ---- Users

-- what is named of a user: the name is one of those of users
module _ (named : Named) (user : List ℕ)
    (has : (name : List ℕ) → is_listed name named.users ≡ false → bytes_eq name user ≡ false) where
  -- a line of passwd that isn't named is another user's
  pub other-user : (r : PasswdRecord) → names_passwd named r ≡ false
      → is_named passwd_format user r ≡ false
  other-user r none = has r.name (passwd-parts named r none).0

  -- and so is one of shadow
  pub other-shadow : (r : ShadowRecord) → names_shadow named r ≡ false
      → is_named shadow_format user r ≡ false
  other-shadow r none = has r.name (shadow-parts named r none).0

  module _ {sorts : Bool} where
    -- the line of shadow that is made
    pub make-spares :
        (found : PasswdRecord) → found.name ≡ user → SparesUnnamed sorts named (make_shadow found)
    make-spares found is = users-spare _ _ (
      where-spares passwd_format sorts _ (is_named passwd_format found.name)
          (λ one. record one { password = elsewhere })
          (λ r none. ap (λ name. bytes_eq r.name name) is ∙ other-user r none),
      tt,
    ) (tt, tt)

-- ---- Groups

-- what is named of a group: the name is one of those of groups
module _ (named : Named) (group : List ℕ)
    (has : (name : List ℕ) → is_listed name named.groups ≡ false → bytes_eq name group ≡ false)
  where
    -- a line of group that isn't named is another group's
    other-group : (r : GroupRecord) → names_group named r ≡ false
        → is_named group_format group r ≡ false
    other-group r none = has r.name (group-parts named r none).0

    -- and so is one of gshadow
    other-gshadow : (r : GshadowRecord) → names_gshadow named r ≡ false
        → is_named gshadow_format group r ≡ false
    other-gshadow r none = has r.name (gshadow-parts named r none).0

    -- the group's lines become others
    pub each-spares :
        (sorts : Bool) (f : GroupRecord → GroupRecord)
        → Spares group_format sorts (names_group named) (each_where (is_named group_format group) f)
    each-spares sorts f =
        where-spares group_format sorts _ (is_named group_format group) f other-group

    -- those of gshadow
    pub each-gshadow-spares :
        (sorts : Bool) (f : GshadowRecord → GshadowRecord)
        → Spares gshadow_format sorts (names_gshadow named)
        (each_where (is_named gshadow_format group) f)
    each-gshadow-spares sorts f =
        where-spares gshadow_format sorts _ (is_named gshadow_format group) f other-gshadow

    module _ {sorts : Bool} where
      -- the lines of a new group
      pub new-group-spares :
          (hash : List ℕ) (gid : ℕ) (files : Files)
          → SparesUnnamed sorts named (add_group group hash gid files)
      new-group-spares hash gid files = groups-spare _ _ (tt, tt) (other-gshadow, tt)

      -- the lines of a group go
      pub removed-spares : SparesUnnamed sorts named (remove_group group)
      removed-spares = groups-spare _ _
          (drop-spares group_format sorts _ (is_named group_format group) other-group, tt)
          (drop-spares gshadow_format sorts _ (is_named gshadow_format group) other-gshadow, tt)

      -- the line of gshadow that is made
      pub make-group-spares :
          (found : GroupRecord) → found.name ≡ group
          → SparesUnnamed sorts named (make_gshadow found)
      make-group-spares found is = groups-spare _ _ (
        where-spares group_format sorts _ (is_named group_format found.name)
            (λ one. record one { password = elsewhere })
            (λ r none. ap (λ name. bytes_eq r.name name) is ∙ other-group r none),
        tt,
      ) (tt, tt)

-- the first of the names is one of them
pub first-has :
    (this : List ℕ) (rest : List (List ℕ)) (name : List ℕ)
    → is_listed name (this ∷ rest) ≡ false
    → bytes_eq name this ≡ false
first-has this rest name none = not-this name this rest none
