-- The parts of scripts that several tools have are lawful: the lines of a user (`passwd-lawful`, `shadow-lawful`), the one of
-- shadow on demand (`demand-lawful`) and the hash; and those of a group, its hash, its administrators and its members.
use Rattle.std.proofs.Common.{◌≡◌, ℕ, ◌≤◌, Bool, false, List, [], ◌∷◌, refl}
use Rattle.std.specs.Prelude.{is_some, bytes_eq}
use Rattle.std.specs.List.{AllByRecursion}
use Rattle.acct_text.specs.declared.files.Files.{Files}
use Rattle.account_model.specs.declared.records.PasswdRecord.{PasswdRecord}
use Rattle.account_model.specs.declared.records.ShadowRecord.{ShadowRecord}
use Rattle.account_model.specs.declared.records.GroupRecord.{GroupRecord}
use Rattle.account_model.specs.declared.records.GshadowRecord.{GshadowRecord}
use Rattle.account_model.specs.Text.{is_listed}
use Rattle.account_model.specs.Edits.{each_where}
use Rattle.account_model.specs.Format.{is_named}
use Rattle.account_model.specs.Records.{passwd_format, shadow_format, group_format, gshadow_format, greatest_days}
use Rattle.account_model.specs.Written.{IsField, IsListed, IsPasswd, IsShadow, IsGroup, IsGshadow}
use Rattle.account_model.specs.Tables.{no_edits, passwd_records, group_records}
use Rattle.account_model.specs.Users.{find_user, group_named}
use Rattle.account_model.specs.Hashes.{demand_gshadow, demand_shadow, each_user_hash, elsewhere, lacks_gshadow, lacks_shadow, make_gshadow, make_shadow, set_administrators, set_group_hash, write_administrators, write_group_hash}
use Rattle.account_model.specs.Members.{each_members}
use Rattle.account_model.specs.Groupdel.{remove_group}
use Rattle.account_model.specs.NamedLines.{Named}
use Rattle.account_model.proofs.ComposedScripts.{either-holds, some-holds}
use Rattle.account_model.proofs.KeptIds.{drop-keeps, groups-keep, users-keep, where-keeps}
use Rattle.account_model.proofs.LawfulScripts.{IsLawful, lawful, lawful-composed}
use Rattle.account_model.proofs.NamedLaws.{found-named, groups-spare, users-spare, where-spares}
use Rattle.account_model.proofs.NamedParts.{each-gshadow-spares, each-spares, make-group-spares, make-spares, other-shadow, other-user, removed-spares}
use Rattle.account_model.proofs.RefusalFacts.{user-held, group-held}
use Rattle.account_model.proofs.HeldLaws.{passwd-holds, shadow-holds, group-holds, gshadow-holds, drop_where-written, each_where-written}
use Rattle.account_model.proofs.WrittenScripts.{group-password-held, groups-written, make-gshadow-written, make-shadow-written, password-held, users-written}

-- ---- Users

-- what is named of a user: the name is one of those of users
module _ {day : ℕ} {gives sorts : Bool} (named : Named) (user : List ℕ)
    (has : (name : List ℕ) → is_listed name named.users ≡ false → bytes_eq name user ≡ false) where
  -- the user's line of passwd becomes another that a line can hold, of the same UID
  pub passwd-lawful :
      (f : PasswdRecord → PasswdRecord)
      → ((r : PasswdRecord) → IsPasswd r → IsPasswd (f r))
      → ((r : PasswdRecord) → (f r).uid ≡ r.uid)
      → IsLawful day gives sorts named (record no_edits {
        passwd = each_where (is_named passwd_format user) f ∷ [];
      })
  passwd-lawful f held same = lawful
      (users-written _ [] (
        each_where-written passwd_format IsPasswd passwd-holds (is_named passwd_format user) f held,
        tt,
      ) tt)
      (users-spare _ [] (
        where-spares passwd_format sorts _ (is_named passwd_format user) f
            (other-user named user has),
        tt,
      ) tt)
      (λ none. users-keep _ []
      (where-keeps (λ one. one.uid) (is_named passwd_format user) f same, tt))

  -- that of shadow, which may need a day that shadow holds
  pub shadow-lawful :
      (f : ShadowRecord → ShadowRecord)
      → (day ≤ greatest_days → (r : ShadowRecord) → IsShadow r → IsShadow (f r))
      → IsLawful day gives sorts named (record no_edits {
        shadow = each_where (is_named shadow_format user) f ∷ [];
      })
  shadow-lawful f held = record {
    written = record {
      passwd = tt;
      shadow = λ small. (
        each_where-written shadow_format IsShadow shadow-holds (is_named shadow_format user) f
            (held small),
        tt,
      );
      group = tt;
      gshadow = tt;
      subuid = tt;
      subgid = tt;
    };
    spares = users-spare [] _ tt (
      where-spares shadow_format sorts _ (is_named shadow_format user) f
          (other-shadow named user has),
      tt,
    );
    keep = λ none. users-keep [] _ tt;
  }

  -- the line of shadow on demand
  pub demand-lawful : (files : Files) → IsLawful day gives sorts named (demand_shadow user files)
  demand-lawful files =
      either-holds (lawful-composed named) (lacks_shadow user files) _ no_edits
      (some-holds (lawful-composed named) make_shadow (find_user user files)
      (λ found is. lawful (make-shadow-written found (user-held user files found is))
      (make-spares named user has found
      (found-named passwd_format user (passwd_records files) found is))
      (λ none. users-keep _ _ (
        where-keeps (λ one. one.uid) (is_named passwd_format found.name)
            (λ one. record one { password = elsewhere }) (λ one. refl),
        tt,
      ))))
      (lawful-composed named).none

  -- a hash that becomes one which can stand in a line, where it stands
  pub hash-lawful :
      (f : List ℕ → List ℕ) (files : Files)
      → ((hash : List ℕ) → IsField hash → IsField (f hash))
      → IsLawful day gives sorts named (each_user_hash user f files)
  hash-lawful f files keeps = either-holds (lawful-composed named) (is_some files.shadow) _ _
      (shadow-lawful (λ r. record r { hash = f r.hash }) (λ small r is. record {
        name = is.name;
        hash = keeps r.hash is.hash;
        last_change = is.last_change;
        minimum = is.minimum;
        maximum = is.maximum;
        warning = is.warning;
        inactive = is.inactive;
        expiration = is.expiration;
        rest = is.rest;
      }))
      (passwd-lawful (λ r. record r { password = f r.password })
      (λ r. password-held (f r.password) r (keeps r.password)) (λ r. refl))

-- ---- Groups

-- what is named of a group: the name is one of those of groups
module _ {day : ℕ} {gives sorts : Bool} (named : Named) (group : List ℕ)
    (has : (name : List ℕ) → is_listed name named.groups ≡ false → bytes_eq name group ≡ false)
  where
    -- the group's lines become others that a line can hold, of the same GID
    pub lines-lawful :
        (f : GroupRecord → GroupRecord) (g : GshadowRecord → GshadowRecord)
        → ((r : GroupRecord) → IsGroup r → IsGroup (f r))
        → ((r : GshadowRecord) → IsGshadow r → IsGshadow (g r))
        → ((r : GroupRecord) → (f r).gid ≡ r.gid)
        → IsLawful day gives sorts named (record no_edits {
          group = each_where (is_named group_format group) f ∷ [];
          gshadow = each_where (is_named gshadow_format group) g ∷ [];
        })
    lines-lawful f g held also same = lawful
        (groups-written _ _
        (each_where-written group_format IsGroup group-holds (is_named group_format group) f held, tt) (
          each_where-written gshadow_format IsGshadow gshadow-holds
              (is_named gshadow_format group) g also,
          tt,
        ))
        (groups-spare _ _ (each-spares named group has sorts f, tt)
        (each-gshadow-spares named group has sorts g, tt))
        (λ none. groups-keep _ _
        (where-keeps (λ one. one.gid) (is_named group_format group) f same, tt))

    -- that of group alone
    pub group-lawful :
        (f : GroupRecord → GroupRecord)
        → ((r : GroupRecord) → IsGroup r → IsGroup (f r))
        → ((r : GroupRecord) → (f r).gid ≡ r.gid)
        → IsLawful day gives sorts named (record no_edits {
          group = each_where (is_named group_format group) f ∷ [];
        })
    group-lawful f held same = lawful
        (groups-written _ []
        (each_where-written group_format IsGroup group-holds (is_named group_format group) f held, tt)
        tt)
        (groups-spare _ [] (each-spares named group has sorts f, tt) tt)
        (λ none. groups-keep _ []
        (where-keeps (λ one. one.gid) (is_named group_format group) f same, tt))

    -- and that of gshadow
    pub gshadow-lawful :
        (g : GshadowRecord → GshadowRecord)
        → ((r : GshadowRecord) → IsGshadow r → IsGshadow (g r))
        → IsLawful day gives sorts named (record no_edits {
          gshadow = each_where (is_named gshadow_format group) g ∷ [];
        })
    gshadow-lawful g held = lawful
        (groups-written [] _ tt (
          each_where-written gshadow_format IsGshadow gshadow-holds
              (is_named gshadow_format group) g held,
          tt,
        ))
        (groups-spare [] _ tt (each-gshadow-spares named group has sorts g, tt))
        (λ none. groups-keep [] _ tt)

    -- both go
    pub removed-lawful : IsLawful day gives sorts named (remove_group group)
    removed-lawful = lawful
        (groups-written _ _
        (drop_where-written group_format IsGroup group-holds (is_named group_format group), tt)
        (drop_where-written gshadow_format IsGshadow gshadow-holds (is_named gshadow_format group), tt))
        (removed-spares named group has)
        (λ none. groups-keep _ _ (drop-keeps (λ one. one.gid) (is_named group_format group), tt))

    -- members that become others which can stand in a list
    pub members-lawful :
        (f : List (List ℕ) → List (List ℕ))
        → ((names : List (List ℕ)) → AllByRecursion IsListed names
        → AllByRecursion IsListed (f names))
        → IsLawful day gives sorts named (each_members group f)
    members-lawful f keeps = lines-lawful (λ r. record r { members = f r.members })
        (λ r. record r { members = f r.members })
        (λ r is. record {
          name = is.name;
          password = is.password;
          gid = is.gid;
          members = keeps r.members is.members;
        })
        (λ r is. record {
          name = is.name;
          password = is.password;
          administrators = is.administrators;
          members = keeps r.members is.members;
        }) (λ r. refl)

    -- the line of gshadow on demand
    demand-group-lawful :
        (files : Files) → IsLawful day gives sorts named (demand_gshadow group files)
    demand-group-lawful files =
        either-holds (lawful-composed named) (lacks_gshadow group files) _ no_edits
        (some-holds (lawful-composed named) make_gshadow (group_named group files)
        (λ found is. lawful (make-gshadow-written found (group-held group files found is))
        (make-group-spares named group has found
        (found-named group_format group (group_records files) found is))
        (λ none. groups-keep _ _ (
          where-keeps (λ one. one.gid) (is_named group_format found.name)
              (λ one. record one { password = elsewhere }) (λ one. refl),
          tt,
        ))))
        (lawful-composed named).none

    -- a hash that can stand in a field
    pub group-hash-lawful :
        (hash : List ℕ) (files : Files)
        → IsField hash
        → IsLawful day gives sorts named (set_group_hash group hash files)
    group-hash-lawful hash files is =
        (lawful-composed named).both (demand_gshadow group files)
        (write_group_hash group hash files) (demand-group-lawful files)
        (either-holds (lawful-composed named) (is_some files.gshadow) _ _
        (gshadow-lawful (λ r. record r { password = hash }) (λ r held. record {
          name = held.name;
          password = is;
          administrators = held.administrators;
          members = held.members;
        }))
        (group-lawful (λ r. record r { password = hash }) (λ r. group-password-held hash r is)
        (λ r. refl)))

    -- administrators that can stand in a list
    pub administrators-lawful :
        (names : List (List ℕ)) (files : Files)
        → AllByRecursion IsListed names
        → IsLawful day gives sorts named (set_administrators group names files)
    administrators-lawful names files all =
        (lawful-composed named).both (demand_gshadow group files)
        (write_administrators group names) (demand-group-lawful files)
        (gshadow-lawful (λ r. record r { administrators = names }) (λ r held. record {
          name = held.name;
          password = held.password;
          administrators = all;
          members = held.members;
        }))
