-- What usermod changes in the six tables is of the user and the groups that it names (`change-spares`).
use Rattle.std.proofs.Common.{◌≡◌, ℕ, Bool, true, false, not, List, [], ◌∷◌, map, refl, ◌∙◌, ap}
use Rattle.std.specs.Prelude.{codes, if◌then◌else◌}
use Rattle.std.specs.List.{AllByRecursion}
use Rattle.acct_text.specs.declared.files.Files.{Files}
use Rattle.account_model.specs.declared.records.GroupRecord.{GroupRecord}
use Rattle.account_model.specs.declared.records.GshadowRecord.{GshadowRecord}
use Rattle.account_model.specs.declared.records.SubidRecord.{SubidRecord}
use Rattle.account_model.specs.declared.tool.Tool.TheVariants.{Usermod}
use Rattle.account_model.specs.Text.{is_listed}
use Rattle.account_model.specs.Format.{is_named}
use Rattle.account_model.specs.Records.{passwd_format, shadow_format, subid_format}
use Rattle.account_model.specs.Request.{Request, has_option, operand}
use Rattle.account_model.specs.Members.{with_name, without_name}
use Rattle.account_model.specs.UsermodRanges.{IdRange, RangeChange, RangeOwner, add_range, cut_range, edits_before_adding, range_edits}
use Rattle.account_model.specs.Usermod.{change_user, changed_group, changed_gshadow, changed_shadow, changed_user, is_listed_group, members_after, new_name, range_owner, sets_lists, sets_passwd, sets_shadow, subgid_change, subuid_change, uid_after, with_new_name}
use Rattle.account_model.specs.SubidOwner.{is_owned, left_without}
use Rattle.account_model.specs.NamedLines.{Named, lists_any, named_by, names_group, names_gshadow, names_subid, owner_fields}
use Rattle.account_model.proofs.ListLaws.{all-append, all-if}
use Rattle.account_model.proofs.RenamingLaws.{unlisted_stays}
use Rattle.account_model.proofs.NamedParts.{first-has, other-user, other-shadow}
use Rattle.account_model.proofs.UsermodRangeScripts.{before-all}
use Rattle.account_model.proofs.NamedLaws.{Spares, SparesUnnamed, not-others, not-owned, not-this, unlisted-in, unlisted-stays, where-spares, group-parts, gshadow-parts}

-- members that stay, whether groups are listed or the user is added
joined-by :
    (user : List ℕ) (members : List (List ℕ)) (none listed adds : Bool)
    → listed ≡ false
    → without_name user members ≡ members
    → (if none then members else (if listed then with_name user members else
    (if adds then members else without_name user members))) ≡ members
joined-by user members true listed adds not_listed stays = refl
joined-by user members false true adds not_listed stays = absurd (cc not_listed)
joined-by user members false false true not_listed stays = refl
joined-by user members false false false not_listed stays = stays

module _ (request : Request) (files : Files) where
  -- what it names
  abbrev pub usermod_names : Named
  usermod_names = named_by Usermod request [] files

  -- the members of a group that isn't named, among whom the user isn't
  members-stay :
      (group : List ℕ) (members : List (List ℕ))
      → is_listed group usermod_names.groups ≡ false
      → lists_any members (operand request ∷ []) ≡ false
      → members_after request files group members ≡ members
  members-stay group members unlisted none =
      ap (with_new_name request)
      (joined-by (operand request) members (not (has_option (codes "G") request))
      (is_listed_group request files group) (has_option (codes "a") request) unlisted
      (unlisted-stays (operand request) members none))
      ∙ unlisted_stays (operand request) (new_name request) members
      (unlisted-in (operand request) members none)

  -- a line of group
  group-stays :
      (r : GroupRecord)
      → names_group usermod_names r ≡ false
      → changed_group request files r ∷ [] ≡ r ∷ []
  group-stays r none =
      let parts = group-parts usermod_names r none
      in ap (λ (members : List (List ℕ)). record r { members = members } ∷ [])
      (members-stay r.name r.members parts.0 parts.1)

  -- a line of gshadow
  gshadow-stays :
      (r : GshadowRecord)
      → names_gshadow usermod_names r ≡ false
      → changed_gshadow request files r ∷ [] ≡ r ∷ []
  gshadow-stays r none =
      let parts = gshadow-parts usermod_names r none
      in ap (λ (members : List (List ℕ)). record r {
        administrators = with_new_name request r.administrators;
        members = members;
      } ∷ []) (members-stay r.name r.members parts.0 parts.1)
      ∙ ap (λ (administrators : List (List ℕ)). record r { administrators = administrators } ∷ [])
      (unlisted_stays (operand request) (new_name request) r.administrators
      (unlisted-in (operand request) r.administrators parts.2))

  -- ranges that go
  cuts-spare :
      (owner : RangeOwner) (ranges : List IdRange)
      → ((r : SubidRecord) → names_subid usermod_names r ≡ false
      → is_owned owner.new_name owner.uid r ≡ false)
      → AllByRecursion (Spares subid_format false (names_subid usermod_names))
      (map (cut_range owner) ranges)
  cuts-spare owner [] other = tt
  cuts-spare owner (ids ∷ ranges) other = (
    (λ r none. ap (λ (owned : Bool).
        if owned then left_without ids.first ids.last r else r ∷ []) (other r none)),
    cuts-spare owner ranges other,
  )

  -- ranges that come
  adds-spare :
      (owner : RangeOwner) (ranges : List IdRange)
      → AllByRecursion (Spares subid_format false (names_subid usermod_names))
      (map (add_range owner) ranges)
  adds-spare owner [] = tt
  adds-spare owner (ids ∷ ranges) = (tt, adds-spare owner ranges)

  -- the ranges of others
  ranges-spare :
      (change : RangeChange)
      → AllByRecursion (Spares subid_format false (names_subid usermod_names))
      (range_edits (range_owner request files) change)
  ranges-spare change =
      let owner = range_owner request files
      in let fields = owner_fields (new_name request) (uid_after request files)
      in all-append (Spares subid_format false (names_subid usermod_names))
      (edits_before_adding owner change) (map (add_range owner) change.added)
      (before-all _ owner change
      (where-spares subid_format false _ (is_named subid_format (operand request))
      (λ one. record one { owner = new_name request })
      (λ r. not-this r.owner (operand request) fields))
      (cuts-spare owner change.removed
      (λ r none. not-owned (new_name request) (uid_after request files) r
      (not-others r.owner (operand request) fields none))))
      (adds-spare owner change.added)

  -- the lines of the six tables
  pub change-spares :
      (day : ℕ) → SparesUnnamed false usermod_names (change_user request files day)
  change-spares day = record {
    passwd = all-if _ (sets_passwd request) _
        (where-spares passwd_format false _ (is_named passwd_format (operand request))
        (changed_user request files)
        (other-user usermod_names (operand request) (first-has (operand request) [])));
    shadow = all-if _ (sets_shadow request) _
        (where-spares shadow_format false _ (is_named shadow_format (operand request))
        (changed_shadow request day)
        (other-shadow usermod_names (operand request) (first-has (operand request) [])));
    group = all-if _ (sets_lists request) _ group-stays;
    gshadow = all-if _ (sets_lists request) _ gshadow-stays;
    subuid = ranges-spare (subuid_change request files);
    subgid = ranges-spare (subgid_change request files);
  }
