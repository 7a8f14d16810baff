-- useradd is lawful (`useradd-lawful`). Way: the refusals show that each value can stand in a line,
-- and then each edit keeps that; each is of the user and the groups that the command names.
use Rattle.std.proofs.Common.{◌≡◌, zero, suc, ℕ, ◌<◌, ◌≤◌, Bool, true, false, ◌&&◌, not, List, [], ◌∷◌, ◌++◌, map, refl, subst, arith, lit≤}
use Rattle.std.specs.Prelude.{Option, Some, None, ◌==◌, codes, is_some, option_map, option_and_then, unwrap_or, if◌then◌else◌}
use Rattle.std.specs.List.{AllByRecursion, list_any}
use Rattle.std.proofs.lemmas.Bool.{and_parts}
use Rattle.std.proofs.Math.Nat.{le_trans}
use Rattle.acct_text.specs.declared.files.Files.{Files}
use Rattle.acct_text.proofs.NumberLaws.{some-inj}
use Rattle.account_model.specs.declared.records.GroupRecord.{GroupRecord}
use Rattle.account_model.specs.declared.new_user.Allotment.TheVariants.{Unwanted, Full, Range}
use Rattle.account_model.specs.declared.settings.Key.TheVariants.{PassMinDays, PassMaxDays, PassWarnAge}
use Rattle.account_model.specs.declared.refusal.Refusal.{Refusal}
use Rattle.account_model.specs.declared.refusal.Refusal.TheVariants.{BadName}
use Rattle.acct_text.specs.Bytes.{newline, colon}
use Rattle.account_model.specs.Text.{first_some, has_byte, is_listed}
use Rattle.account_model.specs.Names.{is_valid_name}
use Rattle.account_model.specs.Records.{subid_format, greatest_id, greatest_days}
use Rattle.account_model.specs.RecordEdits.{IsWrittenEdit}
use Rattle.account_model.specs.Edits.Edit.{Add, Put}
use Rattle.account_model.specs.Written.{IsField, IsListed, IsDaysNumber, IsPasswd, IsShadow, IsSubid}
use Rattle.account_model.specs.Tables.{no_edits}
use Rattle.account_model.specs.Settings.{Setting, number}
use Rattle.account_model.specs.Values.{is_field, is_folder, is_shell, is_days_value, is_expiration_value, given_uid, days_value, expiration_value, text_value}
use Rattle.account_model.specs.GivenGroups.{given_group, given_groups}
use Rattle.account_model.specs.Hashes.{locked}
use Rattle.account_model.specs.Members.{add_to_group, with_name}
use Rattle.account_model.specs.Request.{Request, has_option, operand}
use Rattle.account_model.specs.Refusals.{bad_name, bad_value, bad_key}
use Rattle.account_model.specs.NewAccount.{kind_of, settings_for, free_uid, free_gid, new_hash, add_group}
use Rattle.account_model.specs.FreeRange.{IsFreeRange}
use Rattle.account_model.specs.Ids.{is_used, used_gids}
use Rattle.account_model.specs.SubidOwner.{is_owned}
use Rattle.account_model.specs.NewRanges.{Subordinate, subordinate_uids, subordinate_gids, may_have_ranges, is_allotted, free_start, asked_range, allotment, allotted}
use Rattle.account_model.specs.Useradd.{makes_group, new_uid, gid_beside, own_gid, default_gid, primary_gid, useradd_checks, useradd_conflicts, new_home, new_user, new_shadow, plan_of, add_own_group, join_groups, add_user, useradd_script, useradd_under}
use Rattle.account_model.proofs.DeedLaws.{first-none}
use Rattle.account_model.proofs.HeldLaws.{passwd-holds, shadow-holds, subid-holds}
use Rattle.account_model.proofs.FieldFacts.{is_field-is, is_folder-is, is_shell-is, field-append, empty-field, valid-name, valid-listed, lacks-byte}
use Rattle.account_model.proofs.RefusalFacts.{refuse-none, text-kept, field-kept, given-small}
use Rattle.account_model.proofs.SettingBounds.{free-uid-small, free-gid-small, minimum-days, maximum-days, warning-days, subuid-maximum, subgid-maximum}
use Rattle.account_model.proofs.WrittenScripts.{locked-field}
use Rattle.account_model.proofs.ComposedScripts.{all-hold, either-holds}
use Rattle.account_model.proofs.KeptIds.{may-give}
use Rattle.account_model.proofs.LawfulParts.{members-lawful}
use Rattle.account_model.proofs.LawfulScripts.{IsLawful, lawful, lawful-composed}
use Rattle.account_model.proofs.LawfulTools.{LawfulTool, quiet-act}
use Rattle.account_model.proofs.MemberLaws.{with-listed}
use Rattle.account_model.proofs.NamedLaws.{Spares, not-others, not-this, users-spare}
use Rattle.account_model.proofs.NamedParts.{first-has, new-group-spares, other-shadow}
use Rattle.account_model.specs.declared.tool.Tool.TheVariants.{Useradd}
use Rattle.account_model.specs.declared.new_user.Allotment.{Allotment}
use Rattle.account_model.specs.declared.new_user.Plan.{Plan}
use Rattle.account_model.specs.declared.records.SubidRecord.{SubidRecord}
use Rattle.account_model.specs.NamedLines.{Named, named_by}
use Rattle.account_model.proofs.GroupToolScripts.{add-group-written, password-by, new-hash-field}
use Rattle.account_model.proofs.GivenFacts.{given-group-gid, expiration-held}
use Rattle.account_model.proofs.AgingToolScripts.{days-held}
use Rattle.account_model.proofs.FreeRangeLaws.{free_range-is}

-- ---- useradd: the IDs

-- a UID that is given or chosen
uid-by :
    (request : Request) (files : Files) (settings : List Setting) (uid : ℕ) (given : Option ℕ)
    → ((n : ℕ) → given ≡ Some n → n ≤ greatest_id)
    → elim given as (λ o. Option ℕ) [
      | Some n ↦ Some n
      | None ↦ free_uid (kind_of request) files
          settings
    ] ≡ Some uid
    → uid ≤ greatest_id
uid-by request files settings uid None small e =
    free-uid-small (kind_of request) files settings uid e
uid-by request files settings uid (Some n) small e = small uid e

-- the new UID is an ID
new-uid-small :
    (request : Request) (files : Files) (settings : List Setting) (uid : ℕ)
    → new_uid request files settings ≡ Some uid
    → uid ≤ greatest_id
new-uid-small request files settings uid e =
    uid-by request files settings uid (given_uid request) (given-small (codes "u") request) e

-- the GID beside a UID
beside-by :
    (request : Request) (files : Files) (settings : List Setting) (uid gid : ℕ) (used : Bool)
    → uid ≤ greatest_id
    → (if used then free_gid (kind_of request) files settings else Some uid) ≡ Some gid
    → gid ≤ greatest_id
beside-by request files settings uid gid true small e =
    free-gid-small (kind_of request) files settings gid e
beside-by request files settings uid gid false small e =
    subst (λ k. k ≤ greatest_id) (some-inj e) small

-- the GID of the own group
own-gid-by :
    (request : Request) (files : Files) (settings : List Setting) (gid : ℕ) (uid : Option ℕ)
    → ((n : ℕ) → uid ≡ Some n → n ≤ greatest_id)
    → option_and_then (gid_beside request files settings) uid ≡ Some gid
    → gid ≤ greatest_id
own-gid-by request files settings gid None small e = cc
own-gid-by request files settings gid (Some n) small e =
    beside-by request files settings n gid (is_used (used_gids files) n) (small n refl) e

-- the primary GID, by whether a group is made
primary-by :
    (request : Request) (files : Files) (settings : List Setting) (gid : ℕ) (makes : Bool)
    → (if makes
    then own_gid request files settings
    else Some (unwrap_or (option_map (λ group. group.gid) (given_group request files))
    default_gid)) ≡ Some gid
    → gid ≤ greatest_id
primary-by request files settings gid true e =
    own-gid-by request files settings gid (new_uid request files settings)
    (new-uid-small request files settings) e
primary-by request files settings gid false e =
    subst (λ k. k ≤ greatest_id) (some-inj e) (given-group-gid request files default_gid (lit≤ tt))

-- the primary GID is an ID
primary-gid-small :
    (request : Request) (files : Files) (settings : List Setting) (gid : ℕ)
    → primary_gid request files settings ≡ Some gid
    → gid ≤ greatest_id
primary-gid-small request files settings gid e =
    primary-by request files settings gid (makes_group request settings) e

-- ---- useradd: the records

-- what the tests of useradd leave of the request
record UseraddPasses (request : Request) : Type 0 where
  name : is_valid_name (operand request) ≡ true
  comment : bad_value (codes "c") is_field request ≡ None
  home : bad_value (codes "d") is_folder request ≡ None
  base : bad_value (codes "b") is_folder request ≡ None
  shell : bad_value (codes "s") is_shell request ≡ None
  hash : bad_value (codes "p") is_field request ≡ None

-- no refusal of useradd
useradd-passes :
    (request : Request) (more : List (Option Refusal))
    → first_some (useradd_checks request ++ more) ≡ None
    → UseraddPasses request
useradd-passes request more none =
    let after_name = first-none (bad_name (operand request)) _ none
    in let after_key = first-none (bad_key request) _ after_name.1
    in let after_comment = first-none (bad_value (codes "c") is_field request) _ after_key.1
    in let after_home = first-none (bad_value (codes "d") is_folder request) _ after_comment.1
    in let after_base = first-none (bad_value (codes "b") is_folder request) _ after_home.1
    in let after_expiration = first-none (bad_value (codes "e") is_expiration_value
    request) _ after_base.1
    in let after_inactive = first-none (bad_value (codes "f") is_days_value request)
    _ after_expiration.1
    in let after_shell = first-none (bad_value (codes "s") is_shell request) _ after_inactive.1
    in let after_hash = first-none (bad_value (codes "p") is_field request) _ after_shell.1
    in record {
      name = refuse-none (is_valid_name (operand request)) (BadName (operand request)) after_name.0;
      comment = after_comment.0;
      home = after_home.0;
      base = after_base.0;
      shell = after_shell.0;
      hash = after_hash.0;
    }

-- a text without `:` and newlines
literal-field :
    (text : List ℕ)
    → has_byte colon text ≡ false
    → has_byte newline text ≡ false
    → IsField text
literal-field text no_colon no_newline =
    record {
      no_colon = lacks-byte colon text no_colon;
      no_newline = lacks-byte
          newline text no_newline;
    }

-- the home of a new user
home-field : (request : Request) → UseraddPasses request → IsField (new_home request)
home-field request passes =
    let base = text-kept IsField (codes "b") is_folder request (codes "/home")
    is_folder-is passes.base
    (literal-field (codes "/home") refl refl)
    in let name = (valid-name (operand request) passes.name).field
    in let folder = text_value (codes "b") request (codes "/home") ++ codes "/"
    in let in_base : IsField (folder ++ operand request) = field-append folder (operand request)
    (field-append (text_value (codes "b") request (codes "/home")) (codes "/") base
    (literal-field (codes "/") refl refl)) name
    in text-kept IsField (codes "d") is_folder request (folder ++ operand request)
    is_folder-is passes.home in_base

-- the new line of passwd
new-user-held :
    (request : Request) (files : Files) (uid gid : ℕ)
    → UseraddPasses request
    → uid ≤ greatest_id
    → gid ≤ greatest_id
    → IsPasswd (new_user request files uid gid)
new-user-held request files uid gid passes small_uid small_gid = record {
  name = valid-name (operand request) passes.name;
  password = password-by (new_hash request) (is_some files.shadow)
      (new-hash-field request passes.hash);
  uid = small_uid;
  gid = small_gid;
  comment = text-kept IsField (codes "c") is_field request [] is_field-is
      passes.comment empty-field;
  home = home-field request passes;
  shell = text-kept IsField (codes "s") is_shell request [] is_shell-is passes.shell empty-field;
}

-- the aging of a new user, by whether it is a system user
aging-by :
    (days : Option ℕ) (system : Bool)
    → IsDaysNumber days
    → IsDaysNumber (if system then None else days)
aging-by days true is = tt
aging-by days false is = is

-- the new line of shadow
new-shadow-held :
    (request : Request) (settings : List Setting) (day : ℕ)
    → UseraddPasses request
    → day ≤ greatest_days
    → IsShadow (new_shadow request settings day)
new-shadow-held request settings day passes small = record {
  name = valid-name (operand request) passes.name;
  hash = new-hash-field request passes.hash;
  last_change = small;
  minimum = aging-by (number PassMinDays settings) (has_option (codes "r") request)
      (minimum-days settings);
  maximum = aging-by (number PassMaxDays settings) (has_option (codes "r") request)
      (maximum-days settings);
  warning = aging-by (number PassWarnAge settings) (has_option (codes "r") request)
      (warning-days settings);
  inactive = field-kept IsDaysNumber days_value (codes "f") request None days-held tt;
  expiration = field-kept IsDaysNumber expiration_value (codes "e") request None expiration-held tt;
  rest = empty-field;
}

-- ---- useradd: the ranges

-- a range that is free can stand in a line
range-held :
    (request : Request) (ids : Subordinate) (start : ℕ)
    → UseraddPasses request
    → ids.maximum ≤ greatest_id
    → 0 < ids.count
    → free_start ids ≡ Some start
    → IsSubid (asked_range request start ids.count)
range-held request ids start passes small some found =
    let free = subst (λ choice. IsFreeRange ids.minimum ids.maximum ids.count
    ids.records choice) found
    (free_range-is ids.minimum ids.maximum ids.count some ids.records)
    in record {
      owner = valid-name (operand request) passes.name;
      some = some;
      last = le_trans free.member.not_above small;
    }

-- the new line of a range
start-written :
    (request : Request) (ids : Subordinate) (start : Option ℕ)
    → UseraddPasses request
    → ids.maximum ≤ greatest_id
    → 0 < ids.count
    → free_start ids ≡ start
    → AllByRecursion (IsWrittenEdit subid_format)
    (allotted request (elim start [ None ↦ Full | Some first ↦ Range first ids.count ]))
start-written request ids None passes small some found = tt
start-written request ids (Some start) passes small some found = (
  subid-holds.written (asked_range request start ids.count)
      (range-held request ids start passes small some found),
  tt,
)

-- a count that isn't 0
some-count : (count : ℕ) → not (count == 0) ≡ true → 0 < count
some-count zero e = cc
some-count (suc n) e = omega arith

-- a range where one is allotted
allotted-by :
    (request : Request) (uid : Option ℕ) (ids : Subordinate) (test : Bool)
    → is_allotted request uid ids ≡ test
    → UseraddPasses request
    → ids.maximum ≤ greatest_id
    → AllByRecursion (IsWrittenEdit subid_format) (allotted request (if test
    then elim (free_start ids) [ None ↦ Full | Some start ↦ Range start ids.count ]
    else Unwanted))
allotted-by request uid ids false is passes small = tt
allotted-by request uid ids true is passes small =
    start-written request ids (free_start ids) passes small
    (some-count ids.count (and_parts (is_some ids.bytes
    && not (list_any (is_owned (operand request) uid) ids.records)
    && may_have_ranges request) (not (ids.count == 0)) is).1)
    refl

-- the new line of a table of subordinate IDs
allotted-written :
    (request : Request) (uid : Option ℕ) (ids : Subordinate)
    → UseraddPasses request
    → ids.maximum ≤ greatest_id
    → AllByRecursion (IsWrittenEdit subid_format) (allotted request (allotment request uid ids))
allotted-written request uid ids passes small =
    allotted-by request uid ids (is_allotted request uid ids) refl passes small

-- ---- useradd: the edits

-- groups that are joined
joined-lawful :
    (day : ℕ) (named : Named) (user : List ℕ) (groups : List GroupRecord)
    → IsListed user
    → ((name : List ℕ) → is_listed name named.groups ≡ false
    → is_listed name (map (λ group. group.name) groups) ≡ false)
    → AllByRecursion (IsLawful day true false named)
    (map (λ group. add_to_group group.name user) groups)
joined-lawful day named user [] is has = tt
joined-lawful day named user (group ∷ groups) is has =
    let others = map (λ other. other.name) groups
    in (
      members-lawful named group.name
          (λ name none. not-this name group.name others (has name none)) (with_name user)
          (λ names. with-listed user names is),
      joined-lawful day named user groups is
          (λ name none. not-others name group.name others (has name none)),
    )

-- a new line of a range leaves all others
range-spares :
    (request : Request) (allotment : Allotment) (names : SubidRecord → Bool)
    → AllByRecursion (Spares subid_format false names) (allotted request allotment)
range-spares request Unwanted names = tt
range-spares request Full names = tt
range-spares request (Range first count) names = (tt, tt)

module _ (request : Request) (files : Files) (settings : List Setting) (day : ℕ) where
  -- what it names
  abbrev useradd_names : Named
  useradd_names = named_by Useradd request [] files

  -- what is planned
  abbrev plan : Plan
  plan = plan_of request files settings

  -- the lines of passwd and shadow
  user-lines-lawful :
      (uid gid : ℕ)
      → UseraddPasses request
      → uid ≤ greatest_id
      → gid ≤ greatest_id
      → IsLawful day true false useradd_names (record no_edits {
        passwd = Add (new_user request files uid gid) ∷ [];
        shadow = Put (new_shadow request settings day) ∷ [];
      })
  user-lines-lawful uid gid passes small_uid small_gid = record {
    written = record {
      passwd = (
        passwd-holds.written (new_user request files uid gid)
            (new-user-held request files uid gid passes small_uid small_gid),
        tt,
      );
      shadow = λ small. (
        shadow-holds.written (new_shadow request settings day)
            (new-shadow-held request settings day passes small),
        tt,
      );
      group = tt;
      gshadow = tt;
      subuid = tt;
      subgid = tt;
    };
    spares = users-spare _ _ (tt, tt)
        (other-shadow useradd_names (operand request) (first-has (operand request) []), tt);
    keep = may-give;
  }

  -- those of ranges
  range-lines-lawful :
      UseraddPasses request
      → IsLawful day true false useradd_names
      (record no_edits {
        subuid = allotted request plan.subuid;
        subgid = allotted request plan.subgid;
      })
  range-lines-lawful passes = lawful (record {
    passwd = tt;
    shadow = tt;
    group = tt;
    gshadow = tt;
    subuid = allotted-written request (new_uid request files settings)
        (subordinate_uids files settings) passes (subuid-maximum settings);
    subgid = allotted-written request (new_uid request files settings)
        (subordinate_gids files settings) passes (subgid-maximum settings);
  }) (record {
    passwd = tt;
    shadow = tt;
    group = tt;
    gshadow = tt;
    subuid = range-spares request plan.subuid _;
    subgid = range-spares request plan.subgid _;
  }) may-give

  -- a user of this UID and this GID
  add-user-lawful :
      (uid gid : ℕ)
      → UseraddPasses request
      → uid ≤ greatest_id
      → gid ≤ greatest_id
      → IsLawful day true false useradd_names
      (add_user request files plan (new_shadow request settings day) uid gid)
  add-user-lawful uid gid passes small_uid small_gid =
      let composed = lawful-composed useradd_names
      in let others = map (λ group. group.name) (given_groups request files)
      in all-hold composed (record no_edits {
        passwd = Add (new_user request files uid gid) ∷ [];
        shadow = Put (new_shadow request settings day) ∷ [];
      }
      ∷ add_own_group request files plan gid
      ∷ join_groups request files
      ∷ record no_edits {
        subuid = allotted request plan.subuid;
        subgid = allotted request plan.subgid;
      }
      ∷ []) (
        user-lines-lawful uid gid passes small_uid small_gid,
        (
          either-holds composed (makes_group request settings)
              (add_group (operand request) locked gid files) no_edits
              (lawful (add-group-written (operand request) locked gid files
              (valid-name (operand request) passes.name) locked-field small_gid)
              (new-group-spares useradd_names (operand request)
              (first-has (operand request) others) locked gid files) may-give)
              composed.none,
          (
            all-hold composed (map (λ group. add_to_group group.name (operand request))
                (given_groups request files))
                (joined-lawful day useradd_names (operand request) (given_groups request files)
                (valid-listed (operand request) passes.name)
                (λ name. not-others name (operand request) others)),
            (range-lines-lawful passes, tt),
          ),
        ),
      )

  -- a user, where there are a UID and a GID
  useradd-script-lawful :
      (uid gid : Option ℕ)
      → UseraddPasses request
      → ((n : ℕ) → uid ≡ Some n → n ≤ greatest_id)
      → ((n : ℕ) → gid ≡ Some n → n ≤ greatest_id)
      → IsLawful day true false useradd_names
      (useradd_script request files plan (new_shadow request settings day) uid gid)
  useradd-script-lawful None gid passes small_uid small_gid = (lawful-composed useradd_names).none
  useradd-script-lawful (Some uid) None passes small_uid small_gid =
      (lawful-composed useradd_names).none
  useradd-script-lawful (Some uid) (Some gid) passes small_uid small_gid =
      add-user-lawful uid gid passes (small_uid uid refl) (small_gid gid refl)

  -- useradd under settings
  useradd-under-lawful :
      first_some (useradd_under settings request files day).refusals ≡ None
      → IsLawful day true false useradd_names (useradd_under settings request files day).script
  useradd-under-lawful none =
      useradd-script-lawful (new_uid request files settings) (primary_gid request files settings)
      (useradd-passes request (useradd_conflicts request files plan) none)
      (new-uid-small request files settings) (primary-gid-small request files settings)

-- useradd adds a valid name with tested values and IDs
pub useradd-lawful : LawfulTool Useradd
useradd-lawful request input day files settings = quiet-act refl refl refl
    (useradd-under-lawful request files (settings_for request settings) day)
