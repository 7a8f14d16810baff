-- Claim: useradd gives a user ranges that meet none, a UID that no user has, but where `-o` names it, and a group with a
-- GID that no group has (`useradd-apart`). Way: a given UID that is in use is refused, and a chosen ID
-- isn't used; a range begins where it fits.
use Rattle.std.proofs.Common.{◌≡◌, zero, suc, ℕ, ◌+◌, ◌-◌, ◌<◌, Bool, true, false, not, ◌&&◌, List, [], ◌∷◌, ◌++◌, refl, sym, ◌∙◌, ap, subst, arith, append-nil}
use Rattle.std.specs.Prelude.{Option, Some, None, ◌==◌, codes, is_some, map, option_and_then, if◌then◌else◌}
use Rattle.std.specs.List.{AllByRecursion, list_any}
use Rattle.std.proofs.lemmas.Bool.{and_parts, eqb-true, true≢false}
use Rattle.acct_text.specs.declared.files.Files.{Files}
use Rattle.acct_text.proofs.NumberLaws.{some-inj}
use Rattle.account_model.specs.declared.settings.IdSort.TheVariants.{Uid, Gid}
use Rattle.account_model.specs.declared.new_user.Allotment.TheVariants.{Unwanted, Full, Range}
use Rattle.account_model.specs.declared.new_user.Plan.{Plan}
use Rattle.account_model.specs.declared.records.GroupRecord.{GroupRecord}
use Rattle.account_model.specs.declared.refusal.Refusal.TheVariants.{UidInUse}
use Rattle.account_model.specs.declared.tool.Tool.TheVariants.{Useradd}
use Rattle.account_model.specs.Text.{first_some}
use Rattle.account_model.specs.Edits.Edit.{Add}
use Rattle.account_model.specs.Records.{passwd_format, group_format, subid_format}
use Rattle.account_model.specs.Tables.{Script, no_edits, passwd_records, group_records}
use Rattle.account_model.specs.Settings.{Setting, range}
use Rattle.account_model.specs.Ids.{used_uids, used_gids, is_used}
use Rattle.account_model.specs.FreeRange.{IsFreeRange}
use Rattle.account_model.specs.GivenGroups.{given_groups}
use Rattle.account_model.specs.Hashes.{elsewhere, locked}
use Rattle.account_model.specs.Members.{add_to_group}
use Rattle.account_model.specs.Values.{given_uid}
use Rattle.account_model.specs.Request.{Request, has_option, operand}
use Rattle.account_model.specs.Refusals.{refuse_if}
use Rattle.account_model.specs.NewAccount.{kind_of, settings_for, free_uid, free_gid, new_group, add_group}
use Rattle.account_model.specs.NewRanges.{Subordinate, subordinate_uids, subordinate_gids, may_have_ranges, is_allotted, free_start, asked_range, allotment, allotted}
use Rattle.account_model.specs.SubidOwner.{is_owned}
use Rattle.account_model.specs.Useradd.{makes_group, new_uid, gid_beside, own_gid, primary_gid, used_uid, useradd_checks, useradd_conflicts, new_user, new_shadow, plan_of, add_own_group, join_groups, useradd_script, useradd_under, useradd}
use Rattle.account_model.proofs.FreeRangeLaws.{free_range-is}
use Rattle.account_model.proofs.ListLaws.{all-append}
use Rattle.ids_apart.specs.Holders.{range_has, gives_id, shares_uid_by}
use Rattle.ids_apart.proofs.Counts.{push-meets}
use Rattle.ids_apart.proofs.HolderEdits.{AddsNone, EditsMeetNoMore, behind-meets, none-meets}
use Rattle.ids_apart.proofs.Keys.{KeepsKeys, all-keys-keep, has_key}
use Rattle.ids_apart.proofs.Numbers.{number-in, unmet-count}
use Rattle.ids_apart.proofs.Shared.{unshared}
use Rattle.ids_apart.proofs.Kept.{uid_key, gid_key, KeepsApart, stays-table, kept-apart}
use Rattle.ids_apart.proofs.Refusals.{behind-none}
use Rattle.ids_apart.proofs.Unused.{chosen-unused, refuse-fails, push-keeps}
use Rattle.account_model.proofs.ComposedScripts.{all-hold, either-holds}
use Rattle.account_model.proofs.KeptIds.{keep-composed}
use Rattle.ids_apart.proofs.Quiet.{LeavesRanges, IsQuiet, leaves-composed, quiet-composed, add-to-group-quiet}

-- ---- The ranges

-- a range that fits meets none of those of the file
start-stays :
    (number : ℕ) (request : Request) (ids : Subordinate) (start : Option ℕ)
    → 0 < ids.count
    → free_start ids ≡ start
    → EditsMeetNoMore subid_format (range_has number) ids.records
    (allotted request (elim start [ None ↦ Full | Some first ↦ Range first ids.count ]))
start-stays number request ids None some found =
    none-meets subid_format (range_has number) [] tt ids.records
start-stays number request ids (Some start) some found =
    let free = subst
    (λ choice. IsFreeRange ids.minimum ids.maximum ids.count ids.records choice) found
    (free_range-is ids.minimum ids.maximum ids.count some ids.records)
    in push-meets (range_has number) ids.records (asked_range request start ids.count)
    (λ has. let is = number-in number (asked_range request start ids.count) has
    in unmet-count number start (start + ids.count - 1) ids.records is.0 is.1 free.member.apart)

-- a count that isn't 0
some-count : (count : ℕ) → not (count == 0) ≡ true → 0 < count
some-count zero e = cc
some-count (suc n) e = omega arith

-- a range, where one is allotted
allotted-by :
    (number : ℕ) (request : Request) (uid : Option ℕ) (ids : Subordinate) (test : Bool)
    → is_allotted request uid ids ≡ test
    → EditsMeetNoMore subid_format (range_has number) ids.records (allotted request (if test
    then elim (free_start ids) [ None ↦ Full | Some start ↦ Range start ids.count ]
    else Unwanted))
allotted-by number request uid ids false is =
    none-meets subid_format (range_has number) [] tt ids.records
allotted-by number request uid ids true is =
    start-stays number request ids (free_start ids)
    (some-count ids.count
    (and_parts (is_some ids.bytes && not (list_any (is_owned (operand request) uid) ids.records)
    && may_have_ranges request) (not (ids.count == 0)) is).1)
    refl

-- the new range of a table meets none
allotted-stays :
    (number : ℕ) (request : Request) (uid : Option ℕ) (ids : Subordinate)
    → EditsMeetNoMore subid_format (range_has number) ids.records
    (allotted request (allotment request uid ids))
allotted-stays number request uid ids =
    allotted-by number request uid ids (is_allotted request uid ids) refl

-- ---- The other edits

-- the user joins groups
joined-quiet :
    (user : List ℕ) (groups : List GroupRecord)
    → AllByRecursion IsQuiet (map (λ group. add_to_group group.name user) groups)
joined-quiet user [] = tt
joined-quiet user (group ∷ groups) =
    (add-to-group-quiet group.name user, joined-quiet user groups)

join-quiet : (request : Request) (files : Files) → IsQuiet (join_groups request files)
join-quiet request files =
    all-hold quiet-composed (map (λ group. add_to_group group.name (operand request))
    (given_groups request files))
    (joined-quiet (operand request) (given_groups request files))

-- edits of ranges behind those of other scripts
ranges-behind :
    {X : Type 0} (own join ranges : List X)
    → own ≡ []
    → join ≡ []
    → own ++ (join ++ (ranges ++ [])) ≡ ranges
ranges-behind own join ranges no_own no_join =
    ap (λ front. front ++ (join ++ (ranges ++ []))) no_own
    ∙ ap (λ front. front ++ (ranges ++ [])) no_join
    ∙ append-nil ranges

-- ---- The IDs

-- the edits of passwd by the own group
own-users :
    (own : Script) (makes : Bool)
    → own.passwd ≡ []
    → AllByRecursion (KeepsKeys passwd_format uid_key) (if makes then own else no_edits).passwd
own-users own true none =
    subst (AllByRecursion (KeepsKeys passwd_format uid_key)) (sym none) tt
own-users own false none = tt

module _ (request : Request) (files : Files) (settings : List Setting) where
  -- a chosen UID isn't used
  free-unused :
      (uid : ℕ)
      → free_uid (kind_of request) files settings ≡ Some uid
      → is_used (used_uids files) uid ≡ false
  free-unused uid e =
      chosen-unused (kind_of request) (range Uid (kind_of request) settings) (used_uids files) uid e

  -- the new UID isn't used, by the one that is given
  uid-by :
      (uid : ℕ) (given : Option ℕ) (with_o : Bool)
      → (with_o && gives_id uid given) ≡ false
      → (if with_o
      then None
      else option_and_then (λ n. refuse_if (is_used (used_uids files) n) (UidInUse n)) given) ≡ None
      → elim given as (λ n. Option ℕ) [
        | Some n ↦ Some n
        | None ↦ free_uid (kind_of request) files settings
      ] ≡ Some uid
      → is_used (used_uids files) uid ≡ false
  uid-by uid (Some n) true shared none e =
      absurd (true≢false (unshared true n uid (some-inj e) shared))
  uid-by uid None with_o shared none e = free-unused uid e
  uid-by uid (Some n) false shared none e = subst (λ id. is_used (used_uids files) id ≡ false)
      (some-inj e) (refuse-fails (is_used (used_uids files) n) (UidInUse n) none)

  -- the new UID isn't used
  uid-unused :
      (uid : ℕ)
      → used_uid request files ≡ None
      → new_uid request files settings ≡ Some uid
      → shares_uid_by Useradd uid request ≡ false
      → is_used (used_uids files) uid ≡ false
  uid-unused uid none e shares =
      uid-by uid (given_uid request) (has_option (codes "o") request) shares none e

-- the GID of a user's own group isn't used, by whether its UID is one
gid-by :
    (request : Request) (files : Files) (settings : List Setting) (uid gid : ℕ) (taken : Bool)
    → is_used (used_gids files) uid ≡ taken
    → (if taken then free_gid (kind_of request) files settings else Some uid) ≡ Some gid
    → is_used (used_gids files) gid ≡ false
gid-by request files settings uid gid true is e =
    chosen-unused (kind_of request) (range Gid (kind_of request) settings) (used_gids files) gid e
gid-by request files settings uid gid false is e =
    subst (λ id. is_used (used_gids files) id ≡ false) (some-inj e) is

-- so it is for any UID that there is
own-gid-by :
    (request : Request) (files : Files) (settings : List Setting) (gid : ℕ) (uid : Option ℕ)
    → option_and_then (gid_beside request files settings) uid ≡ Some gid
    → is_used (used_gids files) gid ≡ false
own-gid-by request files settings gid None e = cc
own-gid-by request files settings gid (Some uid) e =
    gid-by request files settings uid gid (is_used (used_gids files) uid) refl e

-- where a group is made, its GID isn't used
primary-by :
    (request : Request) (files : Files) (settings : List Setting) (gid other : ℕ) (makes : Bool)
    → makes ≡ true
    → (if makes then own_gid request files settings else Some other) ≡ Some gid
    → is_used (used_gids files) gid ≡ false
primary-by request files settings gid other true is e =
    own-gid-by request files settings gid (new_uid request files settings) e
primary-by request files settings gid other false is e = cc

module _ (request : Request) (files : Files) (settings : List Setting) (day uid gid : ℕ) where
  -- what the user is to get
  abbrev plan : Plan
  plan = plan_of request files settings

  -- the user's own group, where one is made
  abbrev own : Script
  own = add_own_group request files plan gid

  -- the groups that the user joins
  abbrev join : Script
  join = join_groups request files

  -- all edits
  abbrev edits : Script
  edits = useradd_script request files plan (new_shadow request settings day) (Some uid) (Some gid)

  -- the own group leaves ranges
  own-ranges : LeavesRanges own
  own-ranges = either-holds leaves-composed (makes_group request settings)
      (add_group (operand request) locked gid files) no_edits
      (record { subuid = refl; subgid = refl }) leaves-composed.none

  -- the users, with one more
  add-users :
      (id : ℕ)
      → ((uid == id) ≡ true → is_used (used_uids files) id ≡ false)
      → EditsMeetNoMore passwd_format (has_key uid_key id) (passwd_records files)
      (Add (new_user request files uid gid) ∷ (own.passwd ++ (join.passwd ++ [])))
  add-users id unused =
      let rest = all-append (KeepsKeys passwd_format uid_key) own.passwd (join.passwd ++ [])
      (own-users (add_group (operand request) locked gid files) (makes_group request settings) refl)
      (all-append (KeepsKeys passwd_format uid_key) join.passwd []
      (join-quiet request files).passwd tt)
      in behind-meets passwd_format (has_key uid_key id) (own.passwd ++ (join.passwd ++ []))
      (passwd_records files) (passwd_records files ++ new_user request files uid gid ∷ [])
      (all-keys-keep passwd_format uid_key id (own.passwd ++ (join.passwd ++ [])) rest)
      (push-keeps uid_key id (new_user request files uid gid) (passwd_records files) unused)

  -- the edits of group behind the own group's
  join-keeps :
      (id : ℕ) → AllByRecursion (AddsNone group_format (has_key gid_key id)) (join.group ++ [])
  join-keeps id = all-keys-keep group_format gid_key id (join.group ++ [])
      (all-append (KeepsKeys group_format gid_key) join.group []
      (join-quiet request files).group tt)

  -- the groups, with one more where it is made
  add-groups :
      (id : ℕ) (makes : Bool)
      → (makes ≡ true → (gid == id) ≡ true → is_used (used_gids files) id ≡ false)
      → EditsMeetNoMore group_format (has_key gid_key id) (group_records files)
      ((if makes then add_group (operand request) locked gid files else no_edits).group
      ++ (join.group ++ []))
  add-groups id true unused =
      let new = new_group (operand request)
      (if is_some files.gshadow then elsewhere else locked) gid
      in behind-meets group_format (has_key gid_key id) (join.group ++ []) (group_records files)
      (group_records files ++ new ∷ []) (join-keeps id)
      (push-keeps gid_key id new (group_records files) (unused refl))
  add-groups id false unused =
      none-meets group_format (has_key gid_key id) (join.group ++ []) (join-keeps id)
      (group_records files)

  -- a user of an unused UID, with a group of an unused GID
  add-apart :
      (shares_uid_by Useradd uid request ≡ false → is_used (used_uids files) uid ≡ false)
      → (makes_group request settings ≡ true → is_used (used_gids files) gid ≡ false)
      → KeepsApart Useradd request files edits
  add-apart unused_uid unused_gid = record {
    uids = λ id shares. stays-table passwd_format (has_key uid_key id) files.passwd
        (Add (new_user request files uid gid) ∷ (own.passwd ++ (join.passwd ++ [])))
        (add-users id (λ has. let same = eqb-true uid id has
        in subst (λ n. is_used (used_uids files) n ≡ false) same
        (unused_uid (subst (λ n. shares_uid_by Useradd n request ≡ false) (sym same) shares))));
    gids = λ id shares. stays-table group_format (has_key gid_key id) files.group
        (own.group ++ (join.group ++ []))
        (add-groups id (makes_group request settings)
        (λ makes has. subst (λ n. is_used (used_gids files) n ≡ false) (eqb-true gid id has)
        (unused_gid makes)));
    subuids = λ n. stays-table subid_format (range_has n) files.subuid
        (own.subuid ++ (join.subuid ++ (allotted request plan.subuid ++ [])))
        (subst
        (EditsMeetNoMore subid_format (range_has n) (subordinate_uids files settings).records)
        (sym (ranges-behind own.subuid join.subuid (allotted request plan.subuid)
        own-ranges.subuid (join-quiet request files).ranges.subuid))
        (allotted-stays n request plan.uid (subordinate_uids files settings)));
    subgids = λ n. stays-table subid_format (range_has n) files.subgid
        (own.subgid ++ (join.subgid ++ (allotted request plan.subgid ++ [])))
        (subst
        (EditsMeetNoMore subid_format (range_has n) (subordinate_gids files settings).records)
        (sym (ranges-behind own.subgid join.subgid (allotted request plan.subgid)
        own-ranges.subgid (join-quiet request files).ranges.subgid))
        (allotted-stays n request plan.uid (subordinate_gids files settings)));
  }

-- ---- The whole

-- by the IDs that there are
script-apart :
    (request : Request) (files : Files) (settings : List Setting) (day : ℕ) (uid gid : Option ℕ)
    → ((id : ℕ) → uid ≡ Some id → shares_uid_by Useradd id request ≡ false
    → is_used (used_uids files) id ≡ false)
    → ((id : ℕ) → gid ≡ Some id → makes_group request settings ≡ true
    → is_used (used_gids files) id ≡ false)
    → KeepsApart Useradd request files (useradd_script request files
    (plan_of request files settings)
    (new_shadow request settings day) uid gid)
script-apart request files settings day None gid unused_uid unused_gid =
    kept-apart keep-composed.none
script-apart request files settings day (Some uid) None unused_uid unused_gid =
    kept-apart keep-composed.none
script-apart request files settings day (Some uid) (Some gid) unused_uid unused_gid =
    add-apart request files settings day uid gid (unused_uid uid refl) (unused_gid gid refl)

-- useradd under settings
under-apart :
    (settings : List Setting) (request : Request) (files : Files) (day : ℕ)
    → first_some (useradd_under settings request files day).refusals ≡ None
    → KeepsApart Useradd request files (useradd_under settings request files day).script
under-apart settings request files day none =
    let passed = behind-none (useradd_checks request)
    (useradd_conflicts request files (plan_of request files settings)) none
    in script-apart request files settings day (new_uid request files settings)
    (primary_gid request files settings)
    (λ id e shares. uid-unused request files settings id passed.1.1.1.1.0 e shares)
    (λ id e makes. primary-by request files settings id _ (makes_group request settings) makes e)

-- useradd gives no UID to one more user, but where `-o` names it, no GID to one more group, and keeps ranges apart
pub useradd-apart :
    (request : Request) (files : Files) (settings : List Setting) (day : ℕ)
    → first_some (useradd request files settings day).refusals ≡ None
    → KeepsApart Useradd request files (useradd request files settings day).script
useradd-apart request files settings day none =
    under-apart (settings_for request settings) request files day none
