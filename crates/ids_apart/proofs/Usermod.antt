-- Claim: usermod keeps ranges apart, and gives no UID to one more user, but where `-o` names it
-- (`usermod-apart`). Way: the hash comes first and keeps all; a UID of `-u` that another user has is refused, and so is a user whose name
-- stands twice.
use Rattle.std.proofs.Common.{◌≡◌, ℕ, Bool, true, false, not, ◌&&◌, ◌||◌, List, [], ◌∷◌, ◌++◌, refl, sym, ap, subst, inl, inr}
use Rattle.std.specs.Prelude.{◌⊎◌, Option, Some, None, ◌==◌, codes, option_map, option_and_then, unwrap_or, if◌then◌else◌}
use Rattle.std.specs.List.{AllByRecursion}
use Rattle.std.proofs.lemmas.Bool.{eqb-true}
use Rattle.acct_text.specs.declared.files.Files.{Files}
use Rattle.acct_text.specs.declared.Tab.TheVariants.{Passwd, Subuid, Subgid}
use Rattle.account_model.specs.declared.records.PasswdRecord.{PasswdRecord}
use Rattle.account_model.specs.declared.refusal.Refusal.TheVariants.{UidInUse, Multiple}
use Rattle.account_model.specs.declared.tool.Tool.TheVariants.{Usermod}
use Rattle.account_model.specs.Text.{first_some}
use Rattle.account_model.specs.Format.{is_named}
use Rattle.account_model.specs.Edits.{Edit, each_where, edit_if, first_multiple}
use Rattle.account_model.specs.Records.{passwd_format, group_format, subid_format}
use Rattle.account_model.specs.RecordEdits.{IsWrittenEdit}
use Rattle.account_model.specs.Tables.{no_edits, passwd_records}
use Rattle.account_model.specs.Ids.{used_uids, is_used}
use Rattle.account_model.specs.Hashes.{demand_shadow, each_user_hash}
use Rattle.account_model.specs.Users.{find_user}
use Rattle.account_model.specs.Values.{given_uid}
use Rattle.account_model.specs.Request.{Request, has_option, values_of, operand}
use Rattle.account_model.specs.Refusals.{refuse_if}
use Rattle.account_model.specs.Action.{multiple_in, multiple_entries}
use Rattle.account_model.specs.UsermodHash.{sets_hash, sets_aging, hash_after, hash_script}
use Rattle.account_model.specs.UsermodRanges.{range_edits}
use Rattle.account_model.specs.Usermod.{changed_user, changed_group, sets_passwd, sets_lists, range_owner, subuid_change, subgid_change, is_own_uid, is_uid_taken, usermod_checks, usermod_conflicts, usermod_script, usermod}
use Rattle.account_model.proofs.SameLaws.{passwd-tells}
use Rattle.account_model.proofs.UsermodRangeScripts.{values-ordered, added-ordered}
use Rattle.account_model.proofs.ListLaws.{all-append, all-if}
use Rattle.ids_apart.specs.Holders.{range_has, gives_id}
use Rattle.account_model.proofs.ComposedScripts.{all-hold, either-holds}
use Rattle.ids_apart.proofs.HolderEdits.{AddsNone, EditsMeetNoMore, none-meets}
use Rattle.ids_apart.proofs.Keys.{has_key, each-keep, where-keep, all-keys-keep}
use Rattle.ids_apart.proofs.Kept.{uid_key, gid_key, TableStays, KeepsApart, stays-table, few-table}
use Rattle.ids_apart.proofs.NewKeys.{IsFreeKey, set-meets}
use Rattle.ids_apart.proofs.Refusals.{all-none, behind-none, map-none}
use Rattle.ids_apart.proofs.Shared.{unshared}
use Rattle.ids_apart.proofs.Unused.{refuse-fails, unused-count}
use Rattle.ids_apart.proofs.Quiet.{IsQuiet, quiet-composed, demand-shadow-quiet, user-hash-quiet}
use Rattle.ids_apart.proofs.UsermodRanges.{ranges-stay}

-- the hash keeps names and IDs
hash-quiet : (request : Request) (files : Files) → IsQuiet (hash_script request files)
hash-quiet request files = all-hold quiet-composed
    ((if sets_hash request || sets_aging request
    then demand_shadow (operand request) files
    else no_edits)
    ∷ (if sets_hash request
    then each_user_hash (operand request) (hash_after request) files
    else no_edits)
    ∷ []) (
      either-holds quiet-composed (sets_hash request || sets_aging request)
          (demand_shadow (operand request) files) no_edits
          (demand-shadow-quiet (operand request) files) quiet-composed.none,
      (
        either-holds quiet-composed (sets_hash request)
            (each_user_hash (operand request) (hash_after request) files) no_edits
            (user-hash-quiet (operand request) (hash_after request) files) quiet-composed.none,
        tt,
      ),
    )

-- ---- The ranges

-- edits of ranges behind those of the hash
ranges-behind :
    {X : Type 0} (hash ranges : List X)
    → hash ≡ []
    → hash ++ ranges ≡ ranges
ranges-behind hash ranges none = ap (λ front. front ++ ranges) none

-- ---- The IDs

-- the user has the UID, by the record that is found
own-by :
    (uid : ℕ) (found : Option PasswdRecord)
    → elim (option_map (λ (user : PasswdRecord). user.uid) found) as (λ n. Bool) [
      | None ↦ false
      | Some own ↦ uid == own
    ] ≡ true
    → (own : PasswdRecord) × (found ≡ Some own) × (uid_key own ≡ uid)
own-by uid None e = absurd (cc)
own-by uid (Some own) e = (own, refl, sym (eqb-true uid own.uid e))

-- a UID that isn't taken is nobody's or the user's, where none is shared
untaken-by :
    (used with_o own : Bool)
    → with_o ≡ false
    → (used && not with_o && not own) ≡ false
    → (used ≡ false) ⊎ (own ≡ true)
untaken-by false with_o own shares e = inl refl
untaken-by true true own shares e = absurd (cc)
untaken-by true false true shares e = inr refl
untaken-by true false false shares e = absurd (cc)

-- a UID that isn't refused is free
free-by :
    (request : Request) (files : Files) (uid : ℕ)
    → has_option (codes "o") request ≡ false
    → refuse_if (is_uid_taken request files uid) (UidInUse uid) ≡ None
    → IsFreeKey uid_key (is_named passwd_format (operand request)) uid (passwd_records files)
free-by request files uid shares none =
    elim (untaken-by (is_used (used_uids files) uid) (has_option (codes "o") request)
    (is_own_uid request files uid) shares
    (refuse-fails (is_uid_taken request files uid) (UidInUse uid) none)) [
      | inl unused ↦ inl (unused-count uid_key uid (passwd_records files) unused)
      | inr own ↦ inr (own-by uid (find_user (operand request) files) own)
    ]

module _ (request : Request) (files : Files) where
  -- the edits of passwd, where an option sets a field there or none does
  abbrev passwd_edits : Bool → List (Edit PasswdRecord)
  passwd_edits sets = (hash_script request files).passwd ++ edit_if sets
      (each_where (is_named passwd_format (operand request)) (changed_user request files))

  -- edits that keep the UIDs, behind those of the hash
  kept-users :
      (id : ℕ) (edits : List (Edit PasswdRecord))
      → AllByRecursion (AddsNone passwd_format (has_key uid_key id)) edits
      → EditsMeetNoMore passwd_format (has_key uid_key id) (passwd_records files)
      ((hash_script request files).passwd ++ edits)
  kept-users id edits keep = none-meets passwd_format (has_key uid_key id)
      ((hash_script request files).passwd ++ edits)
      (all-append (AddsNone passwd_format (has_key uid_key id)) (hash_script request files).passwd
      edits
      (all-keys-keep passwd_format uid_key id (hash_script request files).passwd
      (hash-quiet request files).passwd) keep)
      (passwd_records files)

  -- the users, by the UID that is given
  users-by :
      (id : ℕ) (sets : Bool) (given : Option ℕ)
      → given_uid request ≡ given
      → (has_option (codes "o") request && gives_id id given) ≡ false
      → option_and_then (λ uid. refuse_if (is_uid_taken request files uid) (UidInUse uid)) given
      ≡ None
      → first_multiple passwd_format (passwd_edits sets) (passwd_records files) ≡ None
      → EditsMeetNoMore passwd_format (has_key uid_key id) (passwd_records files)
      (passwd_edits sets)
  users-by id false given is shares none single = kept-users id [] tt
  users-by id true None is shares none single = kept-users id _ (
    where-keep passwd_format uid_key id (is_named passwd_format (operand request))
        (changed_user request files) (λ r. ap (λ uid. unwrap_or uid r.uid) is),
    tt,
  )
  users-by id true (Some uid) is shares none single =
      set-meets passwd_format passwd-tells uid_key (operand request) uid
      (changed_user request files)
      (λ r. ap (λ new. unwrap_or new r.uid) is)
      (hash_script request files).passwd [] (hash-quiet request files).passwd id
      (passwd_records files)
      (λ same. free-by request files uid
      (unshared (has_option (codes "o") request) uid id same shares) none)
      single tt

  -- the groups keep their GIDs
  kept-groups :
      (id : ℕ)
      → AllByRecursion (AddsNone group_format (has_key gid_key id))
      (usermod_script request files 0).group
  kept-groups id = all-append (AddsNone group_format (has_key gid_key id))
      (hash_script request files).group _
      (all-keys-keep group_format gid_key id (hash_script request files).group
      (hash-quiet request files).group)
      (all-if _ (sets_lists request) _
      (each-keep group_format gid_key id (changed_group request files) (λ r. refl)))

-- usermod gives no UID to one more user, but where `-o` names it, leaves GIDs, and keeps ranges apart
pub usermod-apart :
    (request : Request) (files : Files) (day : ℕ)
    → first_some (usermod request files day).refusals ≡ None
    → multiple_entries (usermod request files day).script files ≡ None
    → AllByRecursion (IsWrittenEdit subid_format) (usermod request files day).script.subuid
    → AllByRecursion (IsWrittenEdit subid_format) (usermod request files day).script.subgid
    → KeepsApart Usermod request files (usermod request files day).script
usermod-apart request files day none multiple written_uids written_gids =
    let passed = behind-none (usermod_checks request) (usermod_conflicts request files) none
    in let single = all-none
    (multiple_in Passwd passwd_format (usermod request files day).script.passwd
    (passwd_records files)
    ∷ _ ∷ _ ∷ _ ∷ []) multiple
    in let owner = range_owner request files
    in let leaves = (hash-quiet request files).ranges
    in let uids = ranges-behind (hash_script request files).subuid
    (range_edits owner (subuid_change request files))
    leaves.subuid
    in let gids = ranges-behind (hash_script request files).subgid
    (range_edits owner (subgid_change request files))
    leaves.subgid
    in record {
      uids = λ uid shares. stays-table passwd_format (has_key uid_key uid) files.passwd
          (usermod request files day).script.passwd
          (users-by request files uid (sets_passwd request) (given_uid request) refl shares
          passed.1.1.0
          (map-none (λ name. Multiple Passwd name) _ single.0));
      gids = λ gid shares. few-table group_format (has_key gid_key gid) files.group
          (usermod request files day).script.group
          (kept-groups request files gid);
      subuids = λ n. subst (TableStays subid_format (range_has n) files.subuid) (sym uids)
          (ranges-stay n Subuid owner (subuid_change request files) files.subuid
          (values-ordered (values_of (codes "V") request))
          (added-ordered files.subuid owner (codes "V") (codes "v") request)
          (subst (AllByRecursion (IsWrittenEdit subid_format)) uids written_uids)
          passed.1.1.1.1.1.1.0);
      subgids = λ n. subst (TableStays subid_format (range_has n) files.subgid) (sym gids)
          (ranges-stay n Subgid owner (subgid_change request files) files.subgid
          (values-ordered (values_of (codes "W") request))
          (added-ordered files.subgid owner (codes "W") (codes "w") request)
          (subst (AllByRecursion (IsWrittenEdit subid_format)) gids written_gids)
          passed.1.1.1.1.1.1.1.0);
    }
