-- Claim: groupmod leaves ranges and UIDs, and gives no GID to one more group, but where `-o` names it
-- (`groupmod-apart`). Way: a GID of `-g` that another group has is refused, and so is a group whose name stands twice.
use Rattle.std.proofs.Common.{◌≡◌, ℕ, Bool, false, not, ◌&&◌, List, [], ◌∷◌, ◌++◌, refl, sym, subst, inl, inr}
use Rattle.std.specs.Prelude.{Option, Some, None, ◌==◌, codes, option_and_then, if◌then◌else◌}
use Rattle.std.specs.List.{AllByRecursion}
use Rattle.std.proofs.lemmas.Bool.{and_cases, eqb-true, not-false}
use Rattle.acct_text.specs.declared.files.Files.{Files}
use Rattle.acct_text.specs.declared.Tab.TheVariants.{Passwd, Shadow, Group}
use Rattle.account_model.specs.declared.records.GroupRecord.{GroupRecord}
use Rattle.account_model.specs.declared.refusal.Refusal.{Refusal}
use Rattle.account_model.specs.declared.refusal.Refusal.TheVariants.{GidInUse, Multiple}
use Rattle.account_model.specs.declared.tool.Tool.TheVariants.{Groupmod}
use Rattle.account_model.specs.Text.{first_some}
use Rattle.account_model.specs.Format.{is_named}
use Rattle.account_model.specs.Edits.{Edit, first_multiple}
use Rattle.account_model.specs.Records.{passwd_format, shadow_format, group_format, subid_format}
use Rattle.account_model.specs.Tables.{Script, no_edits, passwd_records, shadow_records, group_records}
use Rattle.account_model.specs.Ids.{used_gids, is_used}
use Rattle.account_model.specs.Hashes.{set_group_hash}
use Rattle.account_model.specs.Users.{group_named}
use Rattle.account_model.specs.Values.{given_gid}
use Rattle.account_model.specs.Request.{Request, has_option, value_of, operand}
use Rattle.account_model.specs.Action.{with_option, multiple_in, multiple_entries}
use Rattle.account_model.specs.Groupmod.{taken_gid, groupmod_refusals, set_gid, rename_group, groupmod_script, groupmod}
use Rattle.account_model.proofs.SameLaws.{group-tells}
use Rattle.account_model.proofs.ListLaws.{all-append}
use Rattle.ids_apart.specs.Holders.{range_has, gives_id}
use Rattle.ids_apart.proofs.HolderEdits.{AddsNone, EditsMeetNoMore, none-meets}
use Rattle.ids_apart.proofs.Keys.{has_key, KeepsKeys, where-keys, where-keep, all-keys-keep}
use Rattle.ids_apart.proofs.Kept.{uid_key, gid_key, KeepsApart, stays-table, few-table}
use Rattle.ids_apart.proofs.NewKeys.{IsFreeKey, set-meets}
use Rattle.ids_apart.proofs.Refusals.{all-none, map-none}
use Rattle.ids_apart.proofs.Shared.{unshared}
use Rattle.ids_apart.proofs.Unused.{refuse-fails, unused-count}
use Rattle.account_model.proofs.ComposedScripts.{IsComposed, all-hold, option-holds, some-holds}
use Rattle.ids_apart.proofs.Quiet.{LeavesRanges, IsQuiet, leaves-composed, leaves-none, quiet-composed, group-hash-quiet}

-- ---- The parts of the script

-- the hash of `-p`
abbrev hash_part : List ℕ → Request → Files → Script
hash_part group request files =
    with_option (codes "p") request (λ hash. set_group_hash group hash files)

-- it keeps names and IDs
hash-quiet : (group : List ℕ) (request : Request) (files : Files)
    → IsQuiet (hash_part group request files)
hash-quiet group request files =
    option-holds quiet-composed (codes "p") request (λ hash. set_group_hash group hash files)
    (λ hash given. group-hash-quiet group hash files)

-- the GID, by the one that is given and the group that is found
abbrev gid_part : List ℕ → Option ℕ → Option GroupRecord → Script
gid_part group given found = elim given as (λ n. Script) [
  | None ↦ no_edits
  | Some gid ↦ elim found as (λ r. Script) [ None ↦ no_edits | Some old ↦ set_gid group gid old ]
]

-- the name, by the one that is given
abbrev name_part : List ℕ → Option (List ℕ) → Script
name_part group given =
    elim given as (λ n. Script) [ None ↦ no_edits | Some name ↦ rename_group group name ]

-- it keeps the GID of the group that it renames
name-groups :
    (group : List ℕ) (given : Option (List ℕ)) (id : ℕ)
    → AllByRecursion (AddsNone group_format (has_key gid_key id)) (name_part group given).group
name-groups group None id = tt
name-groups group (Some name) id = (
  where-keep group_format gid_key id (is_named group_format group) (λ r. record r { name = name })
      (λ r. refl),
  tt,
)

-- ---- The users and the ranges

-- users keep their names and UIDs, and ranges are left
record LeavesOthers (script : Script) : Type 0 where
  users : AllByRecursion (KeepsKeys passwd_format uid_key) script.passwd
  ranges : LeavesRanges script

-- so it is of no edits, and of two scripts
others-composed : IsComposed LeavesOthers
others-composed = record {
  none = record { users = tt; ranges = leaves-composed.none };
  both = λ first second one other. record {
    users = all-append _ first.passwd second.passwd one.users other.users;
    ranges = leaves-composed.both first second one.ranges other.ranges;
  };
}

-- groupmod leaves them: users of the old GID get the new one, and keep their UIDs
script-leaves :
    (group : List ℕ) (request : Request) (files : Files)
    → LeavesOthers (groupmod_script group request files)
script-leaves group request files =
    let quiet = hash-quiet group request files
    in let named = group_named group files
    in all-hold others-composed (hash_part group request files
    ∷ gid_part group (given_gid request) named
    ∷ name_part group (value_of (codes "n") request)
    ∷ []) (
      record { users = quiet.passwd; ranges = quiet.ranges },
      (
        some-holds others-composed
            (λ gid. elim named [ None ↦ no_edits | Some old ↦ set_gid group gid old ])
            (given_gid request)
            (λ gid is. some-holds others-composed (set_gid group gid) named (λ old found. record {
              users = (
                where-keys passwd_format uid_key (λ user. user.gid == old.gid)
                    (λ user. record user { gid = gid }) (λ r. refl) (λ r. refl),
                tt,
              );
              ranges = record { subuid = refl; subgid = refl };
            })),
        (
          some-holds others-composed (rename_group group) (value_of (codes "n") request)
              (λ name is. record { users = tt; ranges = record { subuid = refl; subgid = refl } }),
          tt,
        ),
      ),
    )

-- ---- The IDs

-- what the parts make of a table
abbrev in_turn : {X : Type 0} → List X → List X → List X → List X
in_turn first second third = first ++ (second ++ (third ++ []))

-- three lists together
all-turns :
    {X : Type 0} (P : X → Type 0) (first second third : List X)
    → AllByRecursion P first
    → AllByRecursion P second
    → AllByRecursion P third
    → AllByRecursion P (in_turn first second third)
all-turns P first second third one two three =
    all-append P first (second ++ (third ++ [])) one
    (all-append P second (third ++ []) two (all-append P third [] three tt))

-- a GID that is the group's, or nobody's
free-by :
    (files : Files) (group : List ℕ) (gid : ℕ) (old : GroupRecord)
    → group_named group files ≡ Some old
    → taken_gid files gid old ≡ None
    → IsFreeKey gid_key (is_named group_format group) gid (group_records files)
free-by files group gid old found none =
    elim (and_cases (not (gid == old.gid)) (is_used (used_gids files) gid)
    (refuse-fails (not (gid == old.gid) && is_used (used_gids files) gid) (GidInUse gid) none)) [
      | inl same ↦ inr (old, found, sym (eqb-true gid old.gid (not-false (gid == old.gid) same)))
      | inr unused ↦ inl (unused-count gid_key gid (group_records files) unused)
    ]

-- the refusal of a GID that is another group's, by what is given and found
abbrev used_by : Files → Bool → Option ℕ → Option GroupRecord → Option Refusal
used_by files with_o given found = if with_o
    then None
    else option_and_then (λ gid. option_and_then (taken_gid files gid) found) given

module _ (group : List ℕ) (request : Request) (files : Files) where
  -- the parts for group
  abbrev hash_edits : List (Edit GroupRecord)
  hash_edits = (hash_part group request files).group

  abbrev name_edits : List (Edit GroupRecord)
  name_edits = (name_part group (value_of (codes "n") request)).group

  -- without a new GID each edit keeps the GIDs
  kept-groups :
      (id : ℕ)
      → AllByRecursion (AddsNone group_format (has_key gid_key id))
      (in_turn hash_edits [] name_edits)
  kept-groups id = all-turns (AddsNone group_format (has_key gid_key id)) hash_edits [] name_edits
      (all-keys-keep group_format gid_key id hash_edits (hash-quiet group request files).group) tt
      (name-groups group (value_of (codes "n") request) id)

  -- the groups, by the GID that is given and the group that is found
  groups-by :
      (id : ℕ) (given : Option ℕ) (found : Option GroupRecord) (with_o : Bool)
      → (with_o && gives_id id given) ≡ false
      → group_named group files ≡ found
      → used_by files with_o given found ≡ None
      → first_multiple group_format
      (in_turn hash_edits (gid_part group given found).group name_edits)
      (group_records files) ≡ None
      → EditsMeetNoMore group_format (has_key gid_key id) (group_records files)
      (in_turn hash_edits (gid_part group given found).group name_edits)
  groups-by id None found with_o shares is none single =
      none-meets group_format (has_key gid_key id) (in_turn hash_edits [] name_edits)
      (kept-groups id) (group_records files)
  groups-by id (Some gid) None with_o shares is none single =
      none-meets group_format (has_key gid_key id) (in_turn hash_edits [] name_edits)
      (kept-groups id) (group_records files)
  groups-by id (Some gid) (Some old) with_o shares is none single =
      set-meets group_format group-tells gid_key group gid (λ r. record r { gid = gid }) (λ r. refl)
      hash_edits (name_edits ++ []) (hash-quiet group request files).group id (group_records files)
      (λ same. free-by files group gid old is
      (subst (λ (shared : Bool). used_by files shared (Some gid) (Some old) ≡ None)
      (unshared with_o gid id same shares) none))
      single
      (all-append (AddsNone group_format (has_key gid_key id)) name_edits []
      (name-groups group (value_of (codes "n") request) id) tt)

  -- the whole
  script-apart :
      first_some (groupmod_refusals group request files) ≡ None
      → multiple_entries (groupmod_script group request files) files ≡ None
      → KeepsApart Groupmod request files (groupmod_script group request files)
  script-apart none multiple =
      let passed = all-none (groupmod_refusals group request files) none
      in let single = all-none
      (multiple_in Passwd passwd_format (groupmod_script group request files).passwd
      (passwd_records files)
      ∷ multiple_in Shadow shadow_format (groupmod_script group request files).shadow
      (shadow_records files)
      ∷ multiple_in Group group_format (groupmod_script group request files).group
      (group_records files)
      ∷ _ ∷ []) multiple
      in let leaves = script-leaves group request files
      in record {
        uids = λ uid shares. few-table passwd_format (has_key uid_key uid) files.passwd
            (groupmod_script group request files).passwd
            (all-keys-keep passwd_format uid_key uid
            (groupmod_script group request files).passwd leaves.users);
        gids = λ id shares. stays-table group_format (has_key gid_key id) files.group
            (groupmod_script group request files).group
            (groups-by id (given_gid request) (group_named group files)
            (has_option (codes "o") request)
            shares refl passed.1.1.1.1.1.0
            (map-none (λ name. Multiple Group name) _ single.1.1.0));
        subuids = λ n. few-table subid_format (range_has n) files.subuid
            (groupmod_script group request files).subuid
            (leaves-none (groupmod_script group request files).subuid leaves.ranges.subuid n);
        subgids = λ n. few-table subid_format (range_has n) files.subgid
            (groupmod_script group request files).subgid
            (leaves-none (groupmod_script group request files).subgid leaves.ranges.subgid n);
      }

-- groupmod gives no GID to one more group, but where `-o` names it, and leaves UIDs and ranges
pub groupmod-apart :
    (request : Request) (files : Files)
    → first_some (groupmod request files).refusals ≡ None
    → multiple_entries (groupmod request files).script files ≡ None
    → KeepsApart Groupmod request files (groupmod request files).script
groupmod-apart request files none multiple =
    script-apart (operand request) request files none multiple
