-- Claim: groupadd leaves ranges, and gives a GID that no group has, but where `-o` names it
-- (`groupadd-apart`). Way: a given GID that is taken is refused, or with `-f` another is chosen; a chosen one isn't used.
use Rattle.std.proofs.Common.{◌≡◌, ℕ, Bool, true, false, not, ◌&&◌, List, [], ◌∷◌, ◌++◌, refl, sym, subst}
use Rattle.std.specs.Prelude.{Option, Some, None, codes, is_some, option_and_then, if◌then◌else◌}
use Rattle.std.proofs.lemmas.Bool.{eqb-true}
use Rattle.acct_text.specs.declared.files.Files.{Files}
use Rattle.acct_text.proofs.NumberLaws.{some-inj}
use Rattle.account_model.specs.declared.settings.IdSort.TheVariants.{Gid}
use Rattle.account_model.specs.declared.refusal.Refusal.TheVariants.{GidInUse}
use Rattle.account_model.specs.declared.tool.Tool.TheVariants.{Groupadd}
use Rattle.account_model.specs.Text.{first_some}
use Rattle.account_model.specs.Edits.Edit.{Add}
use Rattle.account_model.specs.Records.{group_format}
use Rattle.account_model.specs.Tables.{Script, no_edits, group_records}
use Rattle.account_model.specs.Settings.{Setting, range}
use Rattle.account_model.specs.Ids.{used_gids, is_used}
use Rattle.account_model.specs.Hashes.{elsewhere}
use Rattle.account_model.specs.Values.{given_gid}
use Rattle.account_model.specs.Request.{Request, has_option, operand}
use Rattle.account_model.specs.Refusals.{refuse_if}
use Rattle.account_model.specs.Action.{changes}
use Rattle.account_model.specs.NewAccount.{kind_of, settings_for, new_hash, new_group, add_group}
use Rattle.account_model.specs.Groupadd.{is_gid_taken, other_gid, new_gid, groupadd_checks, groupadd_conflicts, is_content, groupadd_script, groupadd}
use Rattle.ids_apart.specs.Holders.{gives_id, shares_gid_by}
use Rattle.account_model.proofs.KeptIds.{keep-composed}
use Rattle.ids_apart.proofs.Keys.{has_key}
use Rattle.ids_apart.proofs.Kept.{gid_key, KeepsApart, stays-table, kept-apart}
use Rattle.ids_apart.proofs.Refusals.{behind-none}
use Rattle.ids_apart.proofs.Shared.{unshared}
use Rattle.ids_apart.proofs.Unused.{chosen-unused, refuse-fails, push-keeps}

-- ---- The GID

-- a chosen GID isn't used
other-unused :
    (request : Request) (files : Files) (settings : List Setting) (gid : ℕ)
    → other_gid request files settings ≡ Some gid
    → is_used (used_gids files) gid ≡ false
other-unused request files settings gid e = chosen-unused (kind_of request)
    (range Gid (kind_of request) (settings_for request settings)) (used_gids files) gid e

-- a GID that isn't taken isn't used, where none is shared
untaken-by :
    (used with_o : Bool)
    → with_o ≡ false
    → (used && not with_o) ≡ false
    → used ≡ false
untaken-by used true shared none = cc
untaken-by true false shared none = cc
untaken-by false false shared none = refl

-- a given GID, or another where it is taken
taken-by :
    (request : Request) (files : Files) (settings : List Setting) (given gid : ℕ)
    (forced taken : Bool)
    → is_gid_taken request files given ≡ taken
    → (has_option (codes "o") request && gives_id gid (Some given)) ≡ false
    → (if forced
    then None
    else option_and_then (λ n. refuse_if (is_gid_taken request files n) (GidInUse n)) (Some given))
    ≡ None
    → (if forced && taken then other_gid request files settings else Some given) ≡ Some gid
    → is_used (used_gids files) gid ≡ false
taken-by request files settings given gid true true is shares none e =
    other-unused request files settings gid e
taken-by request files settings given gid true false is shares none e =
    subst (λ id. is_used (used_gids files) id ≡ false) (some-inj e)
    (untaken-by (is_used (used_gids files) given) (has_option (codes "o") request)
    (unshared (has_option (codes "o") request) given gid (some-inj e) shares) is)
taken-by request files settings given gid false taken is shares none e =
    subst (λ id. is_used (used_gids files) id ≡ false) (some-inj e)
    (untaken-by (is_used (used_gids files) given) (has_option (codes "o") request)
    (unshared (has_option (codes "o") request) given gid (some-inj e) shares)
    (refuse-fails (is_gid_taken request files given) (GidInUse given) none))

-- the new GID, by the one that is given
gid-by :
    (request : Request) (files : Files) (settings : List Setting) (gid : ℕ) (given : Option ℕ)
    → (has_option (codes "o") request && gives_id gid given) ≡ false
    → (if has_option (codes "f") request
    then None
    else option_and_then (λ n. refuse_if (is_gid_taken request files n) (GidInUse n)) given) ≡ None
    → elim given as (λ n. Option ℕ) [
      | None ↦ other_gid request files settings
      | Some n ↦ if has_option (codes "f") request && is_gid_taken request files n
          then other_gid request files settings
          else Some n
    ] ≡ Some gid
    → is_used (used_gids files) gid ≡ false
gid-by request files settings gid None shares none e = other-unused request files settings gid e
gid-by request files settings gid (Some given) shares none e =
    taken-by request files settings given gid (has_option (codes "f") request)
    (is_gid_taken request files given) refl shares none e

-- ---- The edits

-- by the GID that there is
script-apart :
    (request : Request) (name hash : List ℕ) (files : Files) (gid : Option ℕ)
    → ((id : ℕ) → gid ≡ Some id → shares_gid_by Groupadd id request ≡ false
    → is_used (used_gids files) id ≡ false)
    → KeepsApart Groupadd request files
    (elim gid as (λ n. Script) [ None ↦ no_edits | Some n ↦ add_group name hash n files ])
script-apart request name hash files None unused = kept-apart keep-composed.none
script-apart request name hash files (Some gid) unused =
    let new = new_group name (if is_some files.gshadow then elsewhere else hash) gid
    in let none = kept-apart {tool = Groupadd} {request = request} {files = files}
    keep-composed.none
    in record {
      uids = none.uids;
      gids = λ id shares. stays-table group_format (has_key gid_key id) files.group (Add new ∷ [])
          (push-keeps gid_key id new (group_records files) (λ has.
          let same = eqb-true gid id has
          in subst (λ n. is_used (used_gids files) n ≡ false) same
          (unused gid refl (subst (λ n. shares_gid_by Groupadd n request ≡ false) (sym same)
          shares))));
      subuids = none.subuids;
      subgids = none.subgids;
    }

-- ---- The whole

-- by whether the group is there and that is no refusal
groupadd-by :
    (name : List ℕ) (request : Request) (files : Files) (settings : List Setting) (content : Bool)
    → first_some (if content
    then changes (groupadd_checks name request) no_edits
    else changes (groupadd_checks name request ++ groupadd_conflicts name request files settings)
    (groupadd_script name request files settings)).refusals ≡ None
    → KeepsApart Groupadd request files (if content
    then changes (groupadd_checks name request) no_edits
    else changes (groupadd_checks name request ++ groupadd_conflicts name request files settings)
    (groupadd_script name request files settings)).script
groupadd-by name request files settings true none = kept-apart keep-composed.none
groupadd-by name request files settings false none =
    let passed = behind-none (groupadd_checks name request)
    (groupadd_conflicts name request files settings) none
    in script-apart request name (new_hash request) files (new_gid request files settings)
    (λ gid e shares. gid-by request files settings gid (given_gid request) shares passed.1.0 e)

-- groupadd gives no GID to one more group, but where `-o` names it, and leaves UIDs and ranges
pub groupadd-apart :
    (request : Request) (files : Files) (settings : List Setting)
    → first_some (groupadd request files settings).refusals ≡ None
    → KeepsApart Groupadd request files (groupadd request files settings).script
groupadd-apart request files settings none = groupadd-by (operand request) request files settings
    (is_content (operand request) request files) none
