-- The group tools are lawful: `groupadd-lawful`, `groupmod-lawful`, `groupdel-lawful`, `gpasswd-lawful`. Way: the refusals
-- show that each value can stand in a line, and then each edit keeps that; each is of the group that the command names.
use Rattle.std.proofs.Common.{◌≡◌, ℕ, ◌≤◌, Bool, true, false, ◌&&◌, List, [], ◌∷◌, ◌++◌, refl, subst, ap, ◌∙◌}
use Rattle.std.specs.Prelude.{Option, Some, None, ◌==◌, bytes_eq, codes, is_some, if◌then◌else◌}
use Rattle.std.proofs.lemmas.Bool.{or_parts}
use Rattle.std.specs.List.{AllByRecursion, list_any}
use Rattle.acct_text.specs.declared.files.Files.{Files}
use Rattle.acct_text.proofs.NumberLaws.{some-inj}
use Rattle.account_model.specs.declared.records.GroupRecord.{GroupRecord}
use Rattle.account_model.specs.declared.refusal.Refusal.{Refusal}
use Rattle.account_model.specs.declared.refusal.Refusal.TheVariants.{BadName}
use Rattle.account_model.specs.declared.tool.Tool.TheVariants.{Groupadd, Groupmod, Groupdel, Gpasswd}
use Rattle.account_model.specs.NamedLines.{Named, named_by}
use Rattle.account_model.specs.Text.{first_some, is_listed}
use Rattle.account_model.specs.Names.{is_valid_name}
use Rattle.account_model.specs.Records.{passwd_format, group_format, greatest_id, is_id}
use Rattle.account_model.specs.Format.{is_named}
use Rattle.account_model.specs.Written.{IsField, IsNameField, IsListed, IsPasswd, IsGroup}
use Rattle.account_model.specs.Tables.{Script, no_edits}
use Rattle.account_model.specs.WrittenScript.{IsWrittenScript}
use Rattle.account_model.specs.Values.{is_field, given_gid, list_value}
use Rattle.account_model.specs.Settings.{Setting}
use Rattle.account_model.specs.Members.{each_members, add_to_group, remove_from_group, with_name, without_name}
use Rattle.account_model.specs.Hashes.{locked, elsewhere, set_group_hash, set_administrators}
use Rattle.account_model.specs.Users.{group_named}
use Rattle.account_model.specs.Request.{Request, has_option, value_of, operand}
use Rattle.account_model.specs.Refusals.{refuse_value, bad_name, bad_value, bad_key, missing_group, missing_user, missing_users, bad_list_name}
use Rattle.account_model.specs.Action.{changes, with_option, with_flag}
use Rattle.account_model.specs.NewAccount.{kind_of, settings_for, new_hash, new_group, new_gshadow, add_group}
use Rattle.account_model.specs.Groupadd.{is_gid_taken, other_gid, new_gid, groupadd_checks, groupadd_conflicts, groupadd_script, is_content}
use Rattle.account_model.specs.Groupmod.{set_gid, gid_script, rename_group, groupmod}
use Rattle.account_model.specs.Gpasswd.{not_member, gpasswd_refusals, gpasswd_script}
use Rattle.account_model.proofs.DeedLaws.{first-none}
use Rattle.account_model.proofs.HeldLaws.{passwd-holds, group-holds, gshadow-holds, each_where-written}
use Rattle.account_model.proofs.FieldFacts.{is_field-is, empty-field, valid-name}
use Rattle.account_model.proofs.RefusalFacts.{refuse-none, value-none, good-value, text-kept, given-small, users-listed, user-listed}
use Rattle.account_model.proofs.SettingBounds.{free-gid-small}
use Rattle.account_model.proofs.WrittenScripts.{groups-written, elsewhere-field, locked-field}
use Rattle.account_model.proofs.ComposedScripts.{all-hold, flag-holds, option-holds, some-holds}
use Rattle.account_model.proofs.KeptIds.{may-give}
use Rattle.account_model.proofs.LawfulParts.{administrators-lawful, group-hash-lawful, lines-lawful, members-lawful, removed-lawful}
use Rattle.account_model.proofs.LawfulScripts.{IsLawful, lawful, lawful-composed}
use Rattle.account_model.proofs.LawfulTools.{LawfulTool, by-choice, quiet-act}
use Rattle.account_model.proofs.MemberLaws.{with-listed, without-listed}
use Rattle.account_model.proofs.NamedLaws.{where-spares, passwd-parts}
use Rattle.account_model.proofs.NamedParts.{each-spares, first-has, new-group-spares}

-- ---- groupdel

-- groupdel adds nothing
pub groupdel-lawful : LawfulTool Groupdel
groupdel-lawful request input day files settings = quiet-act refl refl refl
    (λ none. removed-lawful _ (operand request) (first-has (operand request) []))

-- ---- gpasswd

-- what the refusals of gpasswd leave open is refused nowhere
record GpasswdPasses (group : List ℕ) (request : Request) (files : Files) : Type 0 where
  added : refuse_value (codes "a") request (λ user. missing_user user files) ≡ None
  administrators : refuse_value (codes "A") request
      (λ users. missing_users (list_value users) files) ≡ None
  members : refuse_value (codes "M") request
      (λ users. missing_users (list_value users) files) ≡ None
  listed : refuse_value (codes "a") request bad_list_name ≡ None

-- no refusal of gpasswd
gpasswd-passes :
    (group : List ℕ) (request : Request) (files : Files)
    → first_some (gpasswd_refusals group request files) ≡ None
    → GpasswdPasses group request files
gpasswd-passes group request files none =
    let after_group = first-none (missing_group group files) _ none
    in let after_added = first-none (refuse_value (codes "a") request
    (λ user. missing_user user files)) _ after_group.1
    in let after_member = first-none (refuse_value (codes "d") request
    (not_member group files)) _ after_added.1
    in let after_administrators = first-none (refuse_value (codes "A") request
    (λ users. missing_users (list_value users) files)) _ after_member.1
    in let after_members = first-none (refuse_value (codes "M") request
    (λ users. missing_users (list_value users) files)) _ after_administrators.1
    in record {
      added = after_added.0;
      administrators = after_administrators.0;
      members = after_members.0;
      listed = (first-none (refuse_value (codes "a") request bad_list_name) _ after_members.1).0;
    }

-- the user of `-a` can stand in a list
pub added-listed :
    (request : Request) (files : Files) (user : List ℕ)
    → refuse_value (codes "a") request (λ name. missing_user name files) ≡ None
    → refuse_value (codes "a") request bad_list_name ≡ None
    → value_of (codes "a") request ≡ Some user
    → IsListed user
added-listed request files user added listed given = user-listed user files
    (value-none (codes "a") request (λ name. missing_user name files) user added given)
    (value-none (codes "a") request bad_list_name user listed given)

-- the users of `-A` can stand in a list
administrators-listed :
    (group : List ℕ) (request : Request) (files : Files) (users : List ℕ)
    → GpasswdPasses group request files
    → value_of (codes "A") request ≡ Some users
    → AllByRecursion IsListed (list_value users)
administrators-listed group request files users passes given = users-listed files users
    (value-none (codes "A") request (λ names. missing_users (list_value names) files) users
    passes.administrators given)

-- and so can those of `-M`
members-listed :
    (group : List ℕ) (request : Request) (files : Files) (users : List ℕ)
    → GpasswdPasses group request files
    → value_of (codes "M") request ≡ Some users
    → AllByRecursion IsListed (list_value users)
members-listed group request files users passes given = users-listed files users
    (value-none (codes "M") request (λ names. missing_users (list_value names) files) users
    passes.members given)

-- the edits of gpasswd
gpasswd-script-lawful :
    {day : ℕ} (named : Named) (group : List ℕ) (request : Request) (files : Files)
    → ((name : List ℕ) → is_listed name named.groups ≡ false → bytes_eq name group ≡ false)
    → GpasswdPasses group request files
    → IsLawful day false false named (gpasswd_script group request files)
gpasswd-script-lawful named group request files has passes =
    let composed = lawful-composed named
    in all-hold composed
    (with_option (codes "a") request (add_to_group group)
    ∷ with_option (codes "d") request (remove_from_group group)
    ∷ with_option (codes "A") request (λ users. set_administrators group (list_value users) files)
    ∷ with_option (codes "M") request (λ users. each_members group (λ members. list_value users))
    ∷ with_flag (codes "r") request (set_group_hash group [] files)
    ∷ with_flag (codes "R") request (set_group_hash group locked files)
    ∷ []) (
      option-holds composed (codes "a") request (add_to_group group)
          (λ user given. members-lawful named group has (with_name user)
          (λ names. with-listed user names
          (added-listed request files user passes.added passes.listed given))),
      (
        option-holds composed (codes "d") request (remove_from_group group)
            (λ user given. members-lawful named group has (without_name user)
            (without-listed user)),
        (
          option-holds composed (codes "A") request
              (λ users. set_administrators group (list_value users) files)
              (λ users given. administrators-lawful named group has (list_value users) files
              (administrators-listed group request files users passes given)),
          (
            option-holds composed (codes "M") request
                (λ users. each_members group (λ members. list_value users))
                (λ users given. members-lawful named group has (λ members. list_value users)
                (λ names all. members-listed group request files users passes given)),
            (
              flag-holds composed (codes "r") request _
                  (group-hash-lawful named group has [] files empty-field),
              (
                flag-holds composed (codes "R") request _
                    (group-hash-lawful named group has locked files locked-field),
                tt,
              ),
            ),
          ),
        ),
      ),
    )

-- gpasswd adds users that are there and have no comma
pub gpasswd-lawful : LawfulTool Gpasswd
gpasswd-lawful request input day files settings = quiet-act refl refl refl
    (λ none. gpasswd-script-lawful (named_by Gpasswd request input files) (operand request) request
    files (first-has (operand request) []) (gpasswd-passes (operand request) request files none))

-- ---- groupmod

-- an ID as GID
set-gid-written :
    (group : List ℕ) (gid : ℕ) (old : GroupRecord)
    → gid ≤ greatest_id
    → IsWrittenScript (set_gid group gid old)
set-gid-written group gid old small = record {
  shadow = tt;
  gshadow = tt;
  subuid = tt;
  subgid = tt;
  group = (
    each_where-written group_format IsGroup group-holds (is_named group_format group)
        (λ r. record r { gid = gid })
        (λ r is. record {
          name = is.name;
          password = is.password;
          gid = small;
          members = is.members;
        }),
    tt,
  );
  passwd = (
    each_where-written passwd_format IsPasswd passwd-holds (λ user. user.gid == old.gid)
        (λ user. record user { gid = gid })
        (λ r is. record {
          name = is.name;
          password = is.password;
          uid = is.uid;
          gid = small;
          comment = is.comment;
          home = is.home;
          shell = is.shell;
        }),
    tt,
  );
}

module _ (request : Request) (files : Files) where
  -- what groupmod names
  abbrev groupmod_names : Named
  groupmod_names = named_by Groupmod request [] files

  -- what the group's name is
  groupmod-has :
      (name : List ℕ)
      → is_listed name groupmod_names.groups ≡ false
      → bytes_eq name (operand request) ≡ false
  groupmod-has = first-has (operand request) []

  -- the name of `-n`, which can stand in a first field
  rename-lawful :
      {day : ℕ} (name : List ℕ)
      → IsNameField name
      → IsLawful day true false groupmod_names (rename_group (operand request) name)
  rename-lawful name named = lines-lawful groupmod_names (operand request) groupmod-has
      (λ r. record r { name = name }) (λ r. record r { name = name })
      (λ r is. record { name = named; password = is.password; gid = is.gid; members = is.members })
      (λ r is. record {
        name = named;
        password = is.password;
        administrators = is.administrators;
        members = is.members;
      }) (λ r. refl)

  -- the GID of `-g`, by the one that is given and the group that is found
  gid-by :
      {day : ℕ} (given : Option ℕ) (found : Option GroupRecord)
      → ((gid : ℕ) → given ≡ Some gid → gid ≤ greatest_id)
      → elim given as (λ n. List ℕ) [
        | None ↦ []
        | Some gid ↦ elim found as (λ r. List ℕ) [ None ↦ [] | Some old ↦ old.gid ∷ [] ]
      ] ≡ groupmod_names.gids
      → IsLawful day true false groupmod_names (elim given as (λ n. Script) [
        | None ↦ no_edits
        | Some gid ↦ elim found as (λ r. Script) [
          | None ↦ no_edits
          | Some old ↦ set_gid (operand request) gid old
        ]
      ])
  gid-by None found small are = (lawful-composed groupmod_names).none
  gid-by (Some gid) None small are = (lawful-composed groupmod_names).none
  gid-by (Some gid) (Some old) small are =
      lawful (set-gid-written (operand request) gid old (small gid refl)) (record {
        passwd = (
          where-spares passwd_format false _ (λ user. user.gid == old.gid)
              (λ user. record user { gid = gid })
              (λ r none. (or_parts (r.gid == old.gid) false
              (ap (list_any (λ other. r.gid == other)) are
              ∙ (passwd-parts groupmod_names r none).1)).0),
          tt,
        );
        shadow = tt;
        group = (
          each-spares groupmod_names (operand request) groupmod-has false
              (λ r. record r { gid = gid }),
          tt,
        );
        gshadow = tt;
        subuid = tt;
        subgid = tt;
      }) may-give

  -- the edits of groupmod
  groupmod-script-lawful :
      {day : ℕ}
      → first_some (groupmod request files).refusals ≡ None
      → IsLawful day true false groupmod_names (groupmod request files).script
  groupmod-script-lawful none =
      let group = operand request
      in let composed = lawful-composed groupmod_names
      in let after_gid = first-none (bad_value (codes "g") is_id request) _ none
      in let after_name = first-none (bad_value (codes "n") is_valid_name request) _ after_gid.1
      in let after_hash = first-none (bad_value (codes "p") is_field request) _ after_name.1
      in all-hold composed
      (with_option (codes "p") request (λ hash. set_group_hash group hash files)
      ∷ gid_script group request files
      ∷ with_option (codes "n") request (rename_group group)
      ∷ []) (
        option-holds composed (codes "p") request (λ hash. set_group_hash group hash files)
            (λ hash given. group-hash-lawful groupmod_names group groupmod-has hash files
            (is_field-is hash (good-value (codes "p") is_field request hash after_hash.0 given))),
        (
          gid-by (given_gid request) (group_named group files) (given-small (codes "g") request)
              refl,
          (
            option-holds composed (codes "n") request (rename_group group)
                (λ name given. rename-lawful name
                (valid-name name (good-value (codes "n") is_valid_name request name
                after_name.0 given))),
            tt,
          ),
        ),
      )

-- groupmod sets tested values
pub groupmod-lawful : LawfulTool Groupmod
groupmod-lawful request input day files settings =
    quiet-act refl refl refl (groupmod-script-lawful request files)

-- ---- groupadd

-- the hash of a new account can stand in a field
pub new-hash-field :
    (request : Request)
    → bad_value (codes "p") is_field request ≡ None
    → IsField (new_hash request)
new-hash-field request none =
    text-kept IsField (codes "p") is_field request locked is_field-is none locked-field

-- `x`, or the hash
pub password-by :
    (hash : List ℕ) (there : Bool)
    → IsField hash
    → IsField (if there then elsewhere else hash)
password-by hash true is = elsewhere-field
password-by hash false is = is

-- a new group
pub add-group-written :
    (name hash : List ℕ) (gid : ℕ) (files : Files)
    → IsNameField name
    → IsField hash
    → gid ≤ greatest_id
    → IsWrittenScript (add_group name hash gid files)
add-group-written name hash gid files named is small = groups-written _ _ (
  group-holds.written (new_group name (if is_some files.gshadow then elsewhere else hash) gid)
      (record {
        name = named;
        password = password-by hash (is_some files.gshadow) is;
        gid = small;
        members = tt;
      }),
  tt,
) (
  gshadow-holds.written (new_gshadow name hash)
      (record { name = named; password = is; administrators = tt; members = tt }),
  tt,
)

-- a chosen GID of groupadd is an ID
other-gid-small :
    (request : Request) (files : Files) (settings : List Setting) (gid : ℕ)
    → other_gid request files settings ≡ Some gid
    → gid ≤ greatest_id
other-gid-small request files settings gid e =
    free-gid-small (kind_of request) files (settings_for request settings) gid e

-- a GID that is given or, where it is taken, chosen
taken-by :
    (request : Request) (files : Files) (settings : List Setting) (gid given : ℕ) (taken : Bool)
    → given ≤ greatest_id
    → (if taken then other_gid request files settings else Some given) ≡ Some gid
    → gid ≤ greatest_id
taken-by request files settings gid given true small e =
    other-gid-small request files settings gid e
taken-by request files settings gid given false small e =
    subst (λ k. k ≤ greatest_id) (some-inj e) small

-- the new GID, by the one that is given
new-gid-by :
    (request : Request) (files : Files) (settings : List Setting) (gid : ℕ) (given : Option ℕ)
    → ((n : ℕ) → given ≡ Some n → n ≤ greatest_id)
    → elim given [
      | None ↦ other_gid request files settings
      | Some n ↦ if has_option (codes "f") request && is_gid_taken request files n
          then other_gid request files settings
          else Some n
    ] ≡ Some gid
    → gid ≤ greatest_id
new-gid-by request files settings gid None small e = other-gid-small request files settings gid e
new-gid-by request files settings gid (Some n) small e =
    taken-by request files settings gid n (has_option (codes "f") request
    && is_gid_taken request files n) (small n refl) e

-- the edits of groupadd, whatever it tests behind the name and the values
groupadd-script-lawful :
    {day : ℕ} (request : Request) (files : Files) (settings : List Setting)
    (more : List (Option Refusal))
    → first_some (groupadd_checks (operand request) request ++ more) ≡ None
    → IsLawful day true false (named_by Groupadd request [] files)
    (groupadd_script (operand request) request files settings)
groupadd-script-lawful request files settings more none =
    let name = operand request
    in let after_name = first-none (bad_name name) _ none
    in let after_key = first-none (bad_key request) _ after_name.1
    in let after_hash = first-none (bad_value (codes "p") is_field request) _ after_key.1
    in some-holds (lawful-composed (named_by Groupadd request [] files))
    (λ gid. add_group name (new_hash request) gid files) (new_gid request files settings)
    (λ gid e. lawful (add-group-written name (new_hash request) gid files
    (valid-name name (refuse-none (is_valid_name name) (BadName name) after_name.0))
    (new-hash-field request after_hash.0)
    (new-gid-by request files settings gid (given_gid request) (given-small (codes "g") request) e))
    (new-group-spares _ name (first-has name []) (new_hash request) gid files) may-give)

-- groupadd adds a valid name with an ID, or is content with the group that is there
pub groupadd-lawful : LawfulTool Groupadd
groupadd-lawful request input day files settings =
    let name = operand request
    in let content = is_content name request files
    in let one = changes (groupadd_checks name request) no_edits
    in let other = changes
    (groupadd_checks name request ++ groupadd_conflicts name request files settings)
    (groupadd_script name request files settings)
    in quiet-act (by-choice (λ action. action.status ≡ 0) content one other
    (λ is. refl) (λ is. refl)) refl refl
    (by-choice (λ action. first_some action.refusals ≡ None
    → IsLawful day true false (named_by Groupadd request [] files) action.script) content one other
    (λ is none. (lawful-composed _).none)
    (λ is. groupadd-script-lawful request files settings
    (groupadd_conflicts name request files settings)))
