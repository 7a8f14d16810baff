-- usermod is lawful (`usermod-lawful`). Way: the refusals show that
-- each value can stand in a line, and then each edit keeps that; a range that is cut keeps its bounds.
use Rattle.std.proofs.Common.{◌≡◌, ℕ, ◌≤◌, Bool, true, false, ◌||◌, not, List, [], ◌∷◌, ◌++◌, map, refl, sym, ◌∙◌}
use Rattle.std.specs.Prelude.{Option, Some, None, codes, bytes_eq, drop, unwrap_or, if◌then◌else◌}
use Rattle.std.specs.List.{AllByRecursion}
use Rattle.std.proofs.lemmas.Bool.{true≢false}
use Rattle.std.proofs.lemmas.Slice.Eq.{bytes_eq-Decides}
use Rattle.acct_text.specs.declared.files.Files.{Files}
use Rattle.acct_text.specs.declared.Tab.TheVariants.{Subuid, Subgid}
use Rattle.acct_text.specs.Bytes.{newline, colon, is_empty}
use Rattle.acct_text.proofs.NumberLaws.{number-is}
use Rattle.account_model.specs.declared.records.PasswdRecord.{PasswdRecord}
use Rattle.account_model.specs.declared.records.ShadowRecord.{ShadowRecord}
use Rattle.account_model.specs.declared.records.GroupRecord.{GroupRecord}
use Rattle.account_model.specs.declared.records.GshadowRecord.{GshadowRecord}
use Rattle.account_model.specs.Text.{exclamation, begins_with, is_listed, first_some}
use Rattle.account_model.specs.Format.{is_named}
use Rattle.account_model.specs.Names.{is_valid_name}
use Rattle.account_model.specs.Records.{passwd_format, shadow_format, group_format, gshadow_format, greatest_id, greatest_days, read_id}
use Rattle.account_model.specs.Written.{IsField, IsNameField, IsListed, IsDaysNumber, IsPasswd, IsShadow, IsGroup, IsGshadow}
use Rattle.account_model.specs.Tables.{no_edits}
use Rattle.account_model.specs.Values.{is_field, is_folder, is_shell, is_days_value, is_expiration_value, days_value, expiration_value}
use Rattle.account_model.specs.GivenGroups.{given_groups, unknown_group, unknown_groups}
use Rattle.account_model.specs.Hashes.{locked, demand_shadow, each_user_hash}
use Rattle.account_model.specs.Members.{with_name, without_name}
use Rattle.account_model.specs.Request.{Request, has_option, value_of, operand}
use Rattle.account_model.specs.Refusals.{bad_value, missing_user, bad_list_name}
use Rattle.account_model.specs.UsermodHash.{sets_hash, sets_aging, locked_hash, unlocked_hash, relocked_hash, hash_after, hash_script}
use Rattle.account_model.specs.UsermodRanges.{meeting_in}
use Rattle.account_model.specs.Usermod.{new_name, changed_user, changed_shadow, is_listed_group, joined_or_left, members_after, changed_group, changed_gshadow, sets_passwd, sets_shadow, sets_lists, range_owner, subuid_change, subgid_change, taken_name, taken_uid, empty_hash, no_shadow, unlistable_name, usermod_checks, usermod_conflicts, usermod_refusals, change_user}
use Rattle.account_model.proofs.DeedLaws.{first-none}
use Rattle.account_model.proofs.HeldLaws.{passwd-holds, shadow-holds, group-holds, gshadow-holds, each-written, each_where-written}
use Rattle.account_model.proofs.FieldFacts.{is_field-is, is_folder-is, is_shell-is, valid-name, valid-listed}
use Rattle.account_model.proofs.RefusalFacts.{text-kept, field-kept, good-value, user-named, user-listed}
use Rattle.account_model.proofs.WrittenScripts.{locked-field}
use Rattle.account_model.proofs.ComposedScripts.{all-hold, either-holds}
use Rattle.account_model.proofs.KeptIds.{may-give}
use Rattle.account_model.proofs.LawfulParts.{demand-lawful, hash-lawful}
use Rattle.account_model.proofs.LawfulScripts.{IsLawful, IsWrittenOn, lawful-composed}
use Rattle.account_model.proofs.LawfulTools.{LawfulTool, quiet-act}
use Rattle.account_model.proofs.NamedParts.{first-has}
use Rattle.account_model.proofs.UsermodSpares.{change-spares, usermod_names}
use Rattle.account_model.specs.declared.tool.Tool.TheVariants.{Usermod}
use Rattle.account_model.proofs.ListLaws.{all-if}
use Rattle.account_model.proofs.MemberLaws.{with-listed, without-listed, renamed-listed}
use Rattle.account_model.proofs.UsermodRangeScripts.{added-ordered, range-edits-written}
use Rattle.account_model.proofs.GivenFacts.{given-group-gid, expiration-held}
use Rattle.account_model.proofs.AgingToolScripts.{days-held, lacks-drop}

-- ---- What the refusals leave

-- the refusals of the values, and of the names
record UsermodPasses (request : Request) (files : Files) : Type 0 where
  comment : bad_value (codes "c") is_field request ≡ None
  home : bad_value (codes "d") is_folder request ≡ None
  shell : bad_value (codes "s") is_shell request ≡ None
  hash : bad_value (codes "p") is_field request ≡ None
  name : bad_value (codes "l") is_valid_name request ≡ None
  there : missing_user (operand request) files ≡ None
  listable : unlistable_name request files ≡ None

-- two lists of refusals
first-append :
    {X : Type 0} (a b : List (Option X))
    → first_some (a ++ b) ≡ None
    → (first_some a ≡ None) × (first_some b ≡ None)
first-append [] b none = (refl, none)
first-append (None ∷ a) b none = first-append a b none
first-append (Some x ∷ a) b none = cc

-- no refusal of a value, and none of what is behind them
usermod-passes :
    (request : Request) (files : Files)
    → first_some (usermod_refusals request files) ≡ None
    → UsermodPasses request files
usermod-passes request files none =
    let parts = first-append (usermod_checks request) (usermod_conflicts request files) none
    in let after_comment = first-none (bad_value (codes "c") is_field request) _ parts.0
    in let after_home = first-none (bad_value (codes "d") is_folder request) _ after_comment.1
    in let after_expiration = first-none (bad_value (codes "e") is_expiration_value
    request) _ after_home.1
    in let after_inactive = first-none (bad_value (codes "f") is_days_value request)
    _ after_expiration.1
    in let after_shell = first-none (bad_value (codes "s") is_shell request) _ after_inactive.1
    in let after_hash = first-none (bad_value (codes "p") is_field request) _ after_shell.1
    in let after_name = first-none (bad_value (codes "l") is_valid_name request) _ after_hash.1
    in let after_user = first-none (missing_user (operand request) files) _ parts.1
    in let after_taken_name = first-none (taken_name request files) _ after_user.1
    in let after_taken_uid = first-none (taken_uid request files) _ after_taken_name.1
    in let after_group = first-none (unknown_group request files) _ after_taken_uid.1
    in let after_groups = first-none (unknown_groups request files) _ after_group.1
    in let after_empty = first-none (empty_hash request files) _ after_groups.1
    in let after_subuid = first-none (meeting_in Subuid (range_owner request files)
    (subuid_change request files) files.subuid) _ after_empty.1
    in let after_subgid = first-none (meeting_in Subgid (range_owner request files)
    (subgid_change request files) files.subgid) _ after_subuid.1
    in let after_shadow = first-none (no_shadow request files) _ after_subgid.1
    in record {
      comment = after_comment.0;
      home = after_home.0;
      shell = after_shell.0;
      hash = after_hash.0;
      name = after_name.0;
      there = after_user.0;
      listable = (first-none (unlistable_name request files) [] after_shadow.1).0;
    }

-- the new name can stand in a first field
new-name-field :
    (request : Request) (files : Files)
    → UsermodPasses request files
    → IsNameField (new_name request)
new-name-field request files passes =
    text-kept IsNameField (codes "l") is_valid_name request (operand request)
    valid-name passes.name (user-named (operand request) files passes.there)

-- ---- passwd

-- a line of passwd
changed-user-held :
    (request : Request) (files : Files) (r : PasswdRecord)
    → UsermodPasses request files
    → IsPasswd r
    → IsPasswd (changed_user request files r)
changed-user-held request files r passes is = record {
  name = new-name-field request files passes;
  password = is.password;
  uid = field-kept (λ id. id ≤ greatest_id) read_id (codes "u") request r.uid
      (λ text id e. (number-is greatest_id text id e).bounded) is.uid;
  gid = given-group-gid request files r.gid is.gid;
  comment = text-kept IsField (codes "c") is_field request r.comment is_field-is
      passes.comment is.comment;
  home = text-kept IsField (codes "d") is_folder request r.home is_folder-is passes.home is.home;
  shell = text-kept IsField (codes "s") is_shell request r.shell is_shell-is passes.shell is.shell;
}

-- ---- shadow

-- a text behind its first bytes
field-drop : (count : ℕ) (text : List ℕ) → IsField text → IsField (drop count text)
field-drop count text is = record {
  no_colon = lacks-drop colon count text is.no_colon;
  no_newline = lacks-drop newline count text is.no_newline;
}

-- one of two fields
pub either-field :
    (test : Bool) (a b : List ℕ)
    → IsField a
    → IsField b
    → IsField (if test then a else b)
either-field true a b is_a is_b = is_a
either-field false a b is_a is_b = is_b

-- a hash behind `!`
pub locked-hash-field : (hash : List ℕ) → IsField hash → IsField (locked_hash hash)
locked-hash-field hash is = either-field (begins_with exclamation hash) hash (locked ++ hash) is
    (record {
      no_colon = (locked-field.no_colon.0, is.no_colon);
      no_newline = (locked-field.no_newline.0, is.no_newline);
    })

-- a hash without a leading `!`
pub unlocked-hash-field : (hash : List ℕ) → IsField hash → IsField (unlocked_hash hash)
unlocked-hash-field hash is =
    either-field (begins_with exclamation hash) (drop 1 hash) hash (field-drop 1 hash is) is

-- the hash that `-L` and `-U` leave
relocked-field :
    (request : Request) (hash : List ℕ)
    → IsField hash
    → IsField (relocked_hash request hash)
relocked-field request hash is =
    either-field (has_option (codes "L") request) _ _ (locked-hash-field hash is)
    (either-field (has_option (codes "U") request) _ _ (unlocked-hash-field hash is) is)

-- the new hash
hash-after-field :
    (request : Request) (files : Files) (hash : List ℕ)
    → UsermodPasses request files
    → IsField hash
    → IsField (hash_after request hash)
hash-after-field request files hash passes is =
    text-kept IsField (codes "p") is_field request (relocked_hash request hash)
    is_field-is passes.hash (relocked-field request hash is)

-- the day, or the old last change
last-change-by :
    (day : ℕ) (old : Option ℕ) (set : Bool)
    → day ≤ greatest_days
    → IsDaysNumber old
    → IsDaysNumber (if set then Some day else old)
last-change-by day old true small is = small
last-change-by day old false small is = is

-- a line of shadow
changed-shadow-held :
    (request : Request) (files : Files) (day : ℕ) (r : ShadowRecord)
    → UsermodPasses request files
    → day ≤ greatest_days
    → IsShadow r
    → IsShadow (changed_shadow request day r)
changed-shadow-held request files day r passes small is = record {
  name = new-name-field request files passes;
  hash = is.hash;
  last_change = last-change-by day r.last_change (has_option (codes "p") request)
      small is.last_change;
  minimum = is.minimum;
  maximum = is.maximum;
  warning = is.warning;
  inactive = field-kept IsDaysNumber days_value (codes "f") request r.inactive
      days-held is.inactive;
  expiration = field-kept IsDaysNumber expiration_value (codes "e") request r.expiration
      expiration-held is.expiration;
  rest = is.rest;
}

-- the line on demand, and the hash
hash-script-lawful :
    {day : ℕ} (request : Request) (files : Files)
    → UsermodPasses request files
    → IsLawful day true false (usermod_names request files) (hash_script request files)
hash-script-lawful request files passes =
    let named = usermod_names request files
    in let composed = lawful-composed named
    in let has = first-has (operand request) []
    in all-hold composed
    ((if sets_hash request || sets_aging request
    then demand_shadow (operand request) files else no_edits)
    ∷ (if sets_hash request then each_user_hash (operand request) (hash_after request)
    files else no_edits)
    ∷ []) (
      either-holds composed (sets_hash request || sets_aging request) _ no_edits
          (demand-lawful named (operand request) has files) composed.none,
      (
        either-holds composed (sets_hash request) _ no_edits
            (hash-lawful named (operand request) has (hash_after request) files
            (λ hash is. hash-after-field request files hash passes is))
            composed.none,
        tt,
      ),
    )

-- ---- Lists

-- a name that differs from the one it takes the place of
name-by :
    (old : List ℕ) (given : Option (List ℕ))
    → ((name : List ℕ) → given ≡ Some name → IsListed name)
    → bytes_eq old (unwrap_or given old) ≡ false
    → IsListed (unwrap_or given old)
name-by old None good other = absurd (true≢false (sym ((bytes_eq-Decides old old).1 refl) ∙ other))
name-by old (Some name) good other = good name refl

-- a new name can stand in a list
new-name-listed :
    (request : Request) (files : Files)
    → UsermodPasses request files
    → bytes_eq (operand request) (new_name request) ≡ false
    → IsListed (new_name request)
new-name-listed request files passes other =
    name-by (operand request) (value_of (codes "l") request)
    (λ name given. valid-listed name (good-value (codes "l") is_valid_name request name
    passes.name given)) other

-- a name that is added to some group
listable-by :
    (name group : List ℕ) (groups : List GroupRecord)
    → (if is_empty groups then None else bad_list_name name) ≡ None
    → is_listed group (map (λ r. r.name) groups) ≡ true
    → bad_list_name name ≡ None
listable-by name group [] none listed = cc
listable-by name group (first ∷ groups) none listed = none

-- LOGIN can stand in a list to which it is added
login-listed :
    (request : Request) (files : Files) (group : List ℕ)
    → UsermodPasses request files
    → is_listed_group request files group ≡ true
    → IsListed (operand request)
login-listed request files group passes listed = user-listed (operand request) files passes.there
    (listable-by (operand request) group (given_groups request files) passes.listable listed)

-- members that `-G` changes, by what it asks
joined-by :
    (request : Request) (files : Files) (group : List ℕ) (members : List (List ℕ))
    (asked listed appended : Bool)
    → UsermodPasses request files
    → is_listed_group request files group ≡ listed
    → AllByRecursion IsListed members
    → AllByRecursion IsListed (if not asked then members else
    (if listed then with_name (operand request) members else
    (if appended then members else without_name (operand request) members)))
joined-by request files group members false listed appended passes is all = all
joined-by request files group members true true appended passes is all =
    with-listed (operand request) members (login-listed request files group passes is) all
joined-by request files group members true false true passes is all = all
joined-by request files group members true false false passes is all =
    without-listed (operand request) members all

-- members of a group
members-after-listed :
    (request : Request) (files : Files) (group : List ℕ) (members : List (List ℕ))
    → UsermodPasses request files
    → AllByRecursion IsListed members
    → AllByRecursion IsListed (members_after request files group members)
members-after-listed request files group members passes all =
    renamed-listed (operand request) (new_name request) (joined_or_left request files group members)
    (new-name-listed request files passes)
    (joined-by request files group members (has_option (codes "G") request)
    (is_listed_group request files group)
    (has_option (codes "a") request) passes refl all)

-- a line of group
changed-group-held :
    (request : Request) (files : Files) (r : GroupRecord)
    → UsermodPasses request files
    → IsGroup r
    → IsGroup (changed_group request files r)
changed-group-held request files r passes is = record {
  name = is.name;
  password = is.password;
  gid = is.gid;
  members = members-after-listed request files r.name r.members passes is.members;
}

-- a line of gshadow
changed-gshadow-held :
    (request : Request) (files : Files) (r : GshadowRecord)
    → UsermodPasses request files
    → IsGshadow r
    → IsGshadow (changed_gshadow request files r)
changed-gshadow-held request files r passes is = record {
  name = is.name;
  password = is.password;
  administrators = renamed-listed (operand request) (new_name request) r.administrators
      (new-name-listed request files passes) is.administrators;
  members = members-after-listed request files r.name r.members passes is.members;
}

-- ---- The whole

-- each table once
change-user-written :
    (request : Request) (files : Files) (day : ℕ)
    → UsermodPasses request files
    → IsWrittenOn day (change_user request files day)
change-user-written request files day passes = record {
  passwd = all-if _ (sets_passwd request) _
      (each_where-written passwd_format IsPasswd passwd-holds
      (is_named passwd_format (operand request))
      (changed_user request files) (λ r is. changed-user-held request files r passes is));
  shadow = λ small. all-if _ (sets_shadow request) _
      (each_where-written shadow_format IsShadow shadow-holds
      (is_named shadow_format (operand request))
      (changed_shadow request day) (λ r is. changed-shadow-held request files
      day r passes small is));
  group = all-if _ (sets_lists request) _
      (each-written group_format IsGroup group-holds (changed_group request files)
      (λ r is. changed-group-held request files r passes is));
  gshadow = all-if _ (sets_lists request) _
      (each-written gshadow_format IsGshadow gshadow-holds (changed_gshadow request files)
      (λ r is. changed-gshadow-held request files r passes is));
  subuid = range-edits-written (range_owner request files) (subuid_change request files)
      (new-name-field request files passes)
      (added-ordered files.subuid (range_owner request files) (codes "V") (codes "v") request);
  subgid = range-edits-written (range_owner request files) (subgid_change request files)
      (new-name-field request files passes)
      (added-ordered files.subgid (range_owner request files) (codes "W") (codes "w") request);
}

-- usermod sets tested values
pub usermod-lawful : LawfulTool Usermod
usermod-lawful request input day files settings = quiet-act refl refl refl (λ none.
    let passes = usermod-passes request files none
    in (lawful-composed (usermod_names request files)).both
    (hash_script request files) (change_user request files day)
    (hash-script-lawful request files passes)
    (record {
      written = change-user-written request files day passes;
      spares = change-spares request files day;
      keep = may-give;
    }))
