-- Claims: of the keys of a group and of a record of gshadow after an act each is a key of before, or one that
-- the act gives (`group-kept`, `gshadow-kept`). Way: act by act, a list gets no names but those.
use Rattle.std.proofs.Common.{◌≡◌, ◌∙◌, ℕ, Bool, true, false, List, [], ◌∷◌, ◌++◌, sym, ap}
use Rattle.std.specs.Prelude.{◌==◌, ◌||◌, if◌then◌else◌}
use Rattle.std.proofs.lemmas.List.Folds.{list_any-append}
use Rattle.account_model.specs.declared.records.GroupRecord.{GroupRecord}
use Rattle.account_model.specs.declared.records.GshadowRecord.{GshadowRecord}
use Rattle.account_model.specs.Text.{is_listed}
use Rattle.account_model.specs.Members.{renamed_in, with_name, without_name}
use Rattle.line_edits.specs.GroupChanges.{group_after}
use Rattle.line_edits.specs.GshadowChanges.{gshadow_after}
use Rattle.line_edits.specs.Memberships.{members_by, members_with}
use Rattle.line_edits.specs.declared.group_changes.GroupAct.{GroupAct}
use Rattle.line_edits.specs.declared.group_changes.GroupAct.TheVariants.{SetGid as GroupSetGid, Rename as GroupRename, SetPassword as GroupSetPassword, AddMember as GroupAddMember, RemoveMember as GroupRemoveMember, SetMembers as GroupSetMembers, SetMembership as GroupSetMembership}
use Rattle.line_edits.specs.declared.gshadow_changes.GshadowAct.{GshadowAct}
use Rattle.line_edits.specs.declared.gshadow_changes.GshadowAct.TheVariants.{Rename as GshadowRename, SetPassword as GshadowSetPassword, SetAdministrators as GshadowSetAdministrators, AddMember as GshadowAddMember, RemoveMember as GshadowRemoveMember, SetMembers as GshadowSetMembers, RemoveUser as GshadowRemoveUser, SetMembership as GshadowSetMembership}
use Rattle.line_edits.specs.declared.memberships.Membership.{Membership}
use Rattle.line_edits.specs.declared.memberships.UserGroups.{UserGroups}
use Rattle.line_edits.specs.declared.memberships.UserGroups.TheVariants.{Also, Kept, Only}
use Rattle.line_edits.proofs.LeftLemmas.{neither}
use Rattle.acct_tables.specs.KeyPlaces.{has_key}
use Rattle.table.specs.Keys.{either_name, group_given, group_keys, gshadow_given, gshadow_keys, name_keys, own_key}
use Rattle.table.proofs.MemberKeys.{PassesOnly, either-passes, keys-of-names, is_key_of, renamed-passed, with-passed, without-passed}

-- ---- Lists of names

module _ (passes : List ℕ → Bool) where
  -- by whether the user joins the group, or leaves it
  joined-by :
      (joins : Bool) (user : List ℕ) (members left : List (List ℕ))
      → passes user ≡ false
      → PassesOnly passes members left
      → PassesOnly passes members (if joins then with_name user members else left)
  joined-by true user members left fails only = with-passed passes user members fails
  joined-by false user members left fails only = only

  -- a user who joins or leaves brings no other name
  members-passed :
      (groups : UserGroups) (user group : List ℕ) (members : List (List ℕ))
      → passes user ≡ false
      → PassesOnly passes members (members_with groups user group members)
  members-passed Kept user group members fails passed = passed
  members-passed (Also groups) user group members fails passed =
      joined-by (is_listed group groups) user members members fails (λ passed. passed) passed
  members-passed (Only groups) user group members fails passed =
      joined-by (is_listed group groups) user members (without_name user members) fails
      (without-passed passes user members) passed

  -- nor once it is renamed
  membership-passed :
      (membership : Membership) (group : List ℕ) (members : List (List ℕ))
      → passes membership.user ≡ false
      → passes membership.new_name ≡ false
      → PassesOnly passes members (members_by membership group members)
  membership-passed membership group members fails also passed =
      members-passed membership.groups membership.user group members fails
      (renamed-passed passes membership.user membership.new_name
      (members_with membership.groups membership.user group members) also passed)

-- what names pass, their keys do
keys-passed :
    (key : ℕ) (old new : List (List ℕ))
    → PassesOnly (is_key_of key) old new
    → has_key key (name_keys new) ≡ true
    → has_key key (name_keys old) ≡ true
keys-passed key old new only has =
    keys-of-names key old ∙ only (sym (keys-of-names key new) ∙ has)

module _ (key : ℕ) where
  -- keys of which none is this have it
  none-has :
      {P : Type 0} (keys : List ℕ)
      → has_key key keys ≡ false
      → has_key key keys ≡ true
      → P
  none-has keys none has = let both : true ≡ false = sym has ∙ none in absurd cc

  -- the other keys change beside that of the name
  behind-own :
      (name : List ℕ) (old new : List ℕ)
      → (has_key key new ≡ true → has_key key old ≡ true)
      → has_key key (own_key name ∷ new) ≡ true
      → has_key key (own_key name ∷ old) ≡ true
  behind-own name old new only has =
      let is_own = own_key name == key in
      either-passes is_own (has_key key new) is_own (has_key key old) (λ is. is) only has

  -- by a new name a group has no other key than before but that
  renamed-kept :
      (name new : List ℕ) (keys : List ℕ)
      → has_key key (own_key new ∷ []) ≡ false
      → has_key key (own_key new ∷ keys) ≡ true
      → has_key key (own_key name ∷ keys) ≡ true
  renamed-kept name new keys none has =
      either-passes (own_key new == key) (has_key key keys) (own_key name == key)
      (has_key key keys) (λ is. none-has (own_key new ∷ []) none (ap (λ test. test || false) is))
      (λ has. has) has

  -- one name alone
  one-none :
      (name : List ℕ)
      → has_key key (name_keys (name ∷ [])) ≡ false
      → is_key_of key name ≡ false
  one-none name none = (neither (is_key_of key name) false none).0

  -- a membership brings either name of the user
  either-kept :
      (membership : Membership) (group : List ℕ) (members : List (List ℕ))
      → has_key key (name_keys (either_name membership)) ≡ false
      → has_key key (name_keys (members_by membership group members)) ≡ true
      → has_key key (name_keys members) ≡ true
  either-kept membership group members none =
      let both = neither (is_key_of key membership.user)
      (has_key key (name_keys (membership.new_name ∷ []))) none in
      keys-passed key members (members_by membership group members)
      (membership-passed (is_key_of key) membership group members both.0
      (one-none membership.new_name both.1))

  -- a group gets no members but those that an act brings
  pub group-kept :
      (act : GroupAct) (r : GroupRecord)
      → has_key key (group_given act) ≡ false
      → has_key key (group_keys (group_after act r)) ≡ true
      → has_key key (group_keys r) ≡ true
  group-kept (GroupSetGid gid) r none has = has
  group-kept (GroupRename name) r none has = renamed-kept r.name name (name_keys r.members) none has
  group-kept (GroupSetPassword password) r none has = has
  group-kept (GroupAddMember user) r none has =
      behind-own r.name (name_keys r.members) (name_keys (with_name user r.members))
      (keys-passed key r.members (with_name user r.members)
      (with-passed (is_key_of key) user r.members (one-none user none))) has
  group-kept (GroupRemoveMember user) r none has =
      behind-own r.name (name_keys r.members) (name_keys (without_name user r.members))
      (keys-passed key r.members (without_name user r.members)
      (without-passed (is_key_of key) user r.members)) has
  group-kept (GroupSetMembers members) r none has =
      behind-own r.name (name_keys r.members) (name_keys members)
      (none-has (name_keys members) none) has
  group-kept (GroupSetMembership membership) r none has =
      behind-own r.name (name_keys r.members) (name_keys (members_by membership r.name r.members))
      (either-kept membership r.name r.members none) has

  -- two lists get none behind the key of the name, if neither does
  pair-kept :
      (name : List ℕ) (first behind new more : List (List ℕ))
      → (has_key key (name_keys new) ≡ true → has_key key (name_keys first) ≡ true)
      → (has_key key (name_keys more) ≡ true → has_key key (name_keys behind) ≡ true)
      → has_key key (own_key name ∷ name_keys new ++ name_keys more) ≡ true
      → has_key key (own_key name ∷ name_keys first ++ name_keys behind) ≡ true
  pair-kept name first behind new more one other =
      let test : ℕ → Bool = λ other. other == key in
      behind-own name (name_keys first ++ name_keys behind) (name_keys new ++ name_keys more)
      (λ has. list_any-append test (name_keys first) (name_keys behind)
      ∙ either-passes (has_key key (name_keys new))
      (has_key key (name_keys more)) (has_key key (name_keys first))
      (has_key key (name_keys behind)) one other
      (sym (list_any-append test (name_keys new) (name_keys more)) ∙ has))

  -- a record of gshadow gets no administrators and members but those that an act brings
  pub gshadow-kept :
      (act : GshadowAct) (r : GshadowRecord)
      → has_key key (gshadow_given act) ≡ false
      → has_key key (gshadow_keys (gshadow_after act r)) ≡ true
      → has_key key (gshadow_keys r) ≡ true
  gshadow-kept (GshadowRename name) r none has =
      renamed-kept r.name name (name_keys r.administrators ++ name_keys r.members) none has
  gshadow-kept (GshadowSetPassword password) r none has = has
  gshadow-kept (GshadowSetAdministrators names) r none has =
      pair-kept r.name r.administrators r.members names r.members (none-has (name_keys names) none)
      (λ has. has) has
  gshadow-kept (GshadowAddMember user) r none has =
      pair-kept r.name r.administrators r.members r.administrators (with_name user r.members)
      (λ has. has)
      (keys-passed key r.members (with_name user r.members)
      (with-passed (is_key_of key) user r.members (one-none user none))) has
  gshadow-kept (GshadowRemoveMember user) r none has =
      pair-kept r.name r.administrators r.members r.administrators (without_name user r.members)
      (λ has. has)
      (keys-passed key r.members (without_name user r.members)
      (without-passed (is_key_of key) user r.members)) has
  gshadow-kept (GshadowSetMembers members) r none has =
      pair-kept r.name r.administrators r.members r.administrators members (λ has. has)
      (none-has (name_keys members) none) has
  gshadow-kept (GshadowRemoveUser user) r none has =
      pair-kept r.name r.administrators r.members (without_name user r.administrators)
      (without_name user r.members)
      (keys-passed key r.administrators (without_name user r.administrators)
      (without-passed (is_key_of key) user r.administrators))
      (keys-passed key r.members (without_name user r.members)
      (without-passed (is_key_of key) user r.members)) has
  gshadow-kept (GshadowSetMembership membership) r none has =
      let both = neither (is_key_of key membership.user)
      (has_key key (name_keys (membership.new_name ∷ []))) none in
      let user = membership.user in
      let new_name = membership.new_name in
      pair-kept r.name r.administrators r.members (renamed_in user new_name r.administrators)
      (members_by membership r.name r.members)
      (keys-passed key r.administrators (renamed_in user new_name r.administrators)
      (renamed-passed (is_key_of key) user new_name r.administrators
      (one-none new_name both.1)))
      (either-kept membership r.name r.members none) has
