-- Claims: a change that lets a user leave all groups, or renames it in them, needs its key
-- (`group-leaver`, `gshadow-leaver`). Way: a record without the key of a name doesn't list the name, and
-- stays.
use Rattle.std.proofs.Common.{subst, ◌≡◌, ◌∙◌, ℕ, false, List, [], ◌∷◌, ◌++◌, sym, ap}
use Rattle.std.specs.Prelude.{◌==◌, IfSome, Option, Some, None}
use Rattle.std.proofs.lemmas.List.Folds.{list_any-append}
use Rattle.account_model.specs.declared.records.GroupRecord.{GroupRecord}
use Rattle.account_model.specs.declared.records.GshadowRecord.{GshadowRecord}
use Rattle.account_model.specs.Text.{is_listed}
use Rattle.account_model.specs.Members.{without_name}
use Rattle.acct_tables.specs.NameHashes.{name_hash}
use Rattle.line_edits.specs.GroupChanges.{group_becomes}
use Rattle.line_edits.specs.GshadowChanges.{gshadow_becomes}
use Rattle.line_edits.specs.declared.group_changes.GroupAct.{GroupAct}
use Rattle.line_edits.specs.declared.group_changes.GroupAct.TheVariants.{RemoveMember as GroupRemoveMember, SetMembership as GroupSetMembership}
use Rattle.line_edits.specs.declared.group_changes.GroupChange.TheVariants.{All as AllGroups}
use Rattle.line_edits.specs.declared.gshadow_changes.GshadowAct.{GshadowAct}
use Rattle.line_edits.specs.declared.gshadow_changes.GshadowAct.TheVariants.{RemoveUser as GshadowRemoveUser, SetMembership as GshadowSetMembership}
use Rattle.line_edits.specs.declared.gshadow_changes.GshadowChange.TheVariants.{All as AllGshadows}
use Rattle.line_edits.specs.declared.memberships.Membership.{Membership}
use Rattle.line_edits.proofs.LeftLemmas.{left-group, left-gshadow, neither, without-unlisted}
use Rattle.acct_tables.specs.KeyPlaces.{has_key}
use Rattle.table.specs.Keys.{IsGroupLeaver, IsGshadowLeaver, IsLeaver, Needs, group_keys, gshadow_keys, name_keys, own_key}
use Rattle.table.proofs.MemberKeys.{keyless-unlisted}

module _ (user : List ℕ) where
  -- the user isn't in the list
  not-in :
      (r : GroupRecord)
      → has_key (name_hash user) (group_keys r) ≡ false
      → is_listed user r.members ≡ false
  not-in r none =
      keyless-unlisted user r.members (neither (own_key r.name == name_hash user)
      (has_key (name_hash user) (name_keys r.members)) none).1

  -- a user leaves all groups
  leaves-group :
      Needs group_keys (group_becomes (AllGroups (GroupRemoveMember user))) (name_hash user)
  leaves-group = λ r none.
      ap (λ members. record r { members = members } ∷ [])
      (without-unlisted user r.members (not-in r none))

  -- the user is in neither list
  in-neither :
      (r : GshadowRecord)
      → has_key (name_hash user) (gshadow_keys r) ≡ false
      → (is_listed user r.administrators ≡ false) × (is_listed user r.members ≡ false)
  in-neither r none =
      let lists = neither (own_key r.name == name_hash user)
      (has_key (name_hash user) (name_keys r.administrators ++ name_keys r.members)) none in
      let both = neither (has_key (name_hash user) (name_keys r.administrators))
      (has_key (name_hash user) (name_keys r.members))
      (sym (list_any-append (λ other. other == name_hash user) (name_keys r.administrators)
      (name_keys r.members)) ∙ lists.1) in
      (keyless-unlisted user r.administrators both.0, keyless-unlisted user r.members both.1)

  -- and both lists of all records of gshadow
  leaves-gshadow :
      Needs gshadow_keys (gshadow_becomes (AllGshadows (GshadowRemoveUser user))) (name_hash user)
  leaves-gshadow = λ r none.
      let apart = in-neither r none in
      ap (λ names. record r {
        administrators = names;
        members = without_name user r.members;
      } ∷ []) (without-unlisted user r.administrators apart.0)
      ∙ ap (λ members. record r { members = members } ∷ [])
      (without-unlisted user r.members apart.1)

-- a user who joins none is renamed or leaves, in group
leaver-group :
    (membership : Membership) (key : ℕ)
    → IsLeaver membership key
    → Needs group_keys (group_becomes (AllGroups (GroupSetMembership membership))) key
leaver-group membership key leaver = λ r none.
    ap (λ group. group ∷ []) (left-group membership r (leaver.joins_none r.name)
    (not-in membership.user r (ap (λ key. has_key key (group_keys r)) (sym leaver.user) ∙ none)))

-- and in gshadow
leaver-gshadow :
    (membership : Membership) (key : ℕ)
    → IsLeaver membership key
    → Needs gshadow_keys (gshadow_becomes (AllGshadows (GshadowSetMembership membership))) key
leaver-gshadow membership key leaver = λ r none.
    let apart = in-neither membership.user r
    (ap (λ key. has_key key (gshadow_keys r)) (sym leaver.user) ∙ none) in
    ap (λ group. group ∷ []) (left-gshadow membership r (leaver.joins_none r.name) apart.0 apart.1)

-- an act with all groups
pub group-leaver :
    (act : GroupAct) (key : Option ℕ)
    → IfSome key (IsGroupLeaver act)
    → IfSome key (Needs group_keys (group_becomes (AllGroups act)))
group-leaver act None is = tt
group-leaver (GroupRemoveMember user) (Some key) is =
    subst (Needs group_keys (group_becomes (AllGroups (GroupRemoveMember user)))) (sym is)
    (leaves-group user)
group-leaver (GroupSetMembership membership) (Some key) is = leaver-group membership key is
group-leaver _ (Some key) is = absurd is

-- and with all records of gshadow
pub gshadow-leaver :
    (act : GshadowAct) (key : Option ℕ)
    → IfSome key (IsGshadowLeaver act)
    → IfSome key (Needs gshadow_keys (gshadow_becomes (AllGshadows act)))
gshadow-leaver act None is = tt
gshadow-leaver (GshadowRemoveUser user) (Some key) is =
    subst (Needs gshadow_keys (gshadow_becomes (AllGshadows (GshadowRemoveUser user)))) (sym is)
    (leaves-gshadow user)
gshadow-leaver (GshadowSetMembership membership) (Some key) is =
    leaver-gshadow membership key is
gshadow-leaver _ (Some key) is = absurd is
