-- Claim: a record whose line is without a name doesn't have it (`other-record`, `unlisted-name`), so the
-- names that a change touches are its marks (`named-marks`). A group whose line is without a user doesn't
-- list it (`unlisted-group`, `unlisted-gshadow`), so acts that take the user from a list leave the group,
-- and those that rename it or let it join other groups (`kept-group`, `kept-gshadow`). A user whose line
-- is without the text of a GID has another primary group (`primary-marks`). Way: the line of a record
-- has its fields, and a field with names has each of these.
use Rattle.std.proofs.Common.{◌≡◌, ◌∙◌, ℕ, true, false, inl, inr, List, [], ◌∷◌, refl, sym, ap, subst}
use Rattle.std.specs.Prelude.{◌==◌, ◌||◌, bytes_eq, map, IfSome, Option, Some, None, if◌then◌else◌}
use Rattle.std.specs.Fmt.{decimal}
use Rattle.std.specs.List.{join_with_byte}
use Rattle.std.specs.Vec.{vec_items}
use Rattle.std.proofs.lemmas.Bool.{cases_Bool, eqb-true}
use Rattle.std.proofs.lemmas.Slice.Eq.{bytes_eq-Decides}
use Rattle.acct_text.specs.Bytes.{colon}
use Rattle.account_model.specs.Format.{Format, is_named}
use Rattle.account_model.specs.Naming.{NamesFirst}
use Rattle.account_model.specs.Reads.{AreNames}
use Rattle.account_model.specs.Records.{group_format, gshadow_format, passwd_format}
use Rattle.account_model.specs.Text.{comma, is_listed, nonempty}
use Rattle.account_model.specs.declared.records.GroupRecord.{GroupRecord}
use Rattle.account_model.specs.declared.records.GshadowRecord.{GshadowRecord}
use Rattle.account_model.specs.declared.records.PasswdRecord.{PasswdRecord}
use Rattle.account_model.proofs.NamingLaws.{group-names_first, gshadow-names_first}
use Rattle.account_model.proofs.ReadsLaws.{group-is, gshadow-is}
use Rattle.account_model.specs.Members.{without_name}
use Rattle.acct_tables.specs.Marks.{HoldsMark, IsWithout, IsWithoutAll, marks_in}
use Rattle.acct_tables.specs.declared.marks.Marks.{Marks}
use Rattle.acct_tables.proofs.FieldMarks.{holds-primary, holds-self, joined-first, joined-rest}
use Rattle.acct_tables.proofs.MarkedRecords.{unnamed}
use Rattle.line_edits.specs.GroupChanges.{group_becomes}
use Rattle.line_edits.specs.GshadowChanges.{gshadow_becomes}
use Rattle.line_edits.specs.Memberships.{AreMarksIn}
use Rattle.line_edits.specs.Naming.{AreMarksOf, TouchesOnly}
use Rattle.line_edits.specs.PasswdChanges.{passwd_after, passwd_becomes}
use Rattle.line_edits.specs.declared.group_changes.GroupAct.TheVariants.{RemoveMember, SetMembership as SetMembershipGroup}
use Rattle.line_edits.specs.declared.group_changes.GroupChange.TheVariants.{All as AllGroups}
use Rattle.line_edits.specs.declared.gshadow_changes.GshadowAct.TheVariants.{RemoveUser, SetMembership as SetMembershipGshadow}
use Rattle.line_edits.specs.declared.gshadow_changes.GshadowChange.TheVariants.{All as AllGshadows}
use Rattle.line_edits.specs.declared.memberships.Membership.{Membership}
use Rattle.line_edits.specs.declared.passwd_changes.PasswdAct.{PasswdAct}
use Rattle.line_edits.specs.declared.passwd_changes.PasswdChange.{PasswdChange}
use Rattle.line_edits.specs.declared.passwd_changes.PasswdChange.TheVariants.{OfGroup}
use Rattle.line_edits.proofs.LeftLemmas.{left-group, left-gshadow, without-unlisted}

-- a record whose line is without the name has another
pub other-record :
    {R : Type 0} (format : Format R)
    → NamesFirst format
    → (name line : List ℕ) (r : R)
    → format.read line ≡ Some r
    → IsWithout name line
    → is_named format name r ≡ false
other-record format first name line r read without =
    sym (ap (λ found. elim found [ None ↦ false | Some s ↦ is_named format name s ]) read)
    ∙ unnamed format first name line without

-- ---- Names in a list

-- names that are joined have each that is listed
listed-holds :
    (name : List ℕ) (pieces : List (List ℕ))
    → is_listed name (nonempty pieces) ≡ true
    → HoldsMark name (join_with_byte comma pieces)
listed-holds name [] listed = absurd cc
listed-holds name ([] ∷ rest) listed =
    joined-rest name comma [] rest (listed-holds name rest listed)
listed-holds name ((byte ∷ piece) ∷ rest) listed =
    elim (cases_Bool (bytes_eq name (byte ∷ piece))) [
      | inl same ↦ joined-first name comma (byte ∷ piece) rest
          (subst (HoldsMark name) ((bytes_eq-Decides name (byte ∷ piece)).0 same) (holds-self name))
      | inr other ↦ joined-rest name comma (byte ∷ piece) rest (listed-holds name rest
          (sym (ap (λ test. test || is_listed name (nonempty rest)) other) ∙ listed))
    ]

-- a text without the name doesn't list it
unlisted :
    (name text : List ℕ) (names : List (List ℕ))
    → AreNames text names
    → IsWithout name text
    → is_listed name names ≡ false
unlisted name text names are without = elim (cases_Bool (is_listed name names)) [
  | inl listed ↦ absurd (without (subst (HoldsMark name) are.cut.joined
      (listed-holds name are.pieces (sym (ap (is_listed name) are.dropped) ∙ listed))))
  | inr none ↦ none
]

-- a user isn't removed from a group that doesn't list it
pub left-unlisted-group :
    (user : List ℕ) (group : GroupRecord)
    → is_listed user group.members ≡ false
    → group_becomes (AllGroups (RemoveMember user)) group ≡ group ∷ []
left-unlisted-group user group other =
    ap (λ members. record group { members = members } ∷ [])
    (without-unlisted user group.members other)

-- nor from one in gshadow
pub left-unlisted-gshadow :
    (user : List ℕ) (group : GshadowRecord)
    → is_listed user group.administrators ≡ false
    → is_listed user group.members ≡ false
    → gshadow_becomes (AllGshadows (RemoveUser user)) group ≡ group ∷ []
left-unlisted-gshadow user group apart other =
    ap (λ names. record group {
      administrators = names;
      members = without_name user group.members;
    } ∷ []) (without-unlisted user group.administrators apart)
    ∙ ap (λ names. record group { members = names } ∷ [])
    (without-unlisted user group.members other)

module _ (user line : List ℕ) (without : IsWithout user line) where
  module _ (group : GroupRecord) (read : group_format.read line ≡ Some group) where
    -- a line of group without the user doesn't list it
    pub unlisted-group : is_listed user group.members ≡ false
    unlisted-group =
        let reads = group-is line group read in
        unlisted user reads.members group.members reads.members_read
        (λ holds. without (subst (HoldsMark user) reads.cut.joined
        (joined-rest user colon group.name (group.password ∷ reads.gid ∷ reads.members ∷ [])
        (joined-rest user colon group.password (reads.gid ∷ reads.members ∷ [])
        (joined-rest user colon reads.gid (reads.members ∷ []) holds)))))

    -- the user isn't removed from it
    pub left-member : group_becomes (AllGroups (RemoveMember user)) group ≡ group ∷ []
    left-member = left-unlisted-group user group unlisted-group

  module _ (group : GshadowRecord) (read : gshadow_format.read line ≡ Some group) where
    -- a line of gshadow without the user doesn't list it as administrator
    pub unlisted-administrator : is_listed user group.administrators ≡ false
    unlisted-administrator =
        let reads = gshadow-is line group read in
        unlisted user reads.administrators group.administrators reads.administrators_read
        (λ holds. without (subst (HoldsMark user) reads.cut.joined
        (joined-rest user colon group.name
        (group.password ∷ reads.administrators ∷ reads.members ∷ [])
        (joined-rest user colon group.password (reads.administrators ∷ reads.members ∷ [])
        (joined-first user colon reads.administrators (reads.members ∷ []) holds)))))

    -- nor as member
    pub unlisted-gshadow : is_listed user group.members ≡ false
    unlisted-gshadow =
        let reads = gshadow-is line group read in
        unlisted user reads.members group.members reads.members_read
        (λ holds. without (subst (HoldsMark user) reads.cut.joined
        (joined-rest user colon group.name
        (group.password ∷ reads.administrators ∷ reads.members ∷ [])
        (joined-rest user colon group.password (reads.administrators ∷ reads.members ∷ [])
        (joined-rest user colon reads.administrators (reads.members ∷ []) holds)))))

    -- the user isn't removed from it
    pub left-user : gshadow_becomes (AllGshadows (RemoveUser user)) group ≡ group ∷ []
    left-user = left-unlisted-gshadow user group unlisted-administrator unlisted-gshadow

-- ---- Marks of changes

-- a record whose line is without names has none of them
pub unlisted-name :
    {R : Type 0} (format : Format R)
    → NamesFirst format
    → (names : List (List ℕ)) (line : List ℕ) (r : R)
    → format.read line ≡ Some r
    → IsWithoutAll names line
    → is_listed (format.name r) names ≡ false
unlisted-name format first [] line r read without = refl
unlisted-name format first (name ∷ names) line r read without =
    ap (λ same. same || is_listed (format.name r) names)
    (other-record format first name line r read without.0)
    ∙ unlisted-name format first names line r read without.1

-- what touches records of some names alone has these for its marks
pub named-marks :
    {R : Type 0} (format : Format R)
    → NamesFirst format
    → (f : R → List R) (names marks : List (List ℕ))
    → marks ≡ names
    → TouchesOnly format f names
    → AreMarksOf format f marks
named-marks format first f names marks is only = λ line without r read.
    only r (unlisted-name format first names line r read
    (subst (λ found. IsWithoutAll found line) is without))

-- a group whose line is without the marks of a membership stays
pub kept-group :
    (marks : Option Marks) (membership : Membership)
    → IfSome marks (AreMarksIn membership)
    → IfSome marks (λ m.
    AreMarksOf group_format (group_becomes (AllGroups (SetMembershipGroup membership)))
    (marks_in m))
kept-group None membership is = tt
kept-group (Some marks) membership is = λ line without group read.
    ap (λ group. group ∷ []) (left-group membership group
    (sym (is.joined group.name)
    ∙ unlisted-name group_format group-names_first (map vec_items marks.others.now) line
    group read without.1)
    (unlisted-group membership.user line (subst (λ user. IsWithout user line) is.user without.0)
    group read))

-- and so does a record of gshadow
pub kept-gshadow :
    (marks : Option Marks) (membership : Membership)
    → IfSome marks (AreMarksIn membership)
    → IfSome marks (λ m.
    AreMarksOf gshadow_format (gshadow_becomes (AllGshadows (SetMembershipGshadow membership)))
    (marks_in m))
kept-gshadow None membership is = tt
kept-gshadow (Some marks) membership is = λ line without group read.
    let user = subst (λ user. IsWithout user line) is.user without.0 in
    ap (λ group. group ∷ []) (left-gshadow membership group
    (sym (is.joined group.name)
    ∙ unlisted-name gshadow_format gshadow-names_first (map vec_items marks.others.now) line
    group read without.1)
    (unlisted-administrator membership.user line user group read)
    (unlisted-gshadow membership.user line user group read))

-- a user whose line is without the text of a GID has another primary group
other-primary :
    (gid : ℕ) (line : List ℕ) (user : PasswdRecord)
    → passwd_format.read line ≡ Some user
    → IsWithout (decimal gid) line
    → (user.gid == gid) ≡ false
other-primary gid line user read without = elim (cases_Bool (user.gid == gid)) [
  | inl same ↦ absurd (without (subst (λ number. HoldsMark (decimal number) line)
      (eqb-true user.gid gid same) (holds-primary line user read)))
  | inr other ↦ other
]

-- an act with the users of a primary group has the text of its GID for its mark
pub primary-marks :
    (gid : ℕ) (act : PasswdAct) (change : PasswdChange) (marks : List (List ℕ))
    → change ≡ OfGroup gid act
    → marks ≡ decimal gid ∷ []
    → AreMarksOf passwd_format (passwd_becomes change) marks
primary-marks gid act change marks change_is is = λ line without user read.
    ap (λ change. passwd_becomes change user) change_is
    ∙ ap (λ same. (if same then passwd_after act user else user) ∷ [])
    (other-primary gid line user read
    (subst (λ found. IsWithoutAll found line) is without).0)
