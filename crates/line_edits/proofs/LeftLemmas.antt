-- Claim: what leaves the record that a line shows leaves the line (`leaves-shown`). A list without a user
-- stays without it (`without-unlisted`), and so does a group that the user doesn't join (`left-group`,
-- `left-gshadow`). Way: list by list.
use Rattle.std.proofs.Common.{◌≡◌, ℕ, true, false, Bool, List, [], ◌∷◌, refl, sym, ◌∙◌, ap, subst}
use Rattle.std.specs.Prelude.{◌||◌, not, bytes_eq, Some}
use Rattle.account_model.specs.Format.{Format}
use Rattle.account_model.specs.declared.records.GroupRecord.{GroupRecord}
use Rattle.account_model.specs.declared.records.GshadowRecord.{GshadowRecord}
use Rattle.account_model.specs.Members.{renamed_in, without_name}
use Rattle.account_model.specs.Text.{is_listed}
use Rattle.account_model.proofs.RenamingLaws.{flipped, unlisted_stays}
use Rattle.line_edits.specs.Naming.{LeavesIt}
use Rattle.line_edits.specs.Memberships.{group_by, gshadow_by, joins, members_by, members_with}
use Rattle.line_edits.specs.declared.memberships.Membership.{Membership}
use Rattle.line_edits.specs.declared.memberships.UserGroups.{UserGroups}
use Rattle.line_edits.specs.declared.memberships.UserGroups.TheVariants.{Kept, Also, Only}

-- what isn't so is false
pub isn't : (test : Bool) → not test ≡ true → test ≡ false
isn't true other = absurd cc
isn't false other = refl

-- what isn't otherwise is so
pub so : (test : Bool) → not test ≡ false → test ≡ true
so true is = refl
so false is = absurd cc

-- what leaves the record of a line leaves the line
pub leaves-shown :
    {R : Type 0} (format : Format R) (f : R → List R) (line : List ℕ) (shown : R)
    → format.read line ≡ Some shown
    → f shown ≡ shown ∷ []
    → LeavesIt format f line
leaves-shown format f line shown reads left = λ r read.
    let found : Some shown ≡ Some r = sym reads ∙ read in
    let same : shown ≡ r = cc in
    subst (λ r. f r ≡ r ∷ []) same left

-- neither of two tests
pub neither : (one other : Bool) → (one || other) ≡ false → (one ≡ false) × (other ≡ false)
neither true other none = absurd cc
neither false other none = (refl, none)

-- names without one that isn't among them are the same
pub without-unlisted :
    (name : List ℕ) (names : List (List ℕ))
    → is_listed name names ≡ false
    → without_name name names ≡ names
without-unlisted name [] unlisted = refl
without-unlisted name (other ∷ names) unlisted =
    let both = neither (bytes_eq name other) (is_listed name names) unlisted in
    rw (flipped name other both.0) (ap (λ rest. other ∷ rest) (without-unlisted name names both.1))

-- members without the user, who doesn't join their group, are the same
unjoined-with :
    (groups : UserGroups) (user group : List ℕ) (members : List (List ℕ))
    → joins groups group ≡ false
    → is_listed user members ≡ false
    → members_with groups user group members ≡ members
unjoined-with Kept user group members other unlisted = refl
unjoined-with (Also groups) user group members other unlisted = rw other refl
unjoined-with (Only groups) user group members other unlisted =
    rw other (without-unlisted user members unlisted)

-- and so once the user is renamed in them
unjoined :
    (membership : Membership) (group : List ℕ) (members : List (List ℕ))
    → joins membership.groups group ≡ false
    → is_listed membership.user members ≡ false
    → members_by membership group members ≡ members
unjoined membership group members other unlisted =
    ap (renamed_in membership.user membership.new_name)
    (unjoined-with membership.groups membership.user group members other unlisted)
    ∙ unlisted_stays membership.user membership.new_name members unlisted

-- a group that the user doesn't join and that doesn't list it stays
pub left-group :
    (membership : Membership) (group : GroupRecord)
    → joins membership.groups group.name ≡ false
    → is_listed membership.user group.members ≡ false
    → group_by membership group ≡ group
left-group membership group other unlisted =
    ap (λ members. record group { members = members })
    (unjoined membership group.name group.members other unlisted)

-- and so does a record of gshadow
pub left-gshadow :
    (membership : Membership) (group : GshadowRecord)
    → joins membership.groups group.name ≡ false
    → is_listed membership.user group.administrators ≡ false
    → is_listed membership.user group.members ≡ false
    → gshadow_by membership group ≡ group
left-gshadow membership group other apart unlisted =
    ap (λ names. record group {
      administrators = names;
      members = members_by membership group.name group.members;
    }) (unlisted_stays membership.user membership.new_name group.administrators apart)
    ∙ ap (λ names. record group { members = names })
    (unjoined membership group.name group.members other unlisted)
