-- Claim: a change of the records of a name touches these alone (`touches-name`). A membership touches
-- only the groups that the user joins where it leaves none and keeps its name (`joined-group`,
-- `joined-gshadow`). Way: act by act.
use Rattle.std.proofs.Common.{◌≡◌, ◌∙◌, ℕ, Bool, true, false, List, [], ◌∷◌, refl, sym, ap, inl, inr, ◌⊎◌, if◌then◌else◌}
use Rattle.std.specs.Prelude.{◌&&◌, not, bytes_eq, IfSome, Option, Some, None}
use Rattle.std.proofs.lemmas.Slice.Eq.{bytes_eq-Decides}
use Rattle.account_model.specs.Format.{Format, is_named}
use Rattle.account_model.specs.Records.{group_format, gshadow_format}
use Rattle.account_model.specs.Text.{is_listed}
use Rattle.account_model.specs.Members.{in_place_of, name_once, renamed_in, with_name}
use Rattle.line_edits.specs.GroupChanges.{group_becomes}
use Rattle.line_edits.specs.GshadowChanges.{gshadow_becomes}
use Rattle.line_edits.specs.Memberships.{ChangesOnlyIn, members_by, members_with}
use Rattle.line_edits.specs.Naming.{TouchesOnly, changed_named, names_in, without_named}
use Rattle.line_edits.specs.declared.group_changes.GroupAct.TheVariants.{SetMembership as GroupSetMembership}
use Rattle.line_edits.specs.declared.group_changes.GroupChange.TheVariants.{All as AllGroups}
use Rattle.line_edits.specs.declared.gshadow_changes.GshadowAct.TheVariants.{SetMembership as GshadowSetMembership}
use Rattle.line_edits.specs.declared.gshadow_changes.GshadowChange.TheVariants.{All as AllGshadows}
use Rattle.line_edits.specs.declared.memberships.Membership.{Membership}
use Rattle.line_edits.specs.declared.memberships.UserGroups.TheVariants.{Also, Kept}
use Rattle.line_edits.specs.declared.edit.ChangedNames.{ChangedNames}
use Rattle.line_edits.proofs.LeftLemmas.{neither}

-- a record of another name than one
pub unnamed :
    (name other : List ℕ) → is_listed name (other ∷ []) ≡ false → bytes_eq name other ≡ false
unnamed name other unlisted = (neither (bytes_eq name other) false unlisted).0

-- a change that is told, of which the name is told
module _ {R C : Type 0} (format : Format R) (becomes : C → R → List R) (change told : C)
    (name text : List ℕ) (is : change ≡ told) (named : text ≡ name) where
  -- touches the records of the name alone, where it leaves each other one
  touches-told :
      (f : Bool → R → List R)
      → ((r : R) → becomes told r ≡ f (is_named format name r) r)
      → ((r : R) → f false r ≡ r ∷ [])
      → TouchesOnly format (becomes change) (text ∷ [])
  touches-told f gives same = λ r other.
      ap (λ change. becomes change r) is
      ∙ gives r
      ∙ ap (λ named. f named r)
      (ap (bytes_eq (format.name r)) (sym named) ∙ unnamed (format.name r) text other)
      ∙ same r

  -- so does an act with them
  pub touches-named :
      (after : R → R)
      → ((r : R) → becomes told r ≡ changed_named format name after r)
      → TouchesOnly format (becomes change) (text ∷ [])
  touches-named after gives =
      touches-told (λ named r. (if named then after r else r) ∷ []) gives (λ r. refl)

  -- and their removal
  pub touches-removed :
      ((r : R) → becomes told r ≡ without_named format name r)
      → TouchesOnly format (becomes change) (text ∷ [])
  touches-removed gives =
      touches-told (λ named r. if named then [] else r ∷ []) gives (λ r. refl)

-- what is done by an act with the records of a name, or by their removal
module _ {R A C : Type 0} (format : Format R) (becomes : C → R → List R)
    (acting : List ℕ → A → C) (removing : List ℕ → C) (after : A → R → R)
    (acts : (name : List ℕ) (act : A) (r : R)
    → becomes (acting name act) r ≡ changed_named format name (after act) r)
    (removes : (name : List ℕ) (r : R)
    → becomes (removing name) r ≡ without_named format name r) where
  -- touches them alone
  pub touches-name :
      (change : C) (name text : List ℕ)
      → ((act : A) × (change ≡ acting name act)) ⊎ (change ≡ removing name)
      → text ≡ name
      → TouchesOnly format (becomes change) (text ∷ [])
  touches-name change name text (inl told) named =
      touches-named format becomes change (acting name told.0) name text told.1 named
      (after told.0) (acts name told.0)
  touches-name change name text (inr told) named =
      touches-removed format becomes change (removing name) name text told named (removes name)

-- ---- Memberships

-- a user who keeps its name and its groups changes in none
pub kept-only :
    (membership : Membership)
    → membership.user ≡ membership.new_name
    → membership.groups ≡ Kept
    → ChangesOnlyIn membership []
kept-only membership name is = record {
  name = name;
  others = λ group members other.
      ap (λ groups. members_with groups membership.user group members) is;
}

-- one who keeps its name and joins groups changes in these
pub also-only :
    (membership : Membership) (groups names : List (List ℕ))
    → membership.user ≡ membership.new_name
    → membership.groups ≡ Also groups
    → ((name : List ℕ) → is_listed name names ≡ is_listed name groups)
    → ChangesOnlyIn membership names
also-only membership groups names name is listed = record {
  name = name;
  others = λ group members other.
      ap (λ groups. members_with groups membership.user group members) is
      ∙ ap (λ joins. if joins then with_name membership.user members else members)
      (sym (listed group) ∙ other);
}

-- a name isn't renamed to itself, by whether it is listed
same-by :
    (listed same : Bool) (new names : List (List ℕ))
    → same ≡ true
    → (if listed && not same then new else names) ≡ names
same-by true true new names is = refl
same-by true false new names is = absurd cc
same-by false same new names is = refl

-- a list in which a name gets the same name stays
pub same-renamed :
    (old new : List ℕ) (names : List (List ℕ)) → old ≡ new → renamed_in old new names ≡ names
same-renamed old new names is =
    same-by (is_listed old names) (bytes_eq old new)
    (name_once new (in_place_of old new names)) names ((bytes_eq-Decides old new).1 is)

module _ (membership : Membership) (groups : List (List ℕ))
    (only : ChangesOnlyIn membership groups) where
  -- the members of another group stay
  members-stay :
      (group : List ℕ) (members : List (List ℕ))
      → is_listed group groups ≡ false
      → members_by membership group members ≡ members
  members-stay group members other =
      ap (renamed_in membership.user membership.new_name) (only.others group members other)
      ∙ same-renamed membership.user membership.new_name members only.name

  -- in group
  only-groups :
      TouchesOnly group_format (group_becomes (AllGroups (GroupSetMembership membership))) groups
  only-groups = λ r other.
      ap (λ members. record r { members = members } ∷ []) (members-stay r.name r.members other)

  -- in gshadow
  only-gshadows :
      TouchesOnly gshadow_format (gshadow_becomes (AllGshadows (GshadowSetMembership membership)))
      groups
  only-gshadows = λ r other.
      ap (λ names. record r {
        administrators = names;
        members = members_by membership r.name r.members;
      } ∷ []) (same-renamed membership.user membership.new_name r.administrators only.name)
      ∙ ap (λ members. record r { members = members } ∷ []) (members-stay r.name r.members other)

-- where the groups are told, in group
pub joined-group :
    (membership : Membership) (names : Option ChangedNames)
    → IfSome names (λ names. ChangesOnlyIn membership (names_in names))
    → IfSome names (λ names. TouchesOnly group_format
    (group_becomes (AllGroups (GroupSetMembership membership))) (names_in names))
joined-group membership None only = tt
joined-group membership (Some names) only = only-groups membership (names_in names) only

-- and in gshadow
pub joined-gshadow :
    (membership : Membership) (names : Option ChangedNames)
    → IfSome names (λ names. ChangesOnlyIn membership (names_in names))
    → IfSome names (λ names. TouchesOnly gshadow_format
    (gshadow_becomes (AllGshadows (GshadowSetMembership membership))) (names_in names))
joined-gshadow membership None only = tt
joined-gshadow membership (Some names) only = only-gshadows membership (names_in names) only
