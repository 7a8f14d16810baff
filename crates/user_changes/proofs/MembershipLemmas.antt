-- Claim: to change the lists of each group by what becomes of the user there is what usermod does
-- (`group-edit`, `gshadow-edit`). Way: by whether `-G` and `-a` are given.
use Rattle.std.proofs.Common.{◌≡◌, ℕ, Bool, true, false, List, [], ◌∷◌, refl}
use Rattle.std.specs.Prelude.{codes, not, if◌then◌else◌}
use Rattle.acct_text.specs.declared.files.Files.{Files}
use Rattle.account_model.specs.Edits.{each}
use Rattle.account_model.specs.Edits.Edit.{Become}
use Rattle.account_model.specs.Members.{renamed_in, with_name, without_name}
use Rattle.account_model.specs.Request.{Request, has_option, operand}
use Rattle.account_model.specs.Text.{is_listed}
use Rattle.account_model.specs.Usermod.{changed_group, changed_gshadow, members_after, new_name}
use Rattle.line_edits.specs.Memberships.{members_by, members_with}
use Rattle.line_edits.specs.declared.memberships.Membership.{Membership}
use Rattle.line_edits.specs.declared.memberships.UserGroups.TheVariants.{Kept, Also, Only}
use Rattle.user_changes.specs.Memberships.{group_edit, group_names, gshadow_edit, membership}

-- the members of a group, by whether `-G` and `-a` are given
members-given :
    (given also : Bool) (groups : List (List ℕ)) (user group : List ℕ) (members : List (List ℕ))
    → members_with (if not given then Kept else (if also then Also groups else Only groups)) user
    group members
    ≡ (if not given then members else
    (if is_listed group groups then with_name user members else
    (if also then members else without_name user members)))
members-given false also groups user group members = refl
members-given true true groups user group members = refl
members-given true false groups user group members = refl

module _ (request : Request) (files : Files) where
  -- what becomes of the user
  abbrev change : Membership
  change = membership request (group_names request files)

  -- the members of a group
  members-are :
      (group : List ℕ) (members : List (List ℕ))
      → members_by change group members ≡ members_after request files group members
  members-are group members = λ i. renamed_in (operand request) (new_name request)
      (members-given (has_option (codes "G") request) (has_option (codes "a") request)
      (group_names request files) (operand request) group members i)

  -- the edit of group
  pub group-edit : group_edit change ≡ each (changed_group request files)
  group-edit = λ i. Become (λ r. record r { members = members-are r.name r.members i } ∷ [])

  -- the edit of gshadow
  pub gshadow-edit : gshadow_edit change ≡ each (changed_gshadow request files)
  gshadow-edit = λ i. Become (λ r. record r {
    administrators = renamed_in (operand request) (new_name request) r.administrators;
    members = members-are r.name r.members i;
  } ∷ [])
