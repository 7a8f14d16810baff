-- gpasswd GROUP (gpasswd(1)): administers a group.
use Rattle.std.specs.Prelude.{ℕ, Bool, ◌||◌, not, List, [], ◌∷◌, codes, Option, option_map, unwrap_or}
use Rattle.acct_text.specs.declared.files.Files.{Files}
use Rattle.account_model.specs.declared.refusal.Refusal.{Refusal}
use Rattle.account_model.specs.declared.refusal.Refusal.TheVariants.{NotMember}
use Rattle.account_model.specs.Text.{is_listed}
use Rattle.account_model.specs.Tables.{Script, in_order}
use Rattle.account_model.specs.Values.{list_value}
use Rattle.account_model.specs.Members.{each_members, add_to_group, remove_from_group}
use Rattle.account_model.specs.Hashes.{locked, set_group_hash, set_administrators}
use Rattle.account_model.specs.Request.{Request, operand}
use Rattle.account_model.specs.Refusals.{refuse_if, refuse_value, missing_group, missing_user, missing_users, bad_list_name}
use Rattle.account_model.specs.Action.{Action, changes, with_option, with_flag}
use Rattle.account_model.specs.Users.{group_named, gshadow_named}

-- the members of the group in group
abbrev pub members_of : List ℕ → Files → List (List ℕ)
members_of group files = unwrap_or (option_map (λ r. r.members) (group_named group files)) []

-- the members of the group in gshadow
abbrev pub gshadow_members_of : List ℕ → Files → List (List ℕ)
gshadow_members_of group files =
    unwrap_or (option_map (λ r. r.members) (gshadow_named group files)) []

-- whether the user is a member of the group, in group or in gshadow
abbrev pub is_member : List ℕ → List ℕ → Files → Bool
is_member user group files =
    is_listed user (members_of group files) || is_listed user (gshadow_members_of group files)

-- the user of `-d` isn't a member
abbrev pub not_member : List ℕ → Files → List ℕ → Option Refusal
not_member group files user = refuse_if (not (is_member user group files)) (NotMember user group)

-- in the order in which they are tested; the last is of the name that `-a` would add
abbrev pub gpasswd_refusals : List ℕ → Request → Files → List (Option Refusal)
gpasswd_refusals group request files =
    missing_group group files
    ∷ refuse_value (codes "a") request (λ user. missing_user user files)
    ∷ refuse_value (codes "d") request (not_member group files)
    ∷ refuse_value (codes "A") request (λ users. missing_users (list_value users) files)
    ∷ refuse_value (codes "M") request (λ users. missing_users (list_value users) files)
    ∷ refuse_value (codes "a") request bad_list_name
    ∷ []

-- `-a` adds a user and `-d` removes one, `-A` and `-M` set the lists, `-r` sets an empty hash and `-R` the hash `!`
abbrev pub gpasswd_script : List ℕ → Request → Files → Script
gpasswd_script group request files = in_order
    (with_option (codes "a") request (add_to_group group)
    ∷ with_option (codes "d") request (remove_from_group group)
    ∷ with_option (codes "A") request (λ users. set_administrators group (list_value users) files)
    ∷ with_option (codes "M") request (λ users. each_members group (λ members. list_value users))
    ∷ with_flag (codes "r") request (set_group_hash group [] files)
    ∷ with_flag (codes "R") request (set_group_hash group locked files)
    ∷ [])

-- what gpasswd does, by the tables
abbrev pub gpasswd : Request → Files → Action
gpasswd request files =
    changes (gpasswd_refusals (operand request) request files)
    (gpasswd_script (operand request) request files)
