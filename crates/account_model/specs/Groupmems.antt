-- groupmems -g GROUP (groupmems(8)): changes or lists the members of a group.
use Rattle.std.specs.Prelude.{ℕ, List, [], ◌∷◌, ◌++◌, codes, flat_map, Option, if◌then◌else◌}
use Rattle.acct_text.specs.declared.files.Files.{Files}
use Rattle.acct_text.specs.Bytes.{newline}
use Rattle.account_model.specs.declared.refusal.Refusal.{Refusal}
use Rattle.account_model.specs.Tables.{Script, in_order}
use Rattle.account_model.specs.Values.{text_value}
use Rattle.account_model.specs.Members.{each_members, add_to_group, remove_from_group}
use Rattle.account_model.specs.Request.{Request, has_option}
use Rattle.account_model.specs.Refusals.{refuse_value, missing_group, missing_user, bad_list_name}
use Rattle.account_model.specs.Action.{Action, changes, reports, with_option, with_flag}
use Rattle.account_model.specs.Gpasswd.{members_of, not_member}

-- the group of `-g`, which is a name
abbrev pub asked_group : Request → List ℕ
asked_group request = text_value (codes "g") request []

-- as gpasswd(1) tests them, in this order; the last is of the name that `-a` would add
abbrev pub groupmems_refusals : List ℕ → Request → Files → List (Option Refusal)
groupmems_refusals group request files =
    missing_group group files
    ∷ refuse_value (codes "a") request (λ user. missing_user user files)
    ∷ refuse_value (codes "d") request (not_member group files)
    ∷ refuse_value (codes "a") request bad_list_name
    ∷ []

-- `-a` adds a user and `-d` removes one, as gpasswd(1) does, and `-p` removes all
abbrev pub groupmems_script : List ℕ → Request → Script
groupmems_script group request = in_order
    (with_option (codes "a") request (add_to_group group)
    ∷ with_option (codes "d") request (remove_from_group group)
    ∷ with_flag (codes "p") request (each_members group (λ members. []))
    ∷ [])

-- what `-l` prints: each member in group on a line of its own
abbrev pub member_lines : List ℕ → Files → List ℕ
member_lines group files = flat_map (λ name. name ++ newline ∷ []) (members_of group files)

-- what groupmems does, by the tables
abbrev pub groupmems : Request → Files → Action
groupmems request files = if has_option (codes "l") request
    then reports (groupmems_refusals (asked_group request) request files) 0
    (member_lines (asked_group request) files)
    else changes (groupmems_refusals (asked_group request) request files)
    (groupmems_script (asked_group request) request)
