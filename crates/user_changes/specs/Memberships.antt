-- The groups that a user joins and leaves, and the name in them (usermod(8), `-G`, `-a` and `-l`).
use Rattle.std.specs.Prelude.{ℕ, List, map, not, codes, if◌then◌else◌}
use Rattle.acct_text.specs.declared.files.Files.{Files}
use Rattle.account_model.specs.Edits.{Edit}
use Rattle.account_model.specs.Edits.Edit.{Become}
use Rattle.account_model.specs.declared.records.GroupRecord.{GroupRecord}
use Rattle.account_model.specs.declared.records.GshadowRecord.{GshadowRecord}
use Rattle.account_model.specs.GivenGroups.{given_groups}
use Rattle.account_model.specs.Request.{Request, has_option, operand}
use Rattle.account_model.specs.Usermod.{new_name}
use Rattle.line_edits.specs.GroupChanges.{group_becomes}
use Rattle.line_edits.specs.GshadowChanges.{gshadow_becomes}
use Rattle.line_edits.specs.declared.group_changes.GroupAct.TheVariants.{SetMembership}
use Rattle.line_edits.specs.declared.group_changes.GroupChange.TheVariants as group_change
use Rattle.line_edits.specs.declared.gshadow_changes.GshadowAct.TheVariants as gshadow_act
use Rattle.line_edits.specs.declared.gshadow_changes.GshadowChange.TheVariants as gshadow_change
use Rattle.line_edits.specs.declared.memberships.Membership.{Membership}
use Rattle.line_edits.specs.declared.memberships.UserGroups.{UserGroups}
use Rattle.line_edits.specs.declared.memberships.UserGroups.TheVariants.{Kept, Also, Only}

-- the names of the groups of `-G`, in their order
abbrev pub group_names : Request → Files → List (List ℕ)
group_names request files = map (λ group. group.name) (given_groups request files)

-- the groups of `-G`, which are these, and with `-a` those of before as well
abbrev pub user_groups : Request → List (List ℕ) → UserGroups
user_groups request groups =
    if not (has_option (codes "G") request) then Kept else
    (if has_option (codes "a") request then Also groups else Only groups)

-- what becomes of the user in each group, where those of `-G` are these
abbrev pub membership : Request → List (List ℕ) → Membership
membership request groups = record {
  user = operand request;
  new_name = new_name request;
  groups = user_groups request groups;
}

-- it becomes so in all groups of group
abbrev pub group_edit : Membership → Edit GroupRecord
group_edit membership = Become (group_becomes (group_change.All (SetMembership membership)))

-- and in all of gshadow
abbrev pub gshadow_edit : Membership → Edit GshadowRecord
gshadow_edit membership =
    Become (gshadow_becomes (gshadow_change.All (gshadow_act.SetMembership membership)))
