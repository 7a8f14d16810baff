-- What the changes of groups make of a record of group (group(5)).
use Rattle.std.specs.Prelude.{List, [], ◌∷◌}
use Rattle.account_model.specs.declared.records.GroupRecord.{GroupRecord}
use Rattle.account_model.specs.Members.{with_name, without_name}
use Rattle.account_model.specs.Records.{group_format}
use Rattle.line_edits.specs.Memberships.{group_by}
use Rattle.line_edits.specs.Naming.{changed_named, without_named}
use Rattle.line_edits.specs.declared.group_changes.GroupAct.{GroupAct}
use Rattle.line_edits.specs.declared.group_changes.GroupAct.TheVariants.{SetGid, Rename, SetPassword, AddMember, RemoveMember, SetMembers, SetMembership}
use Rattle.line_edits.specs.declared.group_changes.GroupChange.{GroupChange}
use Rattle.line_edits.specs.declared.group_changes.GroupChange.TheVariants.{Named, All, Remove}

-- the record after an act
abbrev pub group_after : GroupAct → GroupRecord → GroupRecord
group_after (SetGid gid) r = record r { gid = gid }
group_after (Rename name) r = record r { name = name }
group_after (SetPassword password) r = record r { password = password }
group_after (AddMember user) r = record r { members = with_name user r.members }
group_after (RemoveMember user) r = record r { members = without_name user r.members }
group_after (SetMembers members) r = record r { members = members }
group_after (SetMembership membership) r = group_by membership r

-- the records that a record becomes by a change
abbrev pub group_becomes : GroupChange → GroupRecord → List GroupRecord
group_becomes (Named name act) r = changed_named group_format name (group_after act) r
group_becomes (All act) r = group_after act r ∷ []
group_becomes (Remove name) r = without_named group_format name r
