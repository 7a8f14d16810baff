-- What the changes of groups make of a record of gshadow (gshadow(5)).
use Rattle.std.specs.Prelude.{List, [], ◌∷◌}
use Rattle.account_model.specs.declared.records.GshadowRecord.{GshadowRecord}
use Rattle.account_model.specs.Members.{with_name, without_name}
use Rattle.account_model.specs.Records.{gshadow_format}
use Rattle.line_edits.specs.Memberships.{gshadow_by}
use Rattle.line_edits.specs.Naming.{changed_named, without_named}
use Rattle.line_edits.specs.declared.gshadow_changes.GshadowAct.{GshadowAct}
use Rattle.line_edits.specs.declared.gshadow_changes.GshadowAct.TheVariants.{Rename, SetPassword, SetAdministrators, AddMember, RemoveMember, SetMembers, RemoveUser, SetMembership}
use Rattle.line_edits.specs.declared.gshadow_changes.GshadowChange.{GshadowChange}
use Rattle.line_edits.specs.declared.gshadow_changes.GshadowChange.TheVariants.{Named, All, Remove}

-- the record after an act
abbrev pub gshadow_after : GshadowAct → GshadowRecord → GshadowRecord
gshadow_after (Rename name) r = record r { name = name }
gshadow_after (SetPassword password) r = record r { password = password }
gshadow_after (SetAdministrators administrators) r = record r { administrators = administrators }
gshadow_after (AddMember user) r = record r { members = with_name user r.members }
gshadow_after (RemoveMember user) r = record r { members = without_name user r.members }
gshadow_after (SetMembers members) r = record r { members = members }
gshadow_after (RemoveUser user) r = record r {
  administrators = without_name user r.administrators;
  members = without_name user r.members;
}
gshadow_after (SetMembership membership) r = gshadow_by membership r

-- the records that a record becomes by a change
abbrev pub gshadow_becomes : GshadowChange → GshadowRecord → List GshadowRecord
gshadow_becomes (Named name act) r = changed_named gshadow_format name (gshadow_after act) r
gshadow_becomes (All act) r = gshadow_after act r ∷ []
gshadow_becomes (Remove name) r = without_named gshadow_format name r
