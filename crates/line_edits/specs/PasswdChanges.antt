-- What the changes of users make of a record of passwd (passwd(5)).
use Rattle.std.specs.Prelude.{List, [], ◌∷◌, ◌==◌, unwrap_or, if◌then◌else◌}
use Rattle.account_model.specs.declared.records.PasswdRecord.{PasswdRecord}
use Rattle.account_model.specs.Records.{passwd_format}
use Rattle.line_edits.specs.HashChanges.{hash_by}
use Rattle.line_edits.specs.Naming.{changed_named, without_named}
use Rattle.line_edits.specs.declared.passwd_changes.UserFields.{UserFields}
use Rattle.line_edits.specs.declared.passwd_changes.PasswdAct.{PasswdAct}
use Rattle.line_edits.specs.declared.passwd_changes.PasswdAct.TheVariants.{SetPassword, SetGid, ChangePassword, SetFields}
use Rattle.line_edits.specs.declared.passwd_changes.PasswdChange.{PasswdChange}
use Rattle.line_edits.specs.declared.passwd_changes.PasswdChange.TheVariants.{Named, OfGroup, Remove}

-- the record with the fields that are given (usermod(8), `-c`, `-d`, `-s`, `-u`, `-g` and `-l`)
abbrev pub with_user_fields : UserFields → PasswdRecord → PasswdRecord
with_user_fields fields r = record r {
  name = unwrap_or fields.name r.name;
  uid = unwrap_or fields.uid r.uid;
  gid = unwrap_or fields.gid r.gid;
  comment = unwrap_or fields.comment r.comment;
  home = unwrap_or fields.home r.home;
  shell = unwrap_or fields.shell r.shell;
}

-- the record after an act
abbrev pub passwd_after : PasswdAct → PasswdRecord → PasswdRecord
passwd_after (SetPassword password) r = record r { password = password }
passwd_after (SetGid gid) r = record r { gid = gid }
passwd_after (ChangePassword change) r = record r { password = hash_by change r.password }
passwd_after (SetFields fields) r = with_user_fields fields r

-- the records that a record becomes by a change
abbrev pub passwd_becomes : PasswdChange → PasswdRecord → List PasswdRecord
passwd_becomes (Named name act) r = changed_named passwd_format name (passwd_after act) r
passwd_becomes (OfGroup gid act) r = (if r.gid == gid then passwd_after act r else r) ∷ []
passwd_becomes (Remove name) r = without_named passwd_format name r
