-- The record that a line shows which is read where it stands: its texts are those of the line, and
-- its lists are the names between commas (passwd(5), shadow(5), group(5), gshadow(5), subuid(5),
-- subgid(5)).
use Rattle.account_model.specs.declared.records.PasswdRecord.{PasswdRecord}
use Rattle.account_model.specs.declared.records.ShadowRecord.{ShadowRecord}
use Rattle.account_model.specs.declared.records.GroupRecord.{GroupRecord}
use Rattle.account_model.specs.declared.records.GshadowRecord.{GshadowRecord}
use Rattle.account_model.specs.declared.records.SubidRecord.{SubidRecord}
use Rattle.account_model.specs.Records.{read_names}
use Rattle.acct_lines.specs.declared.passwd.PasswdLine.{PasswdLine}
use Rattle.acct_lines.specs.declared.shadow.ShadowLine.{ShadowLine}
use Rattle.acct_lines.specs.declared.group.GroupLine.{GroupLine}
use Rattle.acct_lines.specs.declared.gshadow.GshadowLine.{GshadowLine}
use Rattle.acct_lines.specs.declared.subid.SubidLine.{SubidLine}

-- the user that a line of passwd shows
abbrev pub passwd_shown : PasswdLine → PasswdRecord
passwd_shown line = record {
  name = line.name.now;
  password = line.password.now;
  uid = line.uid;
  gid = line.gid;
  comment = line.comment.now;
  home = line.home.now;
  shell = line.shell.now;
}

-- the hash and the days that a line of shadow shows
abbrev pub shadow_shown : ShadowLine → ShadowRecord
shadow_shown line = record {
  name = line.name.now;
  hash = line.hash.now;
  last_change = line.last_change;
  minimum = line.minimum;
  maximum = line.maximum;
  warning = line.warning;
  inactive = line.inactive;
  expiration = line.expiration;
  rest = line.rest.now;
}

-- the group that a line of group shows
abbrev pub group_shown : GroupLine → GroupRecord
group_shown line = record {
  name = line.name.now;
  password = line.password.now;
  gid = line.gid;
  members = read_names line.members.now;
}

-- the hash and the lists that a line of gshadow shows
abbrev pub gshadow_shown : GshadowLine → GshadowRecord
gshadow_shown line = record {
  name = line.name.now;
  password = line.password.now;
  administrators = read_names line.administrators.now;
  members = read_names line.members.now;
}

-- the range that a line of subuid or subgid shows
abbrev pub subid_shown : SubidLine → SubidRecord
subid_shown line = record { owner = line.owner.now; first = line.first; count = line.count }
