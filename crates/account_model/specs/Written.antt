-- Which records a line can hold: those that print as one line which reads as the same record.
use Rattle.std.specs.Prelude.{◌≡◌, ℕ, ◌<◌, ◌≤◌, List, length, Option, Some, None, ⊤}
use Rattle.std.specs.List.{AllByRecursion}
use Rattle.account_model.specs.declared.records.PasswdRecord.{PasswdRecord}
use Rattle.account_model.specs.declared.records.ShadowRecord.{ShadowRecord}
use Rattle.account_model.specs.declared.records.GroupRecord.{GroupRecord}
use Rattle.account_model.specs.declared.records.GshadowRecord.{GshadowRecord}
use Rattle.account_model.specs.declared.records.SubidRecord.{SubidRecord}
use Rattle.acct_text.specs.Bytes.{newline, colon}
use Rattle.acct_text.specs.Pieces.{Lacks}
use Rattle.account_model.specs.Text.{comma}
use Rattle.account_model.specs.Format.{Format}
use Rattle.account_model.specs.Records.{greatest_id, greatest_days, last_id}

-- the record prints as one line, which reads as the same record
pub record IsWritten {R : Type 0} (format : Format R) (r : R) : Type 0 where
  pub one_line : Lacks newline (format.print r)
  pub reads : format.read (format.print r) ≡ Some r

-- what a field may hold
pub record IsField (text : List ℕ) : Type 0 where
  pub no_colon : Lacks colon text
  pub no_newline : Lacks newline text

-- what a first field may hold
pub record IsNameField (text : List ℕ) : Type 0 where
  pub field : IsField text
  pub some : 0 < length text

-- what a list of members or administrators may hold
pub record IsListed (name : List ℕ) : Type 0 where
  pub name_field : IsNameField name
  pub no_comma : Lacks comma name

-- a number that shadow may hold, or none
abbrev pub IsDaysNumber : Option ℕ → Type 0
IsDaysNumber None = ⊤
IsDaysNumber (Some days) = days ≤ greatest_days

-- a record that a line of passwd can hold (passwd(5))
pub record IsPasswd (r : PasswdRecord) : Type 0 where
  pub name : IsNameField r.name
  pub password : IsField r.password
  pub uid : r.uid ≤ greatest_id
  pub gid : r.gid ≤ greatest_id
  pub comment : IsField r.comment
  pub home : IsField r.home
  pub shell : IsField r.shell

-- a record that a line of shadow can hold (shadow(5))
pub record IsShadow (r : ShadowRecord) : Type 0 where
  pub name : IsNameField r.name
  pub hash : IsField r.hash
  pub last_change : IsDaysNumber r.last_change
  pub minimum : IsDaysNumber r.minimum
  pub maximum : IsDaysNumber r.maximum
  pub warning : IsDaysNumber r.warning
  pub inactive : IsDaysNumber r.inactive
  pub expiration : IsDaysNumber r.expiration
  pub rest : IsField r.rest

-- a record that a line of group can hold (group(5))
pub record IsGroup (r : GroupRecord) : Type 0 where
  pub name : IsNameField r.name
  pub password : IsField r.password
  pub gid : r.gid ≤ greatest_id
  pub members : AllByRecursion IsListed r.members

-- a record that a line of gshadow can hold (gshadow(5))
pub record IsGshadow (r : GshadowRecord) : Type 0 where
  pub name : IsNameField r.name
  pub password : IsField r.password
  pub administrators : AllByRecursion IsListed r.administrators
  pub members : AllByRecursion IsListed r.members

-- a record that a line of subuid or subgid can hold (subuid(5), subgid(5))
pub record IsSubid (r : SubidRecord) : Type 0 where
  pub owner : IsNameField r.owner
  pub some : 0 < r.count
  pub last : last_id r ≤ greatest_id

-- the records that lines of the format hold: what is read from a line is one, and each prints as a
-- line that reads back
pub record Holds {R : Type 0} (format : Format R) (IsRecord : R → Type 0) : Type 0 where
  pub read : (text : List ℕ) (r : R) → Lacks newline text → format.read text ≡ Some r → IsRecord r
  pub written : (r : R) → IsRecord r → IsWritten format r
