-- When a text is a record, said without reading it from left to right. `RecordsAreFound` of
-- specs/LineLaws shows that the readers of specs/Records find just these.
use Rattle.std.specs.Prelude.{◌≡◌, ◌⊎◌, ℕ, ◌+◌, ◌<◌, ◌≤◌, List, [], ◌∷◌, length, codes, Option, Some, None}
use Rattle.account_model.specs.declared.records.PasswdRecord.{PasswdRecord}
use Rattle.account_model.specs.declared.records.ShadowRecord.{ShadowRecord}
use Rattle.account_model.specs.declared.records.GroupRecord.{GroupRecord}
use Rattle.account_model.specs.declared.records.GshadowRecord.{GshadowRecord}
use Rattle.account_model.specs.declared.records.SubidRecord.{SubidRecord}
use Rattle.acct_text.specs.Bytes.{colon}
use Rattle.acct_text.specs.Pieces.{AreCutAt}
use Rattle.account_model.specs.Text.{comma, nonempty}
use Rattle.account_model.specs.Records.{greatest_id, greatest_days, last_id}
use Rattle.acct_text.specs.Numbers.{IsNumber}

-- a number of shadow; an empty field and `-1` are none
abbrev pub IsDays : List ℕ → Option ℕ → Type 0
IsDays text None = (text ≡ []) ⊎ (text ≡ codes "-1")
IsDays text (Some days) = IsNumber greatest_days text days

-- the names between commas that aren't empty
pub record AreNames (text : List ℕ) (names : List (List ℕ)) : Type 0 where
  pub pieces : List (List ℕ)
  pub cut : AreCutAt comma text pieces
  pub dropped : names ≡ nonempty pieces

-- the text is this record of passwd (passwd(5))
pub record ReadsPasswd (text : List ℕ) (r : PasswdRecord) : Type 0 where
  pub uid : List ℕ
  pub gid : List ℕ
  pub cut : AreCutAt colon text (r.name ∷ r.password ∷ uid ∷ gid ∷ r.comment ∷ r.home
      ∷ r.shell ∷ [])
  pub named : 0 < length r.name
  pub uid_reads : IsNumber greatest_id uid r.uid
  pub gid_reads : IsNumber greatest_id gid r.gid

-- the text is this record of shadow (shadow(5))
pub record ReadsShadow (text : List ℕ) (r : ShadowRecord) : Type 0 where
  pub last_change : List ℕ
  pub minimum : List ℕ
  pub maximum : List ℕ
  pub warning : List ℕ
  pub inactive : List ℕ
  pub expiration : List ℕ
  pub cut : AreCutAt colon text (r.name ∷ r.hash ∷ last_change ∷ minimum ∷ maximum ∷ warning
      ∷ inactive ∷ expiration ∷ r.rest ∷ [])
  pub named : 0 < length r.name
  pub last_change_reads : IsDays last_change r.last_change
  pub minimum_reads : IsDays minimum r.minimum
  pub maximum_reads : IsDays maximum r.maximum
  pub warning_reads : IsDays warning r.warning
  pub inactive_reads : IsDays inactive r.inactive
  pub expiration_reads : IsDays expiration r.expiration

-- the text is this record of group (group(5))
pub record ReadsGroup (text : List ℕ) (r : GroupRecord) : Type 0 where
  pub gid : List ℕ
  pub members : List ℕ
  pub cut : AreCutAt colon text (r.name ∷ r.password ∷ gid ∷ members ∷ [])
  pub named : 0 < length r.name
  pub gid_reads : IsNumber greatest_id gid r.gid
  pub members_read : AreNames members r.members

-- the text is this record of gshadow (gshadow(5))
pub record ReadsGshadow (text : List ℕ) (r : GshadowRecord) : Type 0 where
  pub administrators : List ℕ
  pub members : List ℕ
  pub cut : AreCutAt colon text (r.name ∷ r.password ∷ administrators ∷ members ∷ [])
  pub named : 0 < length r.name
  pub administrators_read : AreNames administrators r.administrators
  pub members_read : AreNames members r.members

-- the text is this record of subuid or subgid: the count is 1 or more, and the last ID is an ID
-- (subuid(5), subgid(5))
pub record ReadsSubid (text : List ℕ) (r : SubidRecord) : Type 0 where
  pub first : List ℕ
  pub count : List ℕ
  pub cut : AreCutAt colon text (r.owner ∷ first ∷ count ∷ [])
  pub named : 0 < length r.owner
  pub first_reads : IsNumber greatest_id first r.first
  pub count_reads : IsNumber (greatest_id + 1) count r.count
  pub some : 0 < r.count
  pub last : last_id r ≤ greatest_id
