-- What is read from a line can be held by a line, and edits that keep that are written.
use Rattle.std.proofs.Common.{ℕ, Bool, true, false, List, [], ◌∷◌, ◌++◌, sym, subst, arith}
use Rattle.std.specs.Prelude.{Option, Some, None, if◌then◌else◌}
use Rattle.std.specs.List.{join_with_byte, AllByRecursion}
use Rattle.account_model.specs.declared.records.PasswdRecord.{PasswdRecord}
use Rattle.account_model.specs.declared.records.ShadowRecord.{ShadowRecord}
use Rattle.account_model.specs.declared.records.GroupRecord.{GroupRecord}
use Rattle.account_model.specs.declared.records.GshadowRecord.{GshadowRecord}
use Rattle.account_model.specs.declared.records.SubidRecord.{SubidRecord}
use Rattle.acct_text.specs.Bytes.{newline, colon}
use Rattle.acct_text.specs.Pieces.{Lacks, AreCutAt}
use Rattle.account_model.specs.Text.{comma, nonempty}
use Rattle.account_model.specs.Format.{Format}
use Rattle.account_model.specs.Edits.{each, each_where, drop_where}
use Rattle.account_model.specs.Records.{passwd_format, shadow_format, group_format, gshadow_format, subid_format}
use Rattle.account_model.specs.Reads.{IsDays, AreNames, ReadsPasswd, ReadsShadow, ReadsGroup, ReadsGshadow, ReadsSubid}
use Rattle.account_model.specs.Written.{IsWritten, IsField, IsListed, IsDaysNumber, IsPasswd, IsShadow, IsGroup, IsGshadow, IsSubid, Holds}
use Rattle.account_model.specs.RecordEdits.{IsWrittenEdit}
use Rattle.account_model.proofs.ReadsLaws.{passwd-is, shadow-is, group-is, gshadow-is, subid-is}
use Rattle.account_model.proofs.WrittenLaws.{passwd-is-written, shadow-is-written, group-is-written, gshadow-is-written, subid-is-written}

-- ---- Parts of a text lack what it lacks

-- parts of a text lack what it lacks
lacks-split : (c : ℕ) (a b : List ℕ) → Lacks c (a ++ b) → Lacks c a × Lacks c b
lacks-split c [] b lacks = (tt, lacks)
lacks-split c (x ∷ a) b lacks =
    let parts = lacks-split c a b lacks.1 in ((lacks.0, parts.0), parts.1)

-- pieces that are joined lack what the text lacks
pieces-lack :
    (c separator : ℕ) (pieces : List (List ℕ))
    → Lacks c (join_with_byte separator pieces)
    → AllByRecursion (Lacks c) pieces
pieces-lack c separator [] lacks = tt
pieces-lack c separator (piece ∷ []) lacks = (lacks, tt)
pieces-lack c separator (piece ∷ next ∷ rest) lacks =
    let parts = lacks-split c piece (separator ∷ join_with_byte separator (next ∷ rest)) lacks
    in (parts.0, pieces-lack c separator (next ∷ rest) parts.1.1)

-- and so do the pieces of a cut
cut-lack :
    (c separator : ℕ) (text : List ℕ) (pieces : List (List ℕ))
    → AreCutAt separator text pieces
    → Lacks c text
    → AllByRecursion (Lacks c) pieces
cut-lack c separator text pieces cut lacks =
    pieces-lack c separator pieces (subst (λ t. Lacks c t) (sym cut.joined) lacks)

-- pieces without `:` and newline can stand in fields
pieces-field :
    (pieces : List (List ℕ))
    → AllByRecursion (Lacks colon) pieces
    → AllByRecursion (Lacks newline) pieces
    → AllByRecursion IsField pieces
pieces-field [] no_colon no_newline = tt
pieces-field (piece ∷ rest) no_colon no_newline = (
  record { no_colon = no_colon.0; no_newline = no_newline.0 },
  pieces-field rest no_colon.1 no_newline.1,
)

-- the pieces of a line between colons can
cut-field :
    (text : List ℕ) (pieces : List (List ℕ))
    → AreCutAt colon text pieces
    → Lacks newline text
    → AllByRecursion IsField pieces
cut-field text pieces cut lacks =
    pieces-field pieces cut.apart (cut-lack newline colon text pieces cut lacks)

-- and so can those of a field between commas
pub list-field :
    (text : List ℕ) (pieces : List (List ℕ))
    → AreCutAt comma text pieces
    → IsField text
    → AllByRecursion IsField pieces
list-field text pieces cut field =
    pieces-field pieces (cut-lack colon comma text pieces cut field.no_colon)
    (cut-lack newline comma text pieces cut field.no_newline)

-- pieces that aren't empty can stand in a list
listed :
    (pieces : List (List ℕ))
    → AllByRecursion IsField pieces
    → AllByRecursion (Lacks comma) pieces
    → AllByRecursion IsListed (nonempty pieces)
listed [] fields no_comma = tt
listed ([] ∷ rest) fields no_comma = listed rest fields.1 no_comma.1
listed ((b ∷ piece) ∷ rest) fields no_comma = (
  record {
    name_field = record { field = fields.0; some = omega arith };
    no_comma = no_comma.0;
  },
  listed rest fields.1 no_comma.1,
)

-- the names of a list field can stand in a list
names-held :
    {text : List ℕ} {names : List (List ℕ)}
    → IsField text
    → AreNames text names
    → AllByRecursion IsListed names
names-held {text = text} field are =
    subst (λ n. AllByRecursion IsListed n) (sym are.dropped)
    (listed are.pieces (list-field text are.pieces are.cut field) are.cut.apart)

-- a number of shadow is one that shadow holds
days-held : (text : List ℕ) (days : Option ℕ) → IsDays text days → IsDaysNumber days
days-held text None is = tt
days-held text (Some n) is = is.bounded

-- ---- The five formats

-- what is read as a record of passwd can stand in a line of it
passwd-held :
    (text : List ℕ) (r : PasswdRecord)
    → Lacks newline text
    → ReadsPasswd text r
    → IsPasswd r
passwd-held text r lacks reads =
    let fields = cut-field _ _ reads.cut lacks
    in record {
      name = record { field = fields.0; some = reads.named };
      password = fields.1.0;
      uid = reads.uid_reads.bounded;
      gid = reads.gid_reads.bounded;
      comment = fields.1.1.1.1.0;
      home = fields.1.1.1.1.1.0;
      shell = fields.1.1.1.1.1.1.0;
    }

-- the records that lines of passwd hold
pub passwd-holds : Holds passwd_format IsPasswd
passwd-holds = record {
  read = λ text r lacks e. passwd-held text r lacks (passwd-is text r e);
  written = passwd-is-written;
}

-- what is read as a record of shadow can stand in a line of it
shadow-held :
    (text : List ℕ) (r : ShadowRecord)
    → Lacks newline text
    → ReadsShadow text r
    → IsShadow r
shadow-held text r lacks reads =
    let fields = cut-field _ _ reads.cut lacks
    in record {
      name = record { field = fields.0; some = reads.named };
      hash = fields.1.0;
      last_change = days-held reads.last_change r.last_change reads.last_change_reads;
      minimum = days-held reads.minimum r.minimum reads.minimum_reads;
      maximum = days-held reads.maximum r.maximum reads.maximum_reads;
      warning = days-held reads.warning r.warning reads.warning_reads;
      inactive = days-held reads.inactive r.inactive reads.inactive_reads;
      expiration = days-held reads.expiration r.expiration reads.expiration_reads;
      rest = fields.1.1.1.1.1.1.1.1.0;
    }

-- the records that lines of shadow hold
pub shadow-holds : Holds shadow_format IsShadow
shadow-holds = record {
  read = λ text r lacks e. shadow-held text r lacks (shadow-is text r e);
  written = shadow-is-written;
}

-- what is read as a record of group can stand in a line of it
group-held : (text : List ℕ) (r : GroupRecord) → Lacks newline text → ReadsGroup text r → IsGroup r
group-held text r lacks reads =
    let fields = cut-field _ _ reads.cut lacks
    in record {
      name = record { field = fields.0; some = reads.named };
      password = fields.1.0;
      gid = reads.gid_reads.bounded;
      members = names-held fields.1.1.1.0 reads.members_read;
    }

-- the records that lines of group hold
pub group-holds : Holds group_format IsGroup
group-holds = record {
  read = λ text r lacks e. group-held text r lacks (group-is text r e);
  written = group-is-written;
}

-- what is read as a record of gshadow can stand in a line of it
gshadow-held :
    (text : List ℕ) (r : GshadowRecord)
    → Lacks newline text
    → ReadsGshadow text r
    → IsGshadow r
gshadow-held text r lacks reads =
    let fields = cut-field _ _ reads.cut lacks
    in record {
      name = record { field = fields.0; some = reads.named };
      password = fields.1.0;
      administrators = names-held fields.1.1.0 reads.administrators_read;
      members = names-held fields.1.1.1.0 reads.members_read;
    }

-- the records that lines of gshadow hold
pub gshadow-holds : Holds gshadow_format IsGshadow
gshadow-holds = record {
  read = λ text r lacks e. gshadow-held text r lacks (gshadow-is text r e);
  written = gshadow-is-written;
}

-- what is read as a record of subuid or subgid can stand in a line of it
subid-held : (text : List ℕ) (r : SubidRecord) → Lacks newline text → ReadsSubid text r → IsSubid r
subid-held text r lacks reads = record {
  owner = record { field = (cut-field _ _ reads.cut lacks).0; some = reads.named };
  some = reads.some;
  last = reads.last;
}

-- the records that lines of subuid and subgid hold
pub subid-holds : Holds subid_format IsSubid
subid-holds = record {
  read = λ text r lacks e. subid-held text r lacks (subid-is text r e);
  written = subid-is-written;
}

-- ---- Edits that keep what a line can hold

-- each record becomes one that a line can hold
pub each-written :
    {R : Type 0} (format : Format R) (IsRecord : R → Type 0)
    → Holds format IsRecord
    → (f : R → R)
    → ((r : R) → IsRecord r → IsRecord (f r))
    → IsWrittenEdit format (each f)
each-written format IsRecord holds f keeps text r lacks read =
    (holds.written (f r) (keeps r (holds.read text r lacks read)), tt)

-- a record, by whether it passes a test
where-kept :
    {R : Type 0} (IsRecord : R → Type 0) (b : Bool) (r s : R)
    → IsRecord r
    → IsRecord s
    → IsRecord (if b then s else r)
where-kept IsRecord true r s is_r is_s = is_s
where-kept IsRecord false r s is_r is_s = is_r

-- the records that pass a test become ones that a line can hold
pub each_where-written :
    {R : Type 0} (format : Format R) (IsRecord : R → Type 0)
    → Holds format IsRecord
    → (test : R → Bool) (f : R → R)
    → ((r : R) → IsRecord r → IsRecord (f r))
    → IsWrittenEdit format (each_where test f)
each_where-written format IsRecord holds test f keeps =
    each-written format IsRecord holds (λ r. if test r then f r else r)
    (λ r is. where-kept IsRecord (test r) r (f r) is (keeps r is))

-- a record that goes or stays
drop-kept :
    {R : Type 0} (format : Format R) (b : Bool) (r : R)
    → IsWritten format r
    → AllByRecursion (IsWritten format) (if b then [] else r ∷ [])
drop-kept format true r written = tt
drop-kept format false r written = (written, tt)

-- records that go
pub drop_where-written :
    {R : Type 0} (format : Format R) (IsRecord : R → Type 0)
    → Holds format IsRecord
    → (test : R → Bool)
    → IsWrittenEdit format (drop_where test)
drop_where-written format IsRecord holds test text r lacks read =
    drop-kept format (test r) r (holds.written r (holds.read text r lacks read))
