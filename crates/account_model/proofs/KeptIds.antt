-- Scripts that give no ID (`KeepIds`): each record of passwd and group that an edit leaves has the ID of the one in whose
-- place it stands, each range of subuid and subgid its numbers, and none comes beside (`where-keeps`, `drop-keeps`).
use Rattle.std.proofs.Common.{◌≡◌, ℕ, Bool, true, false, List, [], ◌∷◌, refl, true≢false}
use Rattle.std.specs.Prelude.{⊤, if◌then◌else◌}
use Rattle.std.specs.List.{AllByRecursion}
use Rattle.account_model.specs.declared.records.PasswdRecord.{PasswdRecord}
use Rattle.account_model.specs.declared.records.ShadowRecord.{ShadowRecord}
use Rattle.account_model.specs.declared.records.GroupRecord.{GroupRecord}
use Rattle.account_model.specs.declared.records.GshadowRecord.{GshadowRecord}
use Rattle.account_model.specs.declared.records.SubidRecord.{SubidRecord}
use Rattle.account_model.specs.Edits.{Edit, Become, Arrange, drop_where, each_where}
use Rattle.account_model.specs.Tables.{Script, no_edits}
use Rattle.account_model.proofs.ComposedScripts.{IsComposed}
use Rattle.account_model.proofs.ListLaws.{all-append}

-- of a record at most one is left, with its ID
abbrev pub LeavesId : {R I : Type 0} → (R → I) → R → List R → Type 0
LeavesId id r [] = ⊤
LeavesId id r (s ∷ []) = id s ≡ id r
LeavesId id r (s ∷ t ∷ rest) = ⊥

-- the edit gives no ID
abbrev pub KeepsId : {R I : Type 0} → (R → I) → Edit R → Type 0
KeepsId {R} id (Become f) = (r : R) → LeavesId id r (f r)
KeepsId id (Arrange key) = ⊤
KeepsId id edit = ⊥

-- the first number of a range, and how many it has
abbrev pub numbers_of : SubidRecord → ℕ × ℕ
numbers_of r = (r.first, r.count)

-- no edit gives one
pub record KeepIds (script : Script) : Type 0 where
  pub passwd : AllByRecursion (KeepsId (λ user. user.uid)) script.passwd
  pub group : AllByRecursion (KeepsId (λ group. group.gid)) script.group
  pub subuid : AllByRecursion (KeepsId numbers_of) script.subuid
  pub subgid : AllByRecursion (KeepsId numbers_of) script.subgid

-- so it is of no edits, and of two scripts
pub keep-composed : IsComposed KeepIds
keep-composed = record {
  none = record { passwd = tt; group = tt; subuid = tt; subgid = tt };
  both = λ first second one other. record {
    passwd = all-append _ first.passwd second.passwd one.passwd other.passwd;
    group = all-append _ first.group second.group one.group other.group;
    subuid = all-append _ first.subuid second.subuid one.subuid other.subuid;
    subgid = all-append _ first.subgid second.subgid one.subgid other.subgid;
  };
}

-- of a tool that gives IDs it isn't asked
pub may-give : {script : Script} → true ≡ false → KeepIds script
may-give wrong = absurd (true≢false wrong)

-- edits of users alone
pub users-keep :
    (passwd : List (Edit PasswdRecord)) (shadow : List (Edit ShadowRecord))
    → AllByRecursion (KeepsId (λ user. user.uid)) passwd
    → KeepIds (record no_edits { passwd = passwd; shadow = shadow })
users-keep passwd shadow keep = record { passwd = keep; group = tt; subuid = tt; subgid = tt }

-- edits of groups alone
pub groups-keep :
    (group : List (Edit GroupRecord)) (gshadow : List (Edit GshadowRecord))
    → AllByRecursion (KeepsId (λ group. group.gid)) group
    → KeepIds (record no_edits { group = group; gshadow = gshadow })
groups-keep group gshadow keep = record { passwd = tt; group = keep; subuid = tt; subgid = tt }

-- the records that pass a test become others of the same ID
pub where-keeps :
    {R I : Type 0} (id : R → I) (test : R → Bool) (f : R → R)
    → ((r : R) → id (f r) ≡ id r)
    → KeepsId id (each_where test f)
where-keeps {R} id test f same r = by (test r)
  where
    by : (passes : Bool) → id (if passes then f r else r) ≡ id r
    by true = same r
    by false = refl

-- or go
pub drop-keeps : {R I : Type 0} (id : R → I) (test : R → Bool) → KeepsId id (drop_where test)
drop-keeps {R} id test r = by (test r)
  where
    by : (passes : Bool) → LeavesId id r (if passes then [] else r ∷ [])
    by true = tt
    by false = refl
