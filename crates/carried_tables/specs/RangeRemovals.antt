-- Removals of IDs from the ranges of one owner, made in one pass over the lines (usermod(8), `-V` and
-- `-W`; subuid(5), subgid(5)).
use Rattle.std.specs.Prelude.{◌≡◌, ℕ, ◌<◌, ◌≤◌, true, false, List, [], ◌∷◌, Option, ⊤, if◌then◌else◌}
use Rattle.account_model.specs.declared.records.SubidRecord.{SubidRecord}
use Rattle.acct_text.specs.Lines.{Line}
use Rattle.account_model.specs.Edits.{Edit, printed_line}
use Rattle.account_model.specs.Edits.Edit.{Become}
use Rattle.account_model.specs.Ids.{is_used}
use Rattle.account_model.specs.Records.{last_id, subid_format}
use Rattle.account_model.specs.Written.{IsWritten}
use Rattle.account_model.specs.SubidOwner.{is_owned, left_without}

-- none of the numbers from the first to the last is there
abbrev pub HasNone : List ℕ → ℕ → ℕ → Type 0
HasNone ids first last =
    (number : ℕ) → first ≤ number → number ≤ last → is_used ids number ≡ false

-- the range is another owner's, or has none of the IDs
abbrev pub IsApart : List ℕ → Option ℕ → List ℕ → SubidRecord → Type 0
IsApart name uid ids r = is_owned name uid r ≡ true → HasNone ids r.first (last_id r)

-- the edit leaves each range that is apart from the IDs
abbrev pub KeepsApart : List ℕ → Option ℕ → List ℕ → Edit SubidRecord → Type 0
KeepsApart name uid ids (Become f) =
    (r : SubidRecord) → 0 < r.count → IsApart name uid ids r → f r ≡ r ∷ []
KeepsApart name uid ids _ = ⊥

-- the edit removes the IDs from the first to the last from the ranges of the owner
pub record Removes (name : List ℕ) (uid : Option ℕ) (first last : ℕ) (edit : Edit SubidRecord)
    : Type 0 where
  pub ordered : first ≤ last
  pub is : edit ≡ Become (λ r. if is_owned name uid r then left_without first last r else r ∷ [])

-- the edit makes records of each record
abbrev pub MakesRecords : {R : Type 0} → Edit R → Type 0
MakesRecords (Become f) = ⊤
MakesRecords _ = ⊥

-- the line is that of the range, as it's printed
pub record IsLineOf (line : Line) (range : SubidRecord) : Type 0 where
  pub written : IsWritten subid_format range
  pub printed : line ≡ printed_line subid_format range
