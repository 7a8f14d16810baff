-- Claims: an owner has ranges where one is found by its name (`owned-named`), and the ranges of an owner
-- that go by the text of the UID and then by the name go by both (`removed-both`). Way: line by line.
use Rattle.std.proofs.Common.{◌≡◌, ◌∙◌, ℕ, Bool, true, false, List, [], ◌∷◌, ◌++◌, inl, inr, refl, sym, ap, ap₂, if◌then◌else◌}
use Rattle.std.proofs.Math.Bool.{or-false, or-true}
use Rattle.std.specs.Prelude.{◌||◌, Option, Some, None, is_some, bytes_eq, decimal, flat_map}
use Rattle.std.specs.List.{list_any}
use Rattle.std.proofs.lemmas.Bool.{cases_Bool}
use Rattle.acct_text.specs.Lines.{Line, file_bytes, lines_of}
use Rattle.account_model.specs.declared.records.SubidRecord.{SubidRecord}
use Rattle.account_model.specs.Edits.{becomes}
use Rattle.account_model.specs.Edits.Edit.{Become}
use Rattle.account_model.specs.Format.{find_named, has_named}
use Rattle.account_model.specs.RecordEdits.{IsWrittenEdit}
use Rattle.account_model.specs.Records.{subid_format}
use Rattle.account_model.specs.Tables.{table_after}
use Rattle.account_model.specs.Written.{IsSubid}
use Rattle.account_model.proofs.HeldLaws.{drop_where-written, subid-holds}
use Rattle.account_model.proofs.SameLaws.{subid-tells}
use Rattle.account_model.specs.SubidOwner.{is_owned}
use Rattle.line_edits.specs.SubidChanges.{subid_becomes}
use Rattle.line_edits.specs.declared.subid_changes.SubidChange.TheVariants.{Remove}
use Rattle.line_edits.proofs.ChangedLines.{other-line, record-line}
use Rattle.table.specs.Accepting.{is_accepted}
use Rattle.subid_ranges.proofs.OwnedLemmas.{owned-either}
use Rattle.carried_tables.specs.RangeNumbers.{is_numbered}
use Rattle.carried_tables.proofs.EditedTables.{table-step}
use Rattle.carried_tables.proofs.OwnedRanges.{none-numbered}

-- ---- Owners

-- by whether the first range is the owner's
named-by :
    (is : Bool) (r : SubidRecord) (rest : Bool) (found : Option SubidRecord)
    → rest ≡ is_some found
    → (is || rest) ≡ is_some (if is then Some r else found)
named-by true r rest found same = refl
named-by false r rest found same = same

-- an owner has ranges where one is found by its name
pub owned-named :
    (owner : List ℕ) (ranges : List SubidRecord)
    → has_named subid_format owner ranges ≡ list_any (is_owned owner None) ranges
owned-named owner [] = refl
owned-named owner (r ∷ ranges) =
    sym (named-by (bytes_eq r.owner owner) r (list_any (is_owned owner None) ranges)
    (find_named subid_format owner ranges) (sym (owned-named owner ranges)))

-- or the text of the UID, where it is known, is the owner
pub owned-either-way :
    (name : List ℕ) (uid : Option ℕ) (ranges : List SubidRecord)
    → (has_named subid_format name ranges || list_any (is_numbered uid) ranges)
    ≡ list_any (is_owned name uid) ranges
owned-either-way name None ranges =
    ap₂ (λ (named numbered : Bool). named || numbered) (owned-named name ranges)
    (none-numbered ranges)
    ∙ or-false (list_any (is_owned name None) ranges)
owned-either-way name (Some uid) ranges =
    ap (λ (named : Bool). named || list_any (is_numbered (Some uid)) ranges)
    (owned-named name ranges)
    ∙ sym (owned-either name uid ranges)

-- ---- Ranges that go

-- a removal prints nothing new
pub removal-written :
    (name : List ℕ) (uid : Option ℕ)
    → IsWrittenEdit subid_format (Become (subid_becomes (Remove name uid)))
removal-written name uid = drop_where-written subid_format IsSubid subid-holds (is_owned name uid)

-- what becomes of a line by a removal
abbrev without : List ℕ → Option ℕ → Line → List Line
without name uid line = becomes subid_format (subid_becomes (Remove name uid)) line

-- it goes where it is a range of the owner: by what it reads as
removed-by :
    (name : List ℕ) (uid : Option ℕ) (line : Line) (found : Option SubidRecord)
    → subid_format.read line.text ≡ found
    → without name uid line ≡ (if is_accepted (is_owned name uid) found then [] else line ∷ [])
removed-by name uid line None none =
    other-line subid_format (subid_becomes (Remove name uid)) line none
removed-by name uid line (Some r) reads =
    record-line subid_format (subid_becomes (Remove name uid)) line r reads
    ∙ elim (cases_Bool (is_owned name uid r)) [
      | inl owned ↦ rw owned refl
      | inr other ↦ rw (other, (subid-tells r r).1 refl) refl
    ]

module _ (name : List ℕ) (uid : ℕ) where
  -- the first line goes by the number or by the name
  first-removed :
      (line : Line) (rest left : List Line) (found : Option SubidRecord)
      → subid_format.read line.text ≡ found
      → flat_map (without name None) rest ≡ left
      → flat_map (without name None)
      ((if is_accepted (is_owned (decimal uid) None) found then [] else line ∷ []) ++ rest)
      ≡ (if is_accepted (is_owned name (Some uid)) found then [] else line ∷ []) ++ left
  first-removed line rest left None none later =
      ap₂ (λ made rest. made ++ rest) (removed-by name None line None none) later
  first-removed line rest left (Some r) reads later =
      elim (cases_Bool (bytes_eq r.owner (decimal uid))) [
        | inl numbered ↦ rw (numbered, or-true (bytes_eq r.owner name)) later
        | inr other ↦
            rw (other, or-false (bytes_eq r.owner name))
            (ap₂ (λ made rest. made ++ rest) (removed-by name None line (Some r) reads) later)
      ]

  -- the lines of the number go, and then those of the name
  both-lines :
      (lines : List Line)
      → flat_map (without name None) (flat_map (without (decimal uid) None) lines)
      ≡ flat_map (without name (Some uid)) lines
  both-lines [] = refl
  both-lines (line ∷ lines) =
      let found = subid_format.read line.text in
      let left = flat_map (without name (Some uid)) lines in
      ap (λ first. flat_map (without name None)
      (first ++ flat_map (without (decimal uid) None) lines))
      (removed-by (decimal uid) None line found refl)
      ∙ first-removed line (flat_map (without (decimal uid) None) lines) left found refl
      (both-lines lines)
      ∙ ap (λ first. first ++ left) (sym (removed-by name (Some uid) line found refl))

-- so the ranges of both are gone from the file
pub removed-both :
    (name : List ℕ) (uid : ℕ) (file : Option (List ℕ))
    → table_after subid_format (Become (subid_becomes (Remove name None)) ∷ [])
    (table_after subid_format (Become (subid_becomes (Remove (decimal uid) None)) ∷ []) file)
    ≡ table_after subid_format (Become (subid_becomes (Remove name (Some uid))) ∷ []) file
removed-both name uid None = refl
removed-both name uid (Some text) =
    table-step subid_format (Become (subid_becomes (Remove (decimal uid) None)))
    (Become (subid_becomes (Remove name None)) ∷ []) (Some text) refl
    (removal-written (decimal uid) None)
    ∙ ap (λ lines. Some (file_bytes lines)) (both-lines name uid (lines_of text))
