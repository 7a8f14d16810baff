-- Claims: the numbers of ranges are those of the table after a range is added (`numbers-added`), after
-- an owner gets another name (`numbers-kept`), and after the ranges of an owner go (`numbers-lost`).
-- Way: the ranges after an edit are the ranges, edited (`after-edit`), and each number is counted in those
-- of the owner and in the others.
use Rattle.std.proofs.Common.{◌≡◌, ◌∙◌, ℕ, ◌+◌, Bool, true, false, List, [], ◌∷◌, ◌++◌, cond, refl, sym, ap, ap₂, subst, inl, inr, arith, if◌then◌else◌}
use Rattle.std.specs.Prelude.{Option, Some, None, IfSome, count_by, filter, flat_map, is_some, map, not}
use Rattle.std.proofs.lemmas.Bool.{cases_Bool}
use Rattle.std.proofs.lemmas.List.Sums.{sum_by-append, sum_by-cons}
use Rattle.account_model.specs.declared.records.SubidRecord.{SubidRecord}
use Rattle.account_model.specs.Edits.{Edit}
use Rattle.account_model.specs.Edits.Edit.{Add, Become}
use Rattle.account_model.specs.Format.{is_named}
use Rattle.account_model.specs.RecordEdits.{IsWrittenEdit, records_edited}
use Rattle.account_model.specs.Records.{subid_format}
use Rattle.account_model.specs.Tables.{table_after, table_records}
use Rattle.account_model.proofs.EditLines.{table-edited}
use Rattle.account_model.proofs.SameLaws.{subid-tells}
use Rattle.account_model.specs.FreeRange.{meets}
use Rattle.line_edits.specs.SubidChanges.{subid_becomes}
use Rattle.line_edits.specs.declared.subid_changes.SubidChange.TheVariants.{Remove, Rename}
use Rattle.subid_ranges.specs.Gathered.{GathersMore}
use Rattle.subid_ranges.specs.Owned.{first_and_count}
use Rattle.subid_ranges.specs.RangeNumbers.{AreNumbersOf, LosesRanges}
use Rattle.subid_ranges.specs.declared.range_numbers.RangeNumbers.{RangeNumbers}
use Rattle.subid_ranges.proofs.RangeNumbersLemmas.{alike-numbers, renamed-numbers}
use Rattle.carried_tables.specs.RangeNumbers.{AreNumbersIn}
use Rattle.carried_tables.proofs.OwnerLemmas.{removal-written}

-- the ranges of a file that is there are after an edit the ranges, edited
after-edit :
    (edit : Edit SubidRecord) (file : Option (List ℕ))
    → IsWrittenEdit subid_format edit
    → is_some file ≡ true
    → table_records subid_format (table_after subid_format (edit ∷ []) file)
    ≡ records_edited subid_format (table_records subid_format file) edit
after-edit edit None written there = absurd cc
after-edit edit (Some text) written there =
    table-edited subid_format subid-tells refl (edit ∷ []) text (written, tt)

-- those of an absent one are none, as what a change makes of none
pub after-change :
    (f : SubidRecord → List SubidRecord) (file : Option (List ℕ))
    → IsWrittenEdit subid_format (Become f)
    → table_records subid_format (table_after subid_format (Become f ∷ []) file)
    ≡ flat_map f (table_records subid_format file)
after-change f None written = refl
after-change f (Some text) written = after-edit (Become f) (Some text) written refl

-- ---- A range that is added

-- the numbers with those of the range are those of the file with it
pub numbers-added :
    (r : SubidRecord) (file : Option (List ℕ)) (old new : RangeNumbers)
    → IsWrittenEdit subid_format (Add r)
    → is_some file ≡ true
    → AreNumbersIn file old
    → GathersMore AreNumbersOf (r ∷ []) old new
    → AreNumbersIn (table_after subid_format (Add r ∷ []) file) new
numbers-added r file old new written there are goes =
    subst (λ ranges. AreNumbersOf ranges new) (sym (after-edit (Add r) file written there))
    (goes (table_records subid_format file) are)

-- ---- An owner that gets another name

-- a range keeps its numbers, by whether it is the owner's
renamed-by :
    (r : SubidRecord) (new : List ℕ) (named : Bool)
    → first_and_count r ≡ first_and_count (if named then record r { owner = new } else r)
renamed-by r new true = refl
renamed-by r new false = refl

-- so all do
renamed-keep :
    (old new : List ℕ) (ranges : List SubidRecord)
    → map first_and_count ranges
    ≡ map first_and_count (flat_map (subid_becomes (Rename old new)) ranges)
renamed-keep old new [] = refl
renamed-keep old new (r ∷ ranges) =
    ap₂ (λ first rest. first ∷ rest) (renamed-by r new (is_named subid_format old r))
    (renamed-keep old new ranges)

-- the numbers that are known of the file are those of the file with the name
pub numbers-kept :
    (old new : List ℕ) (file : Option (List ℕ)) (known : Option RangeNumbers)
    → IsWrittenEdit subid_format (Become (subid_becomes (Rename old new)))
    → IfSome known (AreNumbersIn file)
    → IfSome known
    (AreNumbersIn (table_after subid_format (Become (subid_becomes (Rename old new)) ∷ []) file))
numbers-kept old new file None written are = are
numbers-kept old new file (Some numbers) written are =
    let f = subid_becomes (Rename old new) in
    let ranges = table_records subid_format file in
    subst (λ ranges. AreNumbersOf ranges numbers) (sym (after-change f file written))
    (renamed-numbers ranges (flat_map f ranges) numbers (renamed-keep old new ranges) are)

-- ---- Ranges that go, or become others

module _ (test : SubidRecord → Bool) where
  -- the ranges that the test leaves
  abbrev pub left_by : List SubidRecord → List SubidRecord
  left_by ranges = filter (λ r. not (test r)) ranges

  module _ (passes : SubidRecord → Bool) where
    -- one for a range that passes
    abbrev tally : SubidRecord → ℕ
    tally r = cond (passes r) 1 0

    -- as many of all ranges pass as of those of the test and of those that it leaves
    pub counted-parts :
        (ranges : List SubidRecord)
        → count_by passes ranges ≡ count_by passes (filter test ranges ++ left_by ranges)
    counted-parts [] = refl
    counted-parts (r ∷ ranges) = elim (cases_Bool (test r)) [
      | inl is ↦
          rw is (sum_by-cons tally r ranges
          ∙ ap (λ rest. tally r + rest) (counted-parts ranges)
          ∙ sym (sum_by-cons tally r (filter test ranges ++ left_by ranges)))
      | inr is ↦
          rw is (omega (
            arith,
            sum_by-cons tally r ranges,
            counted-parts ranges,
            sum_by-append tally (filter test ranges) (r ∷ left_by ranges),
            sum_by-append tally (filter test ranges) (left_by ranges),
            sum_by-cons tally r (left_by ranges),
          ))
    ]

    -- so it is of what becomes of them, where the ranges that the test leaves stay
    counted-changed :
        (f : SubidRecord → List SubidRecord) (ranges : List SubidRecord)
        → ((r : SubidRecord) → test r ≡ false → f r ≡ r ∷ [])
        → count_by passes (left_by ranges ++ flat_map f (filter test ranges))
        ≡ count_by passes (flat_map f ranges)
    counted-changed f [] leaves = refl
    counted-changed f (r ∷ ranges) leaves = elim (cases_Bool (test r)) [
      | inl is ↦
          let made = flat_map f (filter test ranges) in
          rw is (omega (
            arith,
            sum_by-append tally (left_by ranges) (f r ++ made),
            sum_by-append tally (f r) made,
            sum_by-append tally (left_by ranges) made,
            sum_by-append tally (f r) (flat_map f ranges),
            counted-changed f ranges leaves,
          ))
      | inr is ↦
          rw (is, leaves r is)
          (sum_by-cons tally r (left_by ranges ++ flat_map f (filter test ranges))
          ∙ ap (λ rest. tally r + rest) (counted-changed f ranges leaves)
          ∙ sym (sum_by-cons tally r (flat_map f ranges)))
    ]

  -- the numbers without those of the test's ranges are those of the others
  numbers-left :
      (ranges : List SubidRecord) (old new : RangeNumbers)
      → AreNumbersOf ranges old
      → LosesRanges (filter test ranges) old new
      → AreNumbersOf (left_by ranges) new
  numbers-left ranges old new are loses =
      loses (left_by ranges)
      (alike-numbers ranges (filter test ranges ++ left_by ranges) old
      (λ number. counted-parts (meets number number) ranges) are)

  -- and with those of what becomes of them the numbers of what becomes of all
  pub numbers-made :
      (f : SubidRecord → List SubidRecord) (ranges : List SubidRecord) (numbers : RangeNumbers)
      → ((r : SubidRecord) → test r ≡ false → f r ≡ r ∷ [])
      → AreNumbersOf (left_by ranges ++ flat_map f (filter test ranges)) numbers
      → AreNumbersOf (flat_map f ranges) numbers
  numbers-made f ranges numbers leaves =
      alike-numbers (left_by ranges ++ flat_map f (filter test ranges)) (flat_map f ranges) numbers
      (λ number. counted-changed (meets number number) f ranges leaves)

-- ---- The ranges of an owner

module _ (owner : List ℕ) where
  -- by whether the first range is the owner's
  first-left :
      (is : Bool) (r : SubidRecord) (rest left : List SubidRecord)
      → rest ≡ left
      → (if is then [] else r ∷ []) ++ rest ≡ (if not is then r ∷ left else left)
  first-left true r rest left same = same
  first-left false r rest left same = ap (λ rest. r ∷ rest) same

  -- those of others are left
  pub others-left :
      (ranges : List SubidRecord)
      → flat_map (subid_becomes (Remove owner None)) ranges
      ≡ left_by (is_named subid_format owner) ranges
  others-left [] = refl
  others-left (r ∷ ranges) =
      first-left (is_named subid_format owner r) r
      (flat_map (subid_becomes (Remove owner None)) ranges)
      (left_by (is_named subid_format owner) ranges) (others-left ranges)

  -- the numbers without those of the owner's ranges are those of the file without them
  pub numbers-lost :
      (owned : List SubidRecord) (file : Option (List ℕ)) (old new : RangeNumbers)
      → owned ≡ filter (is_named subid_format owner) (table_records subid_format file)
      → AreNumbersIn file old
      → LosesRanges owned old new
      → AreNumbersIn
      (table_after subid_format (Become (subid_becomes (Remove owner None)) ∷ []) file) new
  numbers-lost owned file old new is are loses =
      let ranges = table_records subid_format file in
      subst (λ ranges. AreNumbersOf ranges new)
      (sym (after-change (subid_becomes (Remove owner None)) file (removal-written owner None)
      ∙ others-left ranges))
      (numbers-left (is_named subid_format owner) ranges old new are
      (subst (λ owned. LosesRanges owned old new) is loses))
