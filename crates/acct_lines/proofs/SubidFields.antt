-- Claim: what was read of three fields is the record of subuid(5) that the line is (`subid-read`).
use Rattle.std.proofs.Common.{◌≡◌, ℕ, List, [], ◌∷◌, length, refl, sym, ◌∙◌, ap, arith, Option, Some, None, true, false}
use Rattle.std.specs.Option.{option_or}
use Rattle.account_model.specs.declared.fault.LineFault.{LineFault}
use Rattle.account_model.specs.declared.fault.LineFault.TheVariants.{BadNumber, BadRange}
use Rattle.acct_text.specs.Pieces.{fields_of}
use Rattle.account_model.specs.Records.{read_id, read_count, is_bad_range, subid_of_fields, subid_with, subid_format}
use Rattle.account_model.specs.Faults.{field_at, name_fault, range_fault}
use Rattle.acct_lines.specs.Fields.{IsFieldRead}
use Rattle.acct_lines.proofs.FirstFault.{named-clear, read-clear}
use Rattle.acct_lines.proofs.Taken.{AreTakenOf}

-- the record of three fields, by their places
fields-at :
    (fields : List (List ℕ))
    → length fields ≡ 3
    → subid_of_fields fields
    ≡ subid_with (field_at 1 fields) (read_id (field_at 2 fields)) (read_count (field_at 3 fields))
fields-at (owner ∷ first ∷ count ∷ []) counted = refl
fields-at fields counted = absurd (omega (arith, counted))

module _ (line : List ℕ) (fields : List (List ℕ)) (owner : List ℕ) {first count : ℕ}
    {counted second last : Option LineFault} (taken : AreTakenOf 3 line fields counted)
    (first_read : IsFieldRead (read_id (field_at 2 fields)) (BadNumber 2) counted second first)
    (count_read : IsFieldRead (read_count (field_at 3 fields)) (BadNumber 3) second last count)
    (clear : None ≡ option_or last (name_fault (owner ∷ []))) where
  -- the record that was read of a line with three fields
  pub subid-read :
      owner ≡ field_at 1 fields
      → is_bad_range first count ≡ false
      → subid_format.read line ≡ Some (record { owner = owner; first = first; count = count })
  subid-read is_owner good =
      let named = named-clear _ clear in
      let third = read-clear count_read named.0 in
      let second = read-clear first_read third.0 in
      let are = taken.all second.0 in
      ap subid_of_fields (sym are.cut) ∙ fields-at fields are.counted
      ∙ rw (← is_owner, second.1, third.1, named.1, good) refl

  -- the fault of a range that is none
  pub subid-bad :
      is_bad_range first count ≡ true
      → range_fault (read_id (field_at 2 (fields_of line)))
      (read_count (field_at 3 (fields_of line))) ≡ Some BadRange
  subid-bad bad =
      let third = read-clear count_read (named-clear _ clear).0 in
      let second = read-clear first_read third.0 in
      rw (← (taken.all second.0).cut, second.1, third.1, bad) refl
