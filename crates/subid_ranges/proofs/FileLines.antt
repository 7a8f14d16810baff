-- Claim: a text into which a range came has the lines with it (`range-found`), and one of which IDs
-- went the lines that are left (`cut-found`). Way: each edit prints only ranges that read back.
use Rattle.std.proofs.Common.{◌≡◌, ℕ, ◌+◌, ◌-◌, ◌<◌, ◌≤◌, min, max, Bool, true, false, List, [], ◌∷◌, refl, arith}
use Rattle.std.specs.Prelude.{Option, nat_lt, if◌then◌else◌}
use Rattle.std.specs.List.{AllByRecursion}
use Rattle.std.proofs.lemmas.Bool.{ltb-true}
use Rattle.acct_text.specs.Lines.{file_bytes, lines_of}
use Rattle.account_model.specs.declared.records.SubidRecord.{SubidRecord}
use Rattle.account_model.specs.Edits.{Add}
use Rattle.account_model.specs.RecordEdits.{IsWrittenEdit}
use Rattle.account_model.specs.Records.{greatest_id, last_id, subid_format}
use Rattle.account_model.specs.SubidOwner.{is_owned, left_above, left_below, left_without}
use Rattle.account_model.specs.UsermodRanges.{cut_range}
use Rattle.account_model.specs.Written.{IsSubid, IsWritten}
use Rattle.account_model.proofs.HeldLaws.{subid-holds}
use Rattle.account_model.proofs.SubidLaws.{all_append}
use Rattle.acct_tables.proofs.EditedFiles.{edit-found}
use Rattle.subid_ranges.specs.RangeLines.{ids_from, new_range, owner_of, with_range, without_range}

-- a range that a line can hold is written as one
pub range-written : (r : SubidRecord) → IsSubid r → IsWritten subid_format r
range-written r held = subid-holds.written r held

-- a range that is written is one that a line can hold
pub written-range : (r : SubidRecord) → IsWritten subid_format r → IsSubid r
written-range r written = subid-holds.read (subid_format.print r) r written.one_line written.reads

-- a text with one more range has its lines
pub range-found :
    (owner : List ℕ) (first count : ℕ) (text new : List ℕ)
    → IsSubid (new_range owner first count)
    → new ≡ file_bytes (with_range owner first count (lines_of text))
    → lines_of new ≡ with_range owner first count (lines_of text)
range-found owner first count text new held is =
    edit-found subid_format refl (Add (new_range owner first count))
    (range-written (new_range owner first count) held) text new is

-- what is left below, by whether there is some
below-held :
    (first : ℕ) (r : SubidRecord) (before : Bool)
    → nat_lt r.first first ≡ before
    → IsSubid r
    → AllByRecursion IsSubid
    (if before then record r { count = min (last_id r + 1) first - r.first } ∷ [] else [])
below-held first r false is held = tt
below-held first r true is held =
    let less : r.first < first = ltb-true r.first first is
    in let some : 0 < r.count = held.some
    in let last : last_id r ≤ greatest_id = held.last
    in (record { owner = held.owner; some = omega arith; last = omega arith }, tt)

-- what is left above, by whether there is some
above-held :
    (last : ℕ) (r : SubidRecord) (behind : Bool)
    → nat_lt last (last_id r) ≡ behind
    → IsSubid r
    → AllByRecursion IsSubid (if behind
    then record r {
      first = max r.first (last + 1);
      count = last_id r + 1 - max r.first (last + 1);
    } ∷ []
    else [])
above-held last r false is held = tt
above-held last r true is held =
    let less : last < last_id r = ltb-true last (last_id r) is
    in let some : 0 < r.count = held.some
    in let bound : last_id r ≤ greatest_id = held.last
    in (record { owner = held.owner; some = omega arith; last = omega arith }, tt)

-- ranges that lines can hold are written
all-written :
    (records : List SubidRecord)
    → AllByRecursion IsSubid records
    → AllByRecursion (IsWritten subid_format) records
all-written [] all = tt
all-written (r ∷ records) all = (range-written r all.0, all-written records all.1)

-- what is left of a range, by whether it is the owner's
left-written :
    (first last : ℕ) (r : SubidRecord) (owned : Bool)
    → IsSubid r
    → AllByRecursion (IsWritten subid_format)
    (if owned then left_without first last r else r ∷ [])
left-written first last r true held = all-written (left_without first last r)
    (all_append IsSubid (left_below first r) (left_above last r)
    (below-held first r (nat_lt r.first first) refl held)
    (above-held last r (nat_lt last (last_id r)) refl held))
left-written first last r false held = (range-written r held, tt)

-- the removal of IDs from an owner prints only ranges that read back
pub cut-written :
    (name : List ℕ) (uid : Option ℕ) (first last : ℕ)
    → IsWrittenEdit subid_format (cut_range (owner_of name uid) (ids_from first last))
cut-written name uid first last text r lacks read =
    left-written first last r (is_owned name uid r) (subid-holds.read text r lacks read)

-- a text without the IDs of an owner has the lines that are left
pub cut-found :
    (name : List ℕ) (uid : Option ℕ) (first last : ℕ) (text left : List ℕ)
    → left ≡ file_bytes (without_range name uid first last (lines_of text))
    → lines_of left ≡ without_range name uid first last (lines_of text)
cut-found name uid first last text left is =
    edit-found subid_format refl (cut_range (owner_of name uid) (ids_from first last))
    (cut-written name uid first last) text left is
