-- The subordinate ranges that usermod removes and adds can stand in lines: `range-edits-written`. Way: a value of `-v` or
-- `-w` names two IDs in their order (`values-ordered`), and what is left of a range keeps its bounds (`left-held`).
use Rattle.std.proofs.Common.{◌≡◌, ℕ, ◌+◌, ◌-◌, ◌<◌, ◌≤◌, min, max, Bool, true, false, List, [], ◌∷◌, map, refl, subst, arith}
use Rattle.std.specs.Prelude.{Option, Some, None, bytes_eq, filter_map, nat_le, nat_lt, not, unwrap_or, if◌then◌else◌}
use Rattle.std.specs.List.{AllByRecursion, cons_option}
use Rattle.std.proofs.lemmas.Bool.{leb-true, ltb-true}
use Rattle.acct_text.specs.Lines.{Line, lines_of}
use Rattle.acct_text.specs.Pieces.{cut_at}
use Rattle.acct_text.proofs.NumberLaws.{some-inj, number-is}
use Rattle.account_model.specs.declared.records.SubidRecord.{SubidRecord}
use Rattle.account_model.specs.Text.{hyphen}
use Rattle.account_model.specs.Format.{is_named}
use Rattle.account_model.specs.Edits.{Edit, edited, edited_by}
use Rattle.account_model.specs.Records.{subid_format, greatest_id, read_id, last_id}
use Rattle.account_model.specs.RecordEdits.{IsWrittenEdit}
use Rattle.account_model.specs.Written.{IsWritten, IsNameField, IsSubid}
use Rattle.account_model.specs.Request.{Request, values_of}
use Rattle.account_model.specs.SubidOwner.{is_owned, left_below, left_above, left_without}
use Rattle.account_model.specs.UsermodRanges.{IdRange, range_of_ids, range_of_pieces, range_value, ranges_given, RangeOwner, RangeChange, change_asked, rename_owner, cut_range, add_range, edits_before_adding, range_edits, has_range, new_ranges, change_in, renaming}
use Rattle.account_model.proofs.HeldLaws.{subid-holds, each_where-written}
use Rattle.account_model.proofs.ListLaws.{all-append, all-if}

-- two IDs in their order
pub record IsOrdered (ids : IdRange) : Type 0 where
  pub ordered : ids.first ≤ ids.last
  pub small : ids.last ≤ greatest_id

-- two IDs that may be in their order
ordered-by :
    (first last : ℕ) (ids : IdRange) (fits : Bool)
    → nat_le first last ≡ fits
    → last ≤ greatest_id
    → (if fits then Some (let r : IdRange = record { first = first; last = last } in r)
    else None) ≡ Some ids
    → IsOrdered ids
ordered-by first last ids false is small e = cc
ordered-by first last ids true is small e =
    subst IsOrdered (some-inj e) (record { ordered = leb-true first last is; small = small })

-- two texts that are IDs
ids-by :
    (first last : Option ℕ) (ids : IdRange)
    → ((n : ℕ) → last ≡ Some n → n ≤ greatest_id)
    → range_of_ids first last ≡ Some ids
    → IsOrdered ids
ids-by None last ids small e = cc
ids-by (Some first) None ids small e = cc
ids-by (Some first) (Some last) ids small e =
    ordered-by first last ids (nat_le first last) refl (small last refl) e

-- the pieces of a range
pieces-ordered :
    (pieces : List (List ℕ)) (ids : IdRange)
    → range_of_pieces pieces ≡ Some ids
    → IsOrdered ids
pieces-ordered (first ∷ last ∷ []) ids e =
    ids-by (read_id first) (read_id last) ids
    (λ n found. (number-is greatest_id last n found).bounded) e
pieces-ordered pieces ids e = cc

-- ranges of values
values-by :
    (o : Option IdRange) (ranges : List IdRange)
    → ((ids : IdRange) → o ≡ Some ids → IsOrdered ids)
    → AllByRecursion IsOrdered ranges
    → AllByRecursion IsOrdered (cons_option o ranges)
values-by None ranges one all = all
values-by (Some ids) ranges one all = (one ids refl, all)

-- the ranges of an option
pub values-ordered :
    (values : List (List ℕ)) → AllByRecursion IsOrdered (filter_map range_value values)
values-ordered [] = tt
values-ordered (value ∷ values) = values-by (range_value value) (filter_map range_value values)
    (λ ids e. pieces-ordered (cut_at hyphen value) ids e) (values-ordered values)

-- ranges of which one may be left out
lacked-by :
    (ids : IdRange) (ranges others : List IdRange) (held : Bool)
    → IsOrdered ids
    → AllByRecursion IsOrdered ranges
    → AllByRecursion IsOrdered others
    → AllByRecursion IsOrdered (if held then ranges else ids ∷ others)
lacked-by ids ranges others true one all also = all
lacked-by ids ranges others false one all also = (one, also)

-- the ranges that the user lacks
new-ordered :
    (owner : RangeOwner) (ranges : List IdRange) (lines : List Line)
    → AllByRecursion IsOrdered ranges
    → AllByRecursion IsOrdered (new_ranges owner ranges lines)
new-ordered owner [] lines all = tt
new-ordered owner (ids ∷ ranges) lines all =
    lacked-by ids (new_ranges owner ranges lines)
    (new_ranges owner ranges (edited subid_format lines (add_range owner ids)))
    (has_range owner ids lines) all.0
    (new-ordered owner ranges lines all.1)
    (new-ordered owner ranges (edited subid_format lines (add_range owner ids)) all.1)

-- the ranges that a change adds to a file
pub added-ordered :
    (bytes : Option (List ℕ)) (owner : RangeOwner) (removing adding : List ℕ) (request : Request)
    → AllByRecursion IsOrdered (change_in bytes owner (change_asked removing adding request)).added
added-ordered bytes owner removing adding request = new-ordered owner (ranges_given adding request)
    (edited_by subid_format (edits_before_adding owner (change_asked removing adding request))
    (lines_of (unwrap_or bytes [])))
    (values-ordered (values_of adding request))

-- what is left below, by whether there is some
pub below-by :
    (first : ℕ) (r : SubidRecord) (before : Bool)
    → nat_lt r.first first ≡ before
    → IsSubid r
    → AllByRecursion IsSubid (if before then record r
    { count = min (last_id r + 1) first - r.first } ∷ [] else [])
below-by first r false is held = tt
below-by first r true is held =
    let less : r.first < first = ltb-true r.first first is
    in let some : 0 < r.count = held.some
    in let last : last_id r ≤ greatest_id = held.last
    in (record { owner = held.owner; some = omega arith; last = omega arith }, tt)

-- what is left above, by whether there is some
pub above-by :
    (last : ℕ) (r : SubidRecord) (behind : Bool)
    → nat_lt last (last_id r) ≡ behind
    → IsSubid r
    → AllByRecursion IsSubid (if behind
    then record r {
      first = max r.first (last + 1);
      count = last_id r + 1 - max
          r.first (last + 1);
    } ∷ []
    else [])
above-by last r false is held = tt
above-by last r true is held =
    let less : last < last_id r = ltb-true last (last_id r) is
    in let some : 0 < r.count = held.some
    in let bound : last_id r ≤ greatest_id = held.last
    in (record { owner = held.owner; some = omega arith; last = omega arith }, tt)

-- what is left of a range can stand in lines
pub left-held :
    (first last : ℕ) (r : SubidRecord)
    → IsSubid r
    → AllByRecursion IsSubid (left_without first last r)
left-held first last r held = all-append IsSubid (left_below first r) (left_above last r)
    (below-by first r (nat_lt r.first first) refl held)
    (above-by last r (nat_lt last (last_id r)) refl held)

-- records that can stand in lines are written
subids-written :
    (records : List SubidRecord)
    → AllByRecursion IsSubid records
    → AllByRecursion (IsWritten subid_format) records
subids-written [] all = tt
subids-written (r ∷ records) all = (subid-holds.written r all.0, subids-written records all.1)

-- a range that is cut, or not
cut-by :
    (ids : IdRange) (r : SubidRecord) (owned : Bool)
    → IsSubid r
    → AllByRecursion (IsWritten subid_format)
    (if owned then left_without ids.first ids.last r else r ∷ [])
cut-by ids r true held =
    subids-written (left_without ids.first ids.last r) (left-held ids.first ids.last r held)
cut-by ids r false held = (subid-holds.written r held, tt)

-- the ranges that go
cuts-written :
    (owner : RangeOwner) (ranges : List IdRange)
    → AllByRecursion (IsWrittenEdit subid_format) (map (cut_range owner) ranges)
cuts-written owner [] = tt
cuts-written owner (ids ∷ ranges) = (
  (λ text r lacks read. cut-by ids r (is_owned owner.new_name owner.uid r)
      (subid-holds.read text r lacks read)),
  cuts-written owner ranges,
)

-- a range that comes
added-held : (name : List ℕ) (ids : IdRange) → IsNameField name → IsOrdered ids
    → IsSubid (record { owner = name; first = ids.first; count = ids.last + 1 - ids.first })
added-held name ids named is =
    let ordered : ids.first ≤ ids.last = is.ordered
    in let small : ids.last ≤ greatest_id = is.small
    in record { owner = named; some = omega arith; last = omega arith }

-- the ranges that come
adds-written :
    (owner : RangeOwner) (ranges : List IdRange)
    → IsNameField owner.new_name
    → AllByRecursion IsOrdered ranges
    → AllByRecursion (IsWrittenEdit subid_format) (map (add_range owner) ranges)
adds-written owner [] named all = tt
adds-written owner (ids ∷ ranges) named all = (
  subid-holds.written _ (added-held owner.new_name ids named all.0),
  adds-written
      owner ranges named all.1,
)

-- what holds of the renaming and of each removal holds of the edits before ranges are added
pub before-all :
    (P : Edit SubidRecord → Type 0) (owner : RangeOwner) (change : RangeChange)
    → P (rename_owner owner)
    → AllByRecursion P (map (cut_range owner) change.removed)
    → AllByRecursion P (edits_before_adding owner change)
before-all P owner change renames cuts = all-append P (renaming owner) (map (cut_range owner) change.removed)
    (all-if P (not (bytes_eq owner.old_name owner.new_name)) (rename_owner owner) renames) cuts

-- the owner field
owner-written :
    (owner : RangeOwner)
    → IsNameField owner.new_name
    → IsWrittenEdit subid_format (rename_owner owner)
owner-written owner named =
    each_where-written subid_format IsSubid subid-holds (is_named subid_format owner.old_name)
    (λ r. record r { owner = owner.new_name })
    (λ r is. record { owner = named; some = is.some; last = is.last })

-- all edits of a table of subordinate IDs
pub range-edits-written :
    (owner : RangeOwner) (change : RangeChange)
    → IsNameField owner.new_name
    → AllByRecursion IsOrdered change.added
    → AllByRecursion (IsWrittenEdit subid_format) (range_edits owner change)
range-edits-written owner change named all =
    all-append (IsWrittenEdit subid_format) (edits_before_adding owner change)
    (map (add_range owner) change.added)
    (before-all _ owner change (owner-written owner named) (cuts-written owner change.removed))
    (adds-written owner change.added named all)
