-- Claim: usermod gives no number to one more range that is in one (`ranges-stay`). Way: what is left of a range lies in it
-- (`cut-keeps`), and a new range that meets a line, as the lines then stand, is refused (`adds-stay`).
use Rattle.std.proofs.Common.{◌≡◌, ℕ, ◌+◌, ◌-◌, ◌≤◌, ◌<◌, min, max, Bool, true, false, List, [], ◌∷◌, ◌++◌, map, refl, sym, ◌∙◌, ap, subst, arith}
use Rattle.std.specs.Prelude.{Option, Some, None, cond, count_by, fold, nat_lt, if◌then◌else◌}
use Rattle.std.specs.List.{AllByRecursion, position_from, cons_option, list_any}
use Rattle.std.proofs.lemmas.Bool.{ltb-true, or_from}
use Rattle.acct_text.specs.declared.Tab.{Tab}
use Rattle.acct_text.specs.Lines.{Line, lines_of, file_bytes}
use Rattle.acct_text.proofs.LinesLaws.{lines_of-only}
use Rattle.account_model.specs.declared.records.SubidRecord.{SubidRecord}
use Rattle.account_model.specs.declared.refusal.Refusal.{Refusal}
use Rattle.account_model.specs.declared.refusal.Refusal.TheVariants.{Meets}
use Rattle.account_model.specs.Format.{records_of, is_named}
use Rattle.account_model.specs.Edits.{Edit, with_line, edited_by}
use Rattle.account_model.specs.Records.{subid_format, last_id}
use Rattle.account_model.specs.RecordEdits.{records_edited, IsWrittenEdit}
use Rattle.account_model.specs.FreeRange.{meets}
use Rattle.account_model.specs.SubidOwner.{is_owned, left_without}
use Rattle.account_model.specs.UsermodRanges.{IdRange, RangeOwner, RangeChange, rename_owner, cut_range, add_range, edits_before_adding, range_edits, line_meets, first_meeting, meeting_in}
use Rattle.account_model.proofs.FreeRangeLaws.{apart-is}
use Rattle.account_model.proofs.SameLaws.{subid-tells}
use Rattle.account_model.proofs.EditLines.{edited-lines, table-edited}
use Rattle.account_model.proofs.UsermodRangeScripts.{IsOrdered, before-all}
use Rattle.ids_apart.specs.Holders.{range_has}
use Rattle.ids_apart.proofs.Counts.{cond-le, cond-two, count-becomes, count-more, push-meets}
use Rattle.ids_apart.proofs.HolderEdits.{AddsNone, EditsMeetNoMore, before-meets, each-adds-none}
use Rattle.ids_apart.proofs.Kept.{TableStays}
use Rattle.ids_apart.proofs.Numbers.{has-number, number-in, unmet-count}

-- ---- The owner

-- a range has its numbers, whoever owns it
renamed-has :
    (number : ℕ) (name : List ℕ) (r : SubidRecord) (renames : Bool)
    → range_has number (if renames then record r { owner = name } else r) ≡ true
    → range_has number r ≡ true
renamed-has number name r true has = has
renamed-has number name r false has = has

-- the owner field follows the name
rename-keeps :
    (number : ℕ) (owner : RangeOwner)
    → AddsNone subid_format (range_has number) (rename_owner owner)
rename-keeps number owner = each-adds-none subid_format (range_has number)
    (λ r. if is_named subid_format owner.old_name r then record r { owner = owner.new_name } else r)
    (λ r. renamed-has number owner.new_name r (is_named subid_format owner.old_name r))

-- ---- What is left of a range

module _ (number first last : ℕ) (r : SubidRecord) where
  -- the part below
  abbrev below : SubidRecord
  below = record r { count = min (last_id r + 1) first - r.first }

  -- the part above
  abbrev above : SubidRecord
  above = record r {
    first = max r.first (last + 1);
    count = last_id r + 1 - max r.first (last + 1);
  }

  -- a number of the part below is one of the range, before the first that goes
  below-has :
      nat_lt r.first first ≡ true
      → range_has number below ≡ true
      → (range_has number r ≡ true) × (number < first)
  below-has before has =
      let less : r.first < first = ltb-true r.first first before
      in let is = number-in number below has
      in let low : r.first ≤ number = is.0
      in let high : number ≤ r.first + (min (last_id r + 1) first - r.first) - 1 = is.1
      in (has-number number r low (omega arith), omega arith)

  -- a number of the part above is one of the range, behind the last that goes
  above-has :
      nat_lt last (last_id r) ≡ true
      → range_has number above ≡ true
      → (range_has number r ≡ true) × (last < number)
  above-has behind has =
      let less : last < last_id r = ltb-true last (last_id r) behind
      in let is = number-in number above has
      in let low : max r.first (last + 1) ≤ number = is.0
      in let high : number ≤ max r.first (last + 1)
      + (last_id r + 1 - max r.first (last + 1)) - 1 = is.1
      in (has-number number r (omega arith) (omega arith), omega arith)

  -- of both parts together at most one has a number, and only where the range has it
  left-count :
      (before behind : Bool)
      → first ≤ last
      → nat_lt r.first first ≡ before
      → nat_lt last (last_id r) ≡ behind
      → count_by (range_has number)
      ((if before then below ∷ [] else []) ++ (if behind then above ∷ [] else []))
      ≤ cond (range_has number r) 1 0
  left-count false false order is also = omega arith
  left-count true false order is also =
      omega (
        arith,
        count-more (range_has number) below [],
        cond-le (range_has number below) (range_has number r) (λ has. (below-has is has).0),
      )
  left-count false true order is also =
      omega (
        arith,
        count-more (range_has number) above [],
        cond-le (range_has number above) (range_has number r) (λ has. (above-has also has).0),
      )
  left-count true true order is also =
      omega (
        arith,
        count-more (range_has number) below (above ∷ []),
        count-more (range_has number) above [],
        cond-two (range_has number below) (range_has number above) (range_has number r)
            (λ has. (below-has is has).0) (λ has. (above-has also has).0)
            (λ has too. apart (below-has is has).1 (above-has also too).1),
      )
    where
      apart : number < first → last < number → ⊥
      apart less greater = absurd (omega (arith, less, greater, order))

-- a range that may be cut
cut-count :
    (number : ℕ) (ids : IdRange) (r : SubidRecord) (owned : Bool)
    → ids.first ≤ ids.last
    → count_by (range_has number)
    (if owned then left_without ids.first ids.last r else r ∷ [])
    ≤ cond (range_has number r) 1 0
cut-count number ids r true order = left-count number ids.first ids.last r
    (nat_lt r.first ids.first) (nat_lt ids.last (last_id r)) order refl refl
cut-count number ids r false order = omega (arith, count-more (range_has number) r [])

-- a range that is cut gives no number to one more
cut-keeps :
    (number : ℕ) (owner : RangeOwner) (ids : IdRange)
    → ids.first ≤ ids.last
    → AddsNone subid_format (range_has number) (cut_range owner ids)
cut-keeps number owner ids order rs = count-becomes (range_has number)
    (λ r. if is_owned owner.new_name owner.uid r then left_without ids.first ids.last r else r ∷ [])
    (λ r. cut-count number ids r (is_owned owner.new_name owner.uid r) order) rs

-- and so do all that go
cuts-keep :
    (number : ℕ) (owner : RangeOwner) (ranges : List IdRange)
    → AllByRecursion IsOrdered ranges
    → AllByRecursion (AddsNone subid_format (range_has number)) (map (cut_range owner) ranges)
cuts-keep number owner [] all = tt
cuts-keep number owner (ids ∷ ranges) all =
    (cut-keeps number owner ids all.0.ordered, cuts-keep number owner ranges all.1)

-- ---- New ranges

-- a record that may be there, in front of two lists
cons-append :
    {X : Type 0} (o : Option X) (a b : List X) → cons_option o (a ++ b) ≡ cons_option o a ++ b
cons-append None a b = refl
cons-append (Some x) a b = refl

-- the records of lines with one more
with-line-records :
    (text : List ℕ) (lines : List Line) (r : SubidRecord)
    → subid_format.read text ≡ Some r
    → records_of subid_format (with_line text lines) ≡ records_of subid_format lines ++ r ∷ []
with-line-records text [] r read = ap (λ o. cons_option o []) read
with-line-records text (line ∷ lines) r read =
    ap (λ (rs : List SubidRecord). cons_option (subid_format.read line.text) rs)
    (with-line-records text lines r read)
    ∙ cons-append (subid_format.read line.text) (records_of subid_format lines) (r ∷ [])

-- a line that doesn't meet the range, and those behind it
line-by :
    (ids : IdRange) (o : Option SubidRecord) (rs : List SubidRecord)
    → elim o as (λ r. Bool) [ None ↦ false | Some r ↦ meets ids.first ids.last r ] ≡ false
    → list_any (meets ids.first ids.last) rs ≡ false
    → list_any (meets ids.first ids.last) (cons_option o rs) ≡ false
line-by ids None rs none others = others
line-by ids (Some r) rs none others =
    or_from (meets ids.first ids.last r) (list_any (meets ids.first ids.last) rs) none others

-- the first place is none
first-by :
    (test : Bool) (n : ℕ) (rest : Option ℕ)
    → cond test (Some n) rest ≡ None
    → (test ≡ false) × (rest ≡ None)
first-by true n rest none = cc
first-by false n rest none = (refl, none)

-- no line meets the range
none-meets :
    (ids : IdRange) (n : ℕ) (lines : List Line)
    → position_from (line_meets ids) n lines ≡ None
    → list_any (meets ids.first ids.last) (records_of subid_format lines) ≡ false
none-meets ids n [] none = refl
none-meets ids n (line ∷ lines) none =
    let parts = first-by (line_meets ids line) n (position_from (line_meets ids) (n + 1) lines) none
    in line-by ids (subid_format.read line.text) (records_of subid_format lines) parts.0
    (none-meets ids (n + 1) lines parts.1)

-- the record of a new range
abbrev added_record : RangeOwner → IdRange → SubidRecord
added_record owner ids =
    record { owner = owner.new_name; first = ids.first; count = ids.last + 1 - ids.first }

-- a range that meets none gives its numbers to one alone
added-meets :
    (number : ℕ) (owner : RangeOwner) (ids : IdRange) (rs : List SubidRecord)
    → ids.first ≤ ids.last
    → list_any (meets ids.first ids.last) rs ≡ false
    → count_by (range_has number) (rs ++ added_record owner ids ∷ [])
    ≤ max 1 (count_by (range_has number) rs)
added-meets number owner ids rs order none =
    push-meets (range_has number) rs (added_record owner ids) (λ has.
    let is = number-in number (added_record owner ids) has
    in let high : number ≤ ids.first + (ids.last + 1 - ids.first) - 1 = is.1
    in unmet-count number ids.first ids.last rs is.0 (omega (arith, high, order))
    (apart-is ids.first ids.last rs none))

-- the first meeting is none
meeting-by :
    (table : Tab) (ids : IdRange) (o : Option ℕ) (rest : Option Refusal)
    → elim o as (λ n. Option Refusal) [
      | Some number ↦ Some (Meets ids.first ids.last table number)
      | None ↦ rest
    ] ≡ None
    → (o ≡ None) × (rest ≡ None)
meeting-by table ids None rest none = (refl, none)
meeting-by table ids (Some number) rest none = cc

-- new ranges that aren't refused
adds-stay :
    (number : ℕ) (table : Tab) (owner : RangeOwner) (added : List IdRange) (lines : List Line)
    → AllByRecursion IsOrdered added
    → AllByRecursion (IsWrittenEdit subid_format) (map (add_range owner) added)
    → first_meeting table owner added lines ≡ None
    → EditsMeetNoMore subid_format (range_has number) (records_of subid_format lines)
    (map (add_range owner) added)
adds-stay number table owner [] lines order written none = omega arith
adds-stay number table owner (ids ∷ added) lines order written none =
    let new = added_record owner ids
    in let more = with_line (subid_format.print new) lines
    in let parts = meeting-by table ids (position_from (line_meets ids) 1 lines)
    (first_meeting table owner added more) none
    in let same = with-line-records (subid_format.print new) lines new written.0.reads
    in let one = added-meets number owner ids (records_of subid_format lines) order.0.ordered
    (none-meets ids 1 lines parts.0)
    in let rest = subst (λ (rs : List SubidRecord).
    EditsMeetNoMore subid_format (range_has number) rs (map (add_range owner) added)) same
    (adds-stay number table owner added more order.1 written.1 parts.1)
    in omega (arith, one, rest)

-- ---- The whole

-- what holds of two lists holds of the first
all-front :
    {X : Type 0} (P : X → Type 0) (a b : List X) → AllByRecursion P (a ++ b) → AllByRecursion P a
all-front P [] b all = tt
all-front P (x ∷ a) b all = (all.0, all-front P a b all.1)

-- and of the second
all-back :
    {X : Type 0} (P : X → Type 0) (a b : List X) → AllByRecursion P (a ++ b) → AllByRecursion P b
all-back P [] b all = all
all-back P (x ∷ a) b all = all-back P a b all.1

-- the records of the lines after edits
records-after :
    (edits : List (Edit SubidRecord)) (text : List ℕ)
    → AllByRecursion (IsWrittenEdit subid_format) edits
    → records_of subid_format (edited_by subid_format edits (lines_of text))
    ≡ fold (records_edited subid_format) (records_of subid_format (lines_of text)) edits
records-after edits text written =
    let lines = edited_by subid_format edits (lines_of text)
    in sym (ap (records_of subid_format)
    (lines_of-only (file_bytes lines) lines (edited-lines subid_format refl edits text written)))
    ∙ table-edited subid_format subid-tells refl edits text written

-- the ranges that go and those that come
pub ranges-stay :
    (number : ℕ) (table : Tab) (owner : RangeOwner) (change : RangeChange)
    (bytes : Option (List ℕ))
    → AllByRecursion IsOrdered change.removed
    → AllByRecursion IsOrdered change.added
    → AllByRecursion (IsWrittenEdit subid_format) (range_edits owner change)
    → meeting_in table owner change bytes ≡ None
    → TableStays subid_format (range_has number) bytes (range_edits owner change)
ranges-stay number table owner change None removed added written none = tt
ranges-stay number table owner change (Some text) removed added written none =
    let before = edits_before_adding owner change
    in let adds = map (add_range owner) change.added
    in let records = records_of subid_format (lines_of text)
    in let same = records-after before text
    (all-front (IsWrittenEdit subid_format) before adds written)
    in before-meets subid_format (range_has number) before adds records
    (before-all (AddsNone subid_format (range_has number)) owner change (rename-keeps number owner)
    (cuts-keep number owner change.removed removed))
    (subst (λ (rs : List SubidRecord). EditsMeetNoMore subid_format (range_has number) rs adds) same
    (adds-stay number table owner change.added (edited_by subid_format before (lines_of text)) added
    (all-back (IsWrittenEdit subid_format) before adds written) none))
