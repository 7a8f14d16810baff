-- Claim: what a search finds in the lines left is by the range of the next, and by what is left
-- behind it (`meeting-here`, `meeting-behind`, `held-left`); a line of another owner has none of the
-- owner's (`other-owned`).
use Rattle.std.proofs.Common.{◌≡◌, ◌≤◌, ℕ, ◌+◌, Bool, true, false, List, [], ◌∷◌, refl, sym, ◌∙◌, ap, arith}
use Rattle.std.specs.Prelude.{Option, Some, None, ◌||◌, ◌&&◌, nat_le, not, is_none, if◌then◌else◌}
use Rattle.std.specs.List.{AllByRecursion, cons_option, list_any, position_from}
use Rattle.std.proofs.lemmas.Bool.{and_parts, le-leb, leb-true, true≢false}
use Rattle.acct_text.specs.Lines.{Line}
use Rattle.account_model.specs.declared.records.SubidRecord.{SubidRecord}
use Rattle.account_model.specs.FreeRange.{Meeting, meets}
use Rattle.account_model.specs.Naming.{first_field}
use Rattle.account_model.specs.Records.{last_id, subid_format}
use Rattle.account_model.proofs.NamingLaws.{subid-names_first}
use Rattle.account_model.specs.SubidOwner.{is_owned}
use Rattle.account_model.specs.UsermodRanges.{has_range, lies_in, line_meets}
use Rattle.subid_ranges.specs.Owned.{owned_one}
use Rattle.subid_ranges.specs.RangeLines.{holds_at, ids_from, meeting_line, meets_at, owner_of, ranges_of}

-- by what a line of another owner reads as
other-by :
    (name : List ℕ) (uid : Option ℕ) (found : Option SubidRecord)
    → ((r : SubidRecord) → found ≡ Some r → is_owned name uid r ≡ false)
    → None ≡ owned_one name uid found
other-by name uid None other = refl
other-by name uid (Some r) other = rw (other r refl) refl

-- a line of another owner
pub other-owned :
    (name : List ℕ) (uid : Option ℕ) (line : List ℕ)
    → ((r : SubidRecord) → r.owner ≡ first_field line → is_owned name uid r ≡ false)
    → None ≡ owned_one name uid (subid_format.read line)
other-owned name uid line other =
    other-by name uid (subid_format.read line)
    (λ r read. other r (sym (subid-names_first line r read)))

module _ (line : Line) (left rest : List Line) (is : left ≡ line ∷ rest) where
  module _ (first last number : ℕ) where
    -- by whether the next line meets the IDs
    meeting-next :
        (test : Bool)
        → meets_at first last (subid_format.read line.text) ≡ test
        → position_from (line_meets (ids_from first last)) number left
        ≡ (if test then Some number else position_from
        (line_meets (ids_from first last)) (number + 1) rest)
    meeting-next test meets =
        ap (position_from (line_meets (ids_from first last)) number) is
        ∙ ap (λ test. if test then Some number else position_from
        (line_meets (ids_from first last)) (number + 1) rest) meets

    -- the next line is the first that meets the IDs
    pub meeting-here :
        meets_at first last (subid_format.read line.text) ≡ true
        → position_from (line_meets (ids_from first last)) number left ≡ Some number
    meeting-here meets = meeting-next true meets

    -- or the first is behind it
    pub meeting-behind :
        meets_at first last (subid_format.read line.text) ≡ false
        → position_from (line_meets (ids_from first last)) number left
        ≡ position_from (line_meets (ids_from first last)) (number + 1) rest
    meeting-behind apart = meeting-next false apart

  module _ (name : List ℕ) (uid : Option ℕ) (first last : ℕ) where
    -- whether the owner has the IDs in one line, by the next line
    held-by :
        (found : Option SubidRecord) (ranges : List SubidRecord)
        → list_any (λ r. is_owned name uid r && lies_in (ids_from first last) r)
        (cons_option found ranges)
        ≡ (holds_at name uid first last found
        || list_any (λ r. is_owned name uid r && lies_in (ids_from first last) r) ranges)
    held-by None ranges = refl
    held-by (Some r) ranges = refl

    -- and by what is behind it
    pub held-left :
        (test : Bool)
        → holds_at name uid first last (subid_format.read line.text) ≡ test
        → has_range (owner_of name uid) (ids_from first last) left
        ≡ (test || has_range (owner_of name uid) (ids_from first last) rest)
    held-left test holds =
        ap (has_range (owner_of name uid) (ids_from first last)) is
        ∙ held-by (subid_format.read line.text) (ranges_of rest)
        ∙ ap (λ test. test || has_range (owner_of name uid) (ids_from first last) rest) holds

-- by whether the first line meets the IDs
meeting-by :
    (first last : ℕ) (found : Option SubidRecord) (rest : List SubidRecord) (start : ℕ)
    (later : Option ℕ)
    → is_none later ≡ not (list_any (meets first last) rest)
    → is_none (if meets_at first last found then Some start else later)
    ≡ not (list_any (meets first last) (cons_option found rest))
meeting-by first last None rest start later is = is
meeting-by first last (Some r) rest start later is =
    meeting-test first last r rest start later (meets first last r) refl is where
      meeting-test :
          (first last : ℕ) (r : SubidRecord) (rest : List SubidRecord) (start : ℕ)
          (later : Option ℕ) (test : Bool)
          → meets first last r ≡ test
          → is_none later ≡ not (list_any (meets first last) rest)
          → is_none (if meets first last r then Some start else later)
          ≡ not (list_any (meets first last) (r ∷ rest))
      meeting-test first last r rest start later true met is = rw met refl
      meeting-test first last r rest start later false met is = rw met is

-- no line meets the IDs where no range does
pub meeting-any :
    (first last : ℕ) (lines : List Line) (start : ℕ)
    → is_none (position_from (line_meets (ids_from first last)) start lines)
    ≡ not (list_any (meets first last) (ranges_of lines))
meeting-any first last [] start = refl
meeting-any first last (line ∷ lines) start =
    meeting-by first last (subid_format.read line.text) (ranges_of lines) start
    (position_from (line_meets (ids_from first last)) (start + 1) lines)
    (meeting-any first last lines (start + 1))

-- nothing is found where the test says so
is-none : (found : Option ℕ) → is_none found ≡ true → found ≡ None
is-none None is = refl
is-none (Some n) is = absurd cc

-- no line meets the IDs where no range has one of them
pub meeting-free :
    (first last : ℕ) (lines : List Line)
    → list_any (meets first last) (ranges_of lines) ≡ false
    → meeting_line first last lines ≡ None
meeting-free first last lines none =
    is-none (meeting_line first last lines)
    (meeting-any first last lines 1 ∙ ap (λ (any : Bool). not any) none)

-- a range whose IDs aren't among these
apart-by :
    (first last : ℕ) (r : SubidRecord) (test : Bool)
    → meets first last r ≡ test
    → test ≡ false
    → Meeting first last r
    → ⊥
apart-by first last r true is none meeting = cc
apart-by first last r false is none meeting =
    let before = le-leb r.first last meeting.begins_before in
    let behind = le-leb first (last_id r) meeting.ends_behind in
    let both : meets first last r ≡ true = rw (before, behind) refl in
    true≢false (sym both ∙ is)

-- both tests are false where neither is true
or_false : (a b : Bool) → (a || b) ≡ false → (a ≡ false) × (b ≡ false)
or_false true b none = absurd cc
or_false false b none = (refl, none)

-- no range among these has one of the IDs
apart-all :
    (first last : ℕ) (records : List SubidRecord)
    → list_any (meets first last) records ≡ false
    → AllByRecursion (λ r. Meeting first last r → ⊥) records
apart-all first last [] none = tt
apart-all first last (r ∷ records) none =
    let parts = or_false (meets first last r) (list_any (meets first last) records) none in
    (apart-by first last r (meets first last r) refl parts.0, apart-all first last records parts.1)

-- IDs that meet no range lie in none
lies-by :
    (first last : ℕ) (r : SubidRecord) (test : Bool)
    → first ≤ last
    → lies_in (ids_from first last) r ≡ test
    → meets first last r ≡ false
    → test ≡ false
lies-by first last r false order is none = refl
lies-by first last r true order is none =
    let both = and_parts (nat_le r.first first) (nat_le last (last_id r)) is in
    let low : r.first ≤ first = leb-true r.first first both.0 in
    let high : last ≤ last_id r = leb-true last (last_id r) both.1 in
    absurd (apart-by first last r (meets first last r) refl none
    (record { begins_before = omega arith; ends_behind = omega arith }))

-- neither a test of one nor of the others passes
neither :
    (owned lies others : Bool)
    → lies ≡ false
    → others ≡ false
    → ((owned && lies) || others) ≡ false
neither true lies others fails none = rw (fails, none) refl
neither false lies others fails none = none

-- so no owner has them
held-none :
    (name : List ℕ) (uid : Option ℕ) (first last : ℕ) (ranges : List SubidRecord)
    → first ≤ last
    → list_any (meets first last) ranges ≡ false
    → list_any (λ r. is_owned name uid r && lies_in (ids_from first last) r) ranges ≡ false
held-none name uid first last [] order none = refl
held-none name uid first last (r ∷ ranges) order none =
    let parts = or_false (meets first last r) (list_any (meets first last) ranges) none in
    neither (is_owned name uid r) (lies_in (ids_from first last) r)
    (list_any (λ r. is_owned name uid r && lies_in (ids_from first last) r) ranges)
    (lies-by first last r (lies_in (ids_from first last) r) order refl parts.0)
    (held-none name uid first last ranges order parts.1)

-- no owner has IDs that meet no range of the lines
pub held-free :
    (name : List ℕ) (uid : Option ℕ) (first last : ℕ) (lines : List Line)
    → first ≤ last
    → list_any (meets first last) (ranges_of lines) ≡ false
    → has_range (owner_of name uid) (ids_from first last) lines ≡ false
held-free name uid first last lines = held-none name uid first last (ranges_of lines)

-- a test that is false where its opposite is true
not-true : (test : Bool) → true ≡ not test → test ≡ false
not-true true is = absurd cc
not-true false is = refl

-- where no line meets the IDs, no range has one of them
pub meeting-none :
    (first last : ℕ) (lines : List Line)
    → meeting_line first last lines ≡ None
    → AllByRecursion (λ r. Meeting first last r → ⊥) (ranges_of lines)
meeting-none first last lines none =
    apart-all first last (ranges_of lines)
    (not-true (list_any (meets first last) (ranges_of lines))
    (sym (ap is_none none) ∙ meeting-any first last lines 1))
