-- Claims: where the numbers taken are those of the ranges, the least gap is the free range
-- (`least-free`), and numbers that aren't taken meet no range (`free-none`); the start that is
-- found is the least that fits (`found-least`), and its range one that a line can hold
-- (`found-held`). Way: each range of a file has a number, so numbers meet a range exactly where one
-- of them is in it.
use Rattle.std.proofs.Common.{◌≡◌, ℕ, ◌+◌, ◌-◌, ◌<◌, ◌≤◌, max, true, false, List, [], ◌∷◌, refl, sym, ◌∙◌, subst, arith}
use Rattle.std.specs.Prelude.{Option, Some, None, nat_le}
use Rattle.std.specs.List.{AllByRecursion, cons_option, list_any}
use Rattle.std.proofs.lemmas.Bool.{and_from, and_parts, false_from_ne_true, false≢true, le-leb, leb-true, or_from, or_parts}
use Rattle.acct_text.specs.Lines.{Line}
use Rattle.account_model.specs.declared.records.SubidRecord.{SubidRecord}
use Rattle.account_model.specs.FreeRange.{FitsAt, IsFreeRange, Meeting, free_range, meets}
use Rattle.account_model.specs.Ids.{IsLeast}
use Rattle.account_model.specs.Records.{greatest_id, last_id, subid_format}
use Rattle.account_model.specs.Written.{IsNameField, IsSubid}
use Rattle.account_model.proofs.FreeRangeLaws.{apart-is, free_range-is, free_range-one}
use Rattle.account_model.proofs.ReadsLaws.{subid-is}
use Rattle.id_choice.specs.Used.{FindsLeast}
use Rattle.subid_ranges.specs.declared.taken.Taken.{Taken}
use Rattle.subid_ranges.specs.Numbers.{is_ranged}
use Rattle.subid_ranges.specs.RangeLines.{new_range, ranges_of}
use Rattle.subid_ranges.specs.Taken.{AreFree, IsGap, TakesThoseOf}

-- ---- Numbers that ranges have in common with others

-- ranges that meet none of the numbers don't have one
apart-free :
    (first last number : ℕ) (ranges : List SubidRecord)
    → first ≤ number
    → number ≤ last
    → AllByRecursion (λ r. Meeting first last r → ⊥) ranges
    → is_ranged ranges number ≡ false
apart-free first last number [] above below apart = refl
apart-free first last number (r ∷ ranges) above below apart =
    or_from (meets number number r) (is_ranged ranges number)
    (false_from_ne_true (meets number number r) (λ is.
    let bounds = and_parts (nat_le r.first number) (nat_le number (last_id r)) is
    in let begins = leb-true r.first number bounds.0
    in let ends = leb-true number (last_id r) bounds.1
    in apart.0 (record {
      begins_before = omega (arith, begins, below);
      ends_behind = omega (arith, ends, above);
    })))
    (apart-free first last number ranges above below apart.1)

-- a range with a number that meets others has one of them
met-number :
    (first last : ℕ) (r : SubidRecord)
    → 0 < r.count
    → first ≤ last
    → meets first last r ≡ true
    → meets (max first r.first) (max first r.first) r ≡ true
met-number first last r some ordered is =
    let number = max first r.first
    in let bounds = and_parts (nat_le r.first last) (nat_le first (last_id r)) is
    in let ends = leb-true first (last_id r) bounds.1
    in and_from (nat_le r.first number) (nat_le number (last_id r))
    (le-leb r.first number (omega arith)) (le-leb number (last_id r) (omega (arith, ends, some)))

-- ranges that have none of the numbers don't meet them
none-meets :
    (first last : ℕ) (ranges : List SubidRecord)
    → AllByRecursion (λ r. 0 < r.count) ranges
    → first ≤ last
    → ((number : ℕ) → first ≤ number → number ≤ last → is_ranged ranges number ≡ false)
    → list_any (meets first last) ranges ≡ false
none-meets first last [] some ordered free = refl
none-meets first last (r ∷ ranges) some ordered free =
    or_from (meets first last r) (list_any (meets first last) ranges)
    (false_from_ne_true (meets first last r) (λ is.
    let number = max first r.first
    in let begins = leb-true r.first last
    (and_parts (nat_le r.first last) (nat_le first (last_id r)) is).0
    in let none = or_parts (meets number number r) (is_ranged ranges number)
    (free number (omega arith) (omega (arith, begins, ordered)))
    in false≢true (sym none.0 ∙ met-number first last r some.0 ordered is)))
    (none-meets first last ranges some.1 ordered (λ number above below.
    (or_parts (meets number number r) (is_ranged ranges number) (free number above below)).1))

-- each range that is read has a number
found-some :
    (text : List ℕ) (found : Option SubidRecord) (rest : List SubidRecord)
    → subid_format.read text ≡ found
    → AllByRecursion (λ r. 0 < r.count) rest
    → AllByRecursion (λ r. 0 < r.count) (cons_option found rest)
found-some text None rest is some = some
found-some text (Some r) rest is some = ((subid-is text r is).some, some)

-- and so has each of lines
ranges-some : (lines : List Line) → AllByRecursion (λ r. 0 < r.count) (ranges_of lines)
ranges-some [] = tt
ranges-some (line ∷ lines) =
    found-some line.text (subid_format.read line.text) (ranges_of lines) refl (ranges-some lines)

-- ---- The numbers taken

module _ (lines : List Line) (taken : Taken) (takes : TakesThoseOf (ranges_of lines) taken) where
  -- numbers that aren't taken meet no range
  pub free-none :
      (first last : ℕ)
      → first ≤ last
      → AreFree taken first last
      → list_any (meets first last) (ranges_of lines) ≡ false
  free-none first last ordered free =
      none-meets first last (ranges_of lines) (ranges-some lines) ordered
      (λ number above below. sym (takes.same number) ∙ free number above below)

  module _ (low high count : ℕ) (some : 0 < count) where
    -- a gap fits
    gap-fits :
        (start : ℕ)
        → IsGap low high count taken start
        → FitsAt low high count (ranges_of lines) start
    gap-fits start gap = record {
      not_below = gap.not_below;
      not_above = gap.not_above;
      apart = apart-is start (start + count - 1) (ranges_of lines)
          (free-none start (start + count - 1) (omega (arith, some)) gap.free);
    }

    -- and what fits is a gap
    fits-gap :
        (start : ℕ)
        → FitsAt low high count (ranges_of lines) start
        → IsGap low high count taken start
    fits-gap start fits = record {
      not_below = fits.not_below;
      not_above = fits.not_above;
      free = λ number above below.
          takes.same number
          ∙ apart-free start (start + count - 1) number (ranges_of lines) above below fits.apart;
    }

    -- so the least gap is the free range
    gap-is :
        (found : Option ℕ)
        → FindsLeast (IsGap low high count taken) found
        → IsFreeRange low high count (ranges_of lines) found
    gap-is None none = λ start fits. none start (fits-gap start fits)
    gap-is (Some start) least = record {
      member = gap-fits start least.member;
      least = λ other fits. least.least other (fits-gap other fits);
    }

    -- of which there is one
    pub least-free :
        (found : Option ℕ)
        → FindsLeast (IsGap low high count taken) found
        → found ≡ free_range low high count (ranges_of lines)
    least-free found least =
        free_range-one low high count (ranges_of lines) found
        (free_range low high count (ranges_of lines)) (gap-is found least)
        (free_range-is low high count some (ranges_of lines))

-- ---- The start that is found

-- the start that is found is the least that fits
pub found-least :
    (low high count : ℕ) (records : List SubidRecord) (start : ℕ)
    → 0 < count
    → free_range low high count records ≡ Some start
    → IsLeast (FitsAt low high count records) start
found-least low high count records start some found =
    subst (IsFreeRange low high count records) found (free_range-is low high count some records)

-- and its range is one that a line can hold
pub found-held :
    (owner : List ℕ) (low high count : ℕ) (records : List SubidRecord) (start : ℕ)
    → IsNameField owner
    → 0 < count
    → high ≤ greatest_id
    → free_range low high count records ≡ Some start
    → IsSubid (new_range owner start count)
found-held owner low high count records start named some small found =
    let fits = (found-least low high count records start some found).member in
    let inside : start + count - 1 ≤ high = fits.not_above in
    record { owner = named; some = some; last = omega (arith, inside, small) }
