-- Claims: the numbers of ranges are followed where one more range comes (`numbers-more`) and where one
-- of ranges that lie apart goes (`numbers-fewer`), and depend on no order (`alike-numbers`) and on no
-- owner (`renamed-numbers`). Way: each number is counted among the ranges; one that lies in a range
-- that goes lies in no other.
use Rattle.std.proofs.Common.{◌≡◌, ◌∙◌, ℕ, ◌+◌, ◌-◌, ◌<◌, ◌≤◌, max, Bool, true, false, List, [], ◌∷◌, ◌++◌, append_assoc, arith, ap, drop, get_or, inl, inr, length, refl, suc, subst, sym, take, zero}
use Rattle.std.specs.Prelude.{◌&&◌, ◌||◌, MatchOption, None, Option, Some, cond, is_some, map, nat_le, not}
use Rattle.std.specs.List.{AllByRecursion, count_by}
use Rattle.std.proofs.lemmas.Bool.{and_from, and_parts, cases_Bool, false_from_ne_true, false≢true, le-leb, leb-true, or_cases, or_parts}
use Rattle.std.proofs.lemmas.List.{take-append-drop, take_more}
use Rattle.std.proofs.lemmas.List.Folds.{list_any-append}
use Rattle.std.proofs.lemmas.List.Sums.{sum_by-append, sum_by-cons, sum_by_push}
use Rattle.account_model.specs.Records.{last_id, subid_format}
use Rattle.account_model.specs.Written.{IsWritten}
use Rattle.account_model.specs.declared.records.SubidRecord.{SubidRecord}
use Rattle.account_model.specs.FreeRange.{meets}
use Rattle.account_model.specs.Ids.{in_range}
use Rattle.subid_ranges.specs.Numbers.{is_ranged}
use Rattle.subid_ranges.specs.Owned.{first_and_count}
use Rattle.subid_ranges.specs.RangeNumbers.{AreApart, AreNumbersOf, LosesRange, LosesRanges}
use Rattle.subid_ranges.specs.Taken.{AreFree, AreMet, TakesThoseOf, is_taken}
use Rattle.subid_ranges.specs.declared.range_numbers.RangeNumbers.{RangeNumbers}

-- ---- In how many ranges a number lies

-- one for a test that is passed
abbrev tally : Bool → ℕ
tally is = cond is 1 0

-- of a range and of others
counted-cons :
    (number : ℕ) (r : SubidRecord) (ranges : List SubidRecord)
    → count_by (meets number number) (r ∷ ranges)
    ≡ tally (meets number number r) + count_by (meets number number) ranges
counted-cons number r ranges =
    sum_by-cons (λ (r : SubidRecord). tally (meets number number r)) r ranges

-- a number of a range lies in one at least
ranged-counted :
    (number : ℕ) (ranges : List SubidRecord)
    → is_ranged ranges number ≡ true
    → 1 ≤ count_by (meets number number) ranges
ranged-counted number [] is = absurd (false≢true is)
ranged-counted number (r ∷ ranges) is =
    elim (or_cases (meets number number r) (is_ranged ranges number) is) [
      | inl here ↦
          omega (arith, counted-cons number r ranges, ap tally here)
      | inr later ↦
          omega (arith, counted-cons number r ranges, ranged-counted number ranges later)
    ]

-- one that lies in none is in no range
uncounted-free :
    (number : ℕ) (ranges : List SubidRecord)
    → count_by (meets number number) ranges ≡ 0
    → is_ranged ranges number ≡ false
uncounted-free number ranges none =
    false_from_ne_true (is_ranged ranges number)
    (λ is. absurd (omega (arith, none, ranged-counted number ranges is)))

-- and the other way round
free-uncounted :
    (number : ℕ) (ranges : List SubidRecord)
    → is_ranged ranges number ≡ false
    → count_by (meets number number) ranges ≡ 0
free-uncounted number [] free = refl
free-uncounted number (r ∷ ranges) free =
    let parts = or_parts (meets number number r) (is_ranged ranges number) free in
    omega (
      arith,
      counted-cons number r ranges,
      ap tally parts.0,
      free-uncounted number ranges parts.1,
    )

-- ---- A range that comes

module _ (ranges : List SubidRecord) (r : SubidRecord) where
  -- in how many a number lies with it
  counted-more :
      (number : ℕ)
      → count_by (meets number number) (ranges ++ r ∷ [])
      ≡ count_by (meets number number) ranges + tally (meets number number r)
  counted-more number = sum_by_push (λ (r : SubidRecord). tally (meets number number r)) ranges r

  -- ranges that lie apart with it do so without it
  apart-without : AreApart (ranges ++ r ∷ []) → AreApart ranges
  apart-without apart = λ number. omega (arith, counted-more number, apart number)

  module _ (old new : RangeNumbers) (are : AreNumbersOf ranges old)
      (taken : TakesThoseOf (ranges ++ r ∷ []) new.taken) where
    -- a number of the range is in no other
    free-else :
        (number : ℕ)
        → AreFree old.taken r.first (last_id r)
        → meets number number r ≡ true
        → count_by (meets number number) ranges ≡ 0
    free-else number free is =
        let bounds = and_parts (nat_le r.first number) (nat_le number (last_id r)) is in
        free-uncounted number ranges
        (sym (are.taken.same number)
        ∙ free number (leb-true r.first number bounds.0) (leb-true number (last_id r) bounds.1))

    -- by whether it is one of the range
    counted-once :
        (number : ℕ) (here : Bool)
        → AreFree old.taken r.first (last_id r)
        → AreApart ranges
        → meets number number r ≡ here
        → count_by (meets number number) (ranges ++ r ∷ []) ≤ 1
    counted-once number true free apart is =
        omega (
          arith,
          counted-more number,
          ap tally is,
          free-else number free is,
        )
    counted-once number false free apart is =
        omega (arith, counted-more number, ap tally is, apart number)

    -- a range that meets none of the numbers
    numbers-apart :
        new.are_apart ≡ old.are_apart
        → AreFree old.taken r.first (last_id r)
        → AreNumbersOf (ranges ++ r ∷ []) new
    numbers-apart stays free = record {
      taken = taken;
      apart = (
        λ is number.
            counted-once number (meets number number r) free (are.apart.0 (sym stays ∙ is)) refl,
        λ apart. stays ∙ are.apart.1 (apart-without apart),
      );
    }

    -- a range that meets some of them shares one
    met-shared :
        (end : ℕ)
        → r.first ≤ last_id r
        → AreMet old.taken r.first (last_id r) end
        → AreApart (ranges ++ r ∷ [])
        → ⊥
    met-shared end ordered met apart =
        let number = max r.first met.begin in
        let above : r.first ≤ number = omega arith in
        let below : number ≤ last_id r = omega (arith, ordered, met.begins) in
        let inside = and_from (nat_le r.first number) (nat_le number (last_id r))
        (le-leb r.first number above) (le-leb number (last_id r) below) in
        let there = ranged-counted number ranges
        (sym (are.taken.same number)
        ∙ met.filled number (omega arith) (omega (arith, met.ordered, met.reaches))) in
        omega (
          arith,
          counted-more number,
          ap tally inside,
          there,
          apart number,
        )

    -- so the ranges don't lie apart from then on
    numbers-met :
        (end : ℕ)
        → new.are_apart ≡ false
        → r.first ≤ last_id r
        → AreMet old.taken r.first (last_id r) end
        → AreNumbersOf (ranges ++ r ∷ []) new
    numbers-met end shared ordered met = record {
      taken = taken;
      apart = (
        λ is. absurd (false≢true (sym shared ∙ is)),
        λ apart. absurd (met-shared end ordered met apart),
      );
    }

    -- by whether it meets one
    pub numbers-more :
        (found : Option ℕ)
        → r.first ≤ last_id r
        → MatchOption found (AreFree old.taken r.first (last_id r))
        (AreMet old.taken r.first (last_id r))
        → new.are_apart ≡ cond (is_some found) false old.are_apart
        → AreNumbersOf (ranges ++ r ∷ []) new
    numbers-more None ordered free is = numbers-apart is free
    numbers-more (Some end) ordered met is = numbers-met end is ordered met

-- ---- A range that goes

-- one of three tests goes, where the others fail if it is passed
without-one :
    (before behind here : Bool)
    → (here ≡ true → (before || behind) ≡ false)
    → ((before || (here || behind)) && not here) ≡ (before || behind)
without-one true behind true none = sym (none refl)
without-one false behind true none = sym (none refl)
without-one true behind false none = refl
without-one false true false none = refl
without-one false false false none = refl

module _ (before behind : List SubidRecord) (r : SubidRecord) (old new : RangeNumbers)
    (are : AreNumbersOf (before ++ r ∷ behind) old) where
  -- in how many ranges a number lies, with the range among them
  counted-split :
      (number : ℕ)
      → count_by (meets number number) (before ++ r ∷ behind)
      ≡ count_by (meets number number) before
      + (tally (meets number number r) + count_by (meets number number) behind)
  counted-split number =
      sum_by-append (λ (r : SubidRecord). tally (meets number number r)) before (r ∷ behind)
      ∙ ap (λ rest. count_by (meets number number) before + rest) (counted-cons number r behind)

  -- and without it
  counted-left :
      (number : ℕ)
      → count_by (meets number number) (before ++ behind)
      ≡ count_by (meets number number) before + count_by (meets number number) behind
  counted-left number =
      sum_by-append (λ (r : SubidRecord). tally (meets number number r)) before behind

  -- where the ranges lie apart, a number of the range is in no other
  else-free :
      (number : ℕ)
      → AreApart (before ++ r ∷ behind)
      → meets number number r ≡ true
      → (is_ranged before number || is_ranged behind number) ≡ false
  else-free number apart is =
      sym (list_any-append (meets number number) before behind)
      ∙ uncounted-free number (before ++ behind)
      (omega (
        arith,
        counted-left number,
        counted-split number,
        ap tally is,
        apart number,
      ))

  -- what is left are the numbers of the other ranges
  pub numbers-fewer :
      (last : ℕ)
      → old.are_apart ≡ true
      → new.are_apart ≡ old.are_apart
      → last ≡ last_id r
      → ((number : ℕ) → is_taken new.taken number
      ≡ (is_taken old.taken number && not (in_range r.first last number)))
      → AreNumbersOf (before ++ behind) new
  numbers-fewer last known stays is lost = let apart = are.apart.0 known in record {
    taken = record {
      same = λ number.
          lost number
          ∙ ap (λ (last : ℕ). is_taken old.taken number && not (in_range r.first last number)) is
          ∙ ap (λ (there : Bool). there && not (meets number number r))
          (are.taken.same number ∙ list_any-append (meets number number) before (r ∷ behind))
          ∙ without-one (is_ranged before number) (is_ranged behind number)
          (meets number number r) (else-free number apart)
          ∙ sym (list_any-append (meets number number) before behind);
    };
    apart = (
      λ is number. omega (arith, counted-left number, counted-split number, apart number),
      λ others. stays ∙ known,
    );
  }

-- ---- Ranges in which each number lies as often

-- a number that lies in as many of them lies in one of both, or in none of both
ranged-alike :
    (number : ℕ) (ranges others : List SubidRecord)
    → count_by (meets number number) ranges ≡ count_by (meets number number) others
    → is_ranged ranges number ≡ is_ranged others number
ranged-alike number ranges others counted = elim (cases_Bool (is_ranged others number)) [
  | inl is ↦ elim (cases_Bool (is_ranged ranges number)) [
    | inl both ↦ both ∙ sym is
    | inr free ↦
        absurd (omega (
          arith,
          counted,
          free-uncounted number ranges free,
          ranged-counted number others is,
        ))
  ]
  | inr free ↦
      uncounted-free number ranges (counted ∙ free-uncounted number others free) ∙ sym free
]

-- such ranges have the same numbers
pub alike-numbers :
    (ranges others : List SubidRecord) (numbers : RangeNumbers)
    → ((number : ℕ)
    → count_by (meets number number) ranges ≡ count_by (meets number number) others)
    → AreNumbersOf ranges numbers
    → AreNumbersOf others numbers
alike-numbers ranges others numbers counted are = record {
  taken = record {
    same = λ number. are.taken.same number ∙ ranged-alike number ranges others (counted number);
  };
  apart = (
    λ is number. omega (arith, counted number, are.apart.0 is number),
    λ apart. are.apart.1 (λ number. omega (arith, counted number, apart number)),
  );
}

-- ---- Owners

-- a number is one of so many from a first on
abbrev lies_in : ℕ → ℕ × ℕ → Bool
lies_in number part = nat_le part.0 number && nat_le number (part.0 + part.1 - 1)

-- in how many of the ranges a number lies, by the first ID and the count of each
counted-parts :
    (number : ℕ) (ranges : List SubidRecord)
    → count_by (meets number number) ranges
    ≡ count_by (lies_in number) (map first_and_count ranges)
counted-parts number [] = refl
counted-parts number (r ∷ ranges) =
    counted-cons number r ranges
    ∙ ap (λ (rest : ℕ). tally (meets number number r) + rest) (counted-parts number ranges)
    ∙ sym (sum_by-cons (λ (part : ℕ × ℕ). tally (lies_in number part)) (first_and_count r)
    (map first_and_count ranges))

-- ranges with the same first IDs and counts have the same numbers
pub renamed-numbers :
    (ranges others : List SubidRecord) (numbers : RangeNumbers)
    → map first_and_count ranges ≡ map first_and_count others
    → AreNumbersOf ranges numbers
    → AreNumbersOf others numbers
renamed-numbers ranges others numbers same are =
    alike-numbers ranges others numbers
    (λ number.
    counted-parts number ranges
    ∙ ap (count_by (lies_in number)) same
    ∙ sym (counted-parts number others))
    are

-- ---- Ranges that go one after another

-- ranges of which some lie apart with others do so alone
behind-apart :
    (ranges others : List SubidRecord) → AreApart (ranges ++ others) → AreApart others
behind-apart ranges others apart = λ number.
    omega (
      arith,
      sum_by-append (λ (r : SubidRecord). tally (meets number number r)) ranges others,
      apart number,
    )

module _ (ranges : List SubidRecord) (index : ℕ) (old between : RangeNumbers)
    (lost : LosesRanges (take index ranges) old between) where
  -- one more of the ranges goes
  pub lost-more :
      (r : SubidRecord) (new : RangeNumbers)
      → index < length ranges
      → r ≡ get_or ranges index r
      → LosesRange r between new
      → LosesRanges (take (index + 1) ranges) old new
  lost-more r new inside is loses = λ kept are.
      loses [] kept
      (lost (r ∷ kept)
      (subst (λ all. AreNumbersOf all old)
      (ap (λ gone. gone ++ kept) (take_more ranges index r inside)
      ∙ append_assoc (take index ranges) (get_or ranges index r ∷ []) kept
      ∙ ap (λ last. take index ranges ++ last ∷ kept) (sym is))
      are))

  -- what is left then are the numbers of the ranges behind them, and of others
  pub lost-behind :
      (kept : List SubidRecord)
      → AreNumbersOf (ranges ++ kept) old
      → AreNumbersOf (drop index ranges ++ kept) between
  lost-behind kept are =
      lost (drop index ranges ++ kept)
      (subst (λ all. AreNumbersOf all old)
      (ap (λ all. all ++ kept) (sym (take-append-drop index ranges))
      ∙ append_assoc (take index ranges) (drop index ranges) kept)
      are)

  -- which lie apart where all do
  pub apart-behind :
      (kept : List SubidRecord)
      → AreApart (ranges ++ kept)
      → AreApart (drop index ranges ++ kept)
  apart-behind kept apart =
      behind-apart (take index ranges) (drop index ranges ++ kept)
      (subst AreApart
      (ap (λ all. all ++ kept) (sym (take-append-drop index ranges))
      ∙ append_assoc (take index ranges) (drop index ranges) kept)
      apart)

-- what holds of all ranges holds of the one at a place
pub item-written :
    (ranges : List SubidRecord) (index : ℕ) (r : SubidRecord)
    → AllByRecursion (IsWritten subid_format) ranges
    → index < length ranges
    → r ≡ get_or ranges index r
    → IsWritten subid_format r
item-written [] index r all inside is = absurd (omega arith)
item-written (first ∷ ranges) zero r all inside is = subst (IsWritten subid_format) (sym is) all.0
item-written (first ∷ ranges) (suc index) r all inside is =
    item-written ranges index r all.1 (omega arith) is
