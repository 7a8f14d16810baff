-- Claims: the records that a test accepts are those among the texts of the reached places
-- (`reached-kept`), so the first of them and their number are found there (`found-there`,
-- `counted-there`). Way: a place that isn't reached has no such record.
use Rattle.std.proofs.Common.{◌≡◌, ◌∙◌, ℕ, Bool, true, false, List, [], ◌∷◌, ◌++◌, length, map, refl, sym, ap, subst, inl, inr, filter}
use Rattle.std.specs.Prelude.{count_by, find, flat_map, Option, None, Some}
use Rattle.std.specs.List.{AllByRecursion, cons_option}
use Rattle.std.proofs.lemmas.Bool.{cases_Bool, false_from_ne_true}
use Rattle.std.proofs.lemmas.List.Elements.{filter-append, filter_map-append}
use Rattle.std.proofs.lemmas.List.Sums.{length-filter}
use Rattle.acct_text.specs.Lines.{Line}
use Rattle.account_model.specs.Format.{Format, records_of}
use Rattle.account_model.specs.Ids.{is_used}
use Rattle.acct_tables.specs.Cells.{ArePlaced, lines_now}
use Rattle.acct_tables.specs.declared.cell.Cell.{Cell}
use Rattle.table.specs.TableCells.{HoldsOf, HoldsThere, Reaches, records_read, texts_there}
use Rattle.table.proofs.PlaceLemmas.{there-used, used_cells}

-- ---- Lists

-- the first element that passes is the first of those that do
find-filter :
    {X : Type 0} (test : X → Bool) (xs : List X) → find test (filter test xs) ≡ find test xs
find-filter test [] = refl
find-filter test (x ∷ xs) = elim (cases_Bool (test x)) [
  | inl passes ↦ rw (passes, passes) refl
  | inr fails ↦ rw fails (find-filter test xs)
]

-- of lists that have the same elements that pass the first is the same, and their number
pub find-kept :
    {X : Type 0} (test : X → Bool) (xs ys : List X)
    → filter test xs ≡ filter test ys
    → find test xs ≡ find test ys
find-kept test xs ys same =
    sym (find-filter test xs) ∙ ap (find test) same ∙ find-filter test ys

pub counted-kept :
    {X : Type 0} (test : X → Bool) (xs ys : List X)
    → filter test xs ≡ filter test ys
    → count_by test xs ≡ count_by test ys
counted-kept test xs ys same =
    sym (length-filter test xs) ∙ ap length same ∙ length-filter test ys

-- elements that don't pass one test need no other
pub find-among :
    {X : Type 0} (test other : X → Bool) (xs : List X)
    → AllByRecursion (λ x. test x ≡ true → other x ≡ true) xs
    → find test (filter other xs) ≡ find test xs
find-among test other [] needs = refl
find-among test other (x ∷ xs) needs = elim (cases_Bool (test x)) [
  | inl passes ↦ rw (needs.0 passes, passes) refl
  | inr fails ↦ elim (cases_Bool (other x)) [
    | inl kept ↦ rw (kept, fails) (find-among test other xs needs.1)
    | inr left ↦ rw (left, fails) (find-among test other xs needs.1)
  ]
]

-- ---- Cell by cell

-- the texts of cells
abbrev pub texts_in : List Cell → List (List ℕ)
texts_in cells = flat_map (λ cell. cell.texts) cells

module _ {R : Type 0} (format : Format R) where
  -- the records of the lines of texts are those of the texts
  lines-read :
      (ended : Bool) (texts : List (List ℕ)) (rest : List Line)
      → records_of format (map (λ text. record { text = text; ended = ended }) texts ++ rest)
      ≡ records_read format texts ++ records_of format rest
  lines-read ended [] rest = refl
  lines-read ended (text ∷ texts) rest =
      ap (cons_option (format.read text)) (lines-read ended texts rest)
      ∙ consed (format.read text) (records_read format texts) (records_of format rest)
    where
      consed :
          (first : Option R) (records later : List R)
          → cons_option first (records ++ later) ≡ cons_option first records ++ later
      consed None records later = refl
      consed (Some r) records later = refl

  -- the records of all lines are those of all texts
  pub all-read :
      (cells : List Cell)
      → records_of format (lines_now cells) ≡ records_read format (texts_in cells)
  all-read [] = refl
  all-read (cell ∷ cells) =
      lines-read cell.ended cell.texts (lines_now cells)
      ∙ ap (λ later. records_read format cell.texts ++ later) (all-read cells)
      ∙ sym (filter_map-append format.read cell.texts (texts_in cells))

  module _ (test : R → Bool) where
    -- by what a text reads as
    none-by :
        (found : Option R) (later : List R)
        → ((r : R) → found ≡ Some r → test r ≡ false)
        → filter test (cons_option found later) ≡ filter test later
    none-by None later none = refl
    none-by (Some r) later none = rw (none r refl) refl

    -- texts without an accepted record
    pub none-kept :
        (texts : List (List ℕ))
        → AllByRecursion (HoldsOf format (λ r. test r ≡ false)) texts
        → filter test (records_read format texts) ≡ []
    none-kept [] none = refl
    none-kept (text ∷ texts) none =
        none-by (format.read text) (records_read format texts) none.0 ∙ none-kept texts none.1

    -- what is accepted among the texts of the places is what is accepted among all
    used-kept :
        (places : List ℕ) (cells : List Cell)
        → HoldsThere format (λ place r. test r ≡ true → is_used places place ≡ true) cells
        → filter test (records_read format (texts_in (used_cells places cells)))
        ≡ filter test (records_read format (texts_in cells))
    used-kept places [] reached = refl
    used-kept places (cell ∷ cells) reached =
        let here = records_read format cell.texts in
        let later = used-kept places cells reached.1 in
        let apart = ap (filter test) (filter_map-append format.read cell.texts (texts_in cells))
        ∙ filter-append test here (records_read format (texts_in cells)) in
        elim (cases_Bool (is_used places cell.place)) [
          | inl used ↦
              rw used
              (ap (filter test)
              (filter_map-append format.read cell.texts (texts_in (used_cells places cells)))
              ∙ filter-append test here (records_read format (texts_in (used_cells places cells)))
              ∙ ap (λ kept. filter test here ++ kept) later
              ∙ sym apart)
          | inr unused ↦
              rw unused
              (later
              ∙ ap (λ none. none ++ filter test (records_read format (texts_in cells)))
              (sym (none-kept cell.texts (refused places cell.place unused cell.texts reached.0)))
              ∙ sym apart)
        ]
      where
        refused :
            (places : List ℕ) (place : ℕ)
            → is_used places place ≡ false
            → (texts : List (List ℕ))
            → AllByRecursion
            (HoldsOf format (λ r. test r ≡ true → is_used places place ≡ true)) texts
            → AllByRecursion (HoldsOf format (λ r. test r ≡ false)) texts
        refused places place unused [] reached = tt
        refused places place unused (text ∷ texts) reached = (
          λ r reads. false_from_ne_true (test r) (λ yes.
              let both : true ≡ false = sym (reached.0 r reads yes) ∙ unused in absurd cc),
          refused places place unused texts reached.1,
        )

    module _ (cells : List Cell) (places : List ℕ) (ascending : ArePlaced cells)
        (reached : Reaches format test cells places) where
      -- the accepted records are those among the texts that are reached
      pub reached-kept :
          filter test (records_read format (texts_there cells places))
          ≡ filter test (records_of format (lines_now cells))
      reached-kept =
          ap (λ found. filter test (records_read format (texts_in found)))
          (there-used places cells reached.ascending ascending)
          ∙ used-kept places cells reached.all
          ∙ ap (filter test) (sym (all-read cells))

    -- The same of texts that are taken one after another, of a file whose cells these are.
    module _ (file cells : List Cell) (view : file ≡ cells) (placed : ArePlaced file)
        (places : List ℕ) (reached : Reaches format test cells places)
        (slice : List ℕ) (same : slice ≡ places)
        (texts : List (List ℕ)) (are : texts ≡ texts_there file slice) where
      pub kept-there :
          filter test (records_read format texts)
          ≡ filter test (records_of format (lines_now cells))
      kept-there =
          ap (λ texts. filter test (records_read format texts))
          (are ∙ ap (texts_there file) same ∙ ap (λ cells. texts_there cells places) view)
          ∙ reached-kept cells places (subst ArePlaced view placed) reached

      pub found-there :
          find test (records_read format texts) ≡ find test (records_of format (lines_now cells))
      found-there = find-kept test (records_read format texts) (records_of format (lines_now cells))
          kept-there

      pub counted-there :
          count_by test (records_read format texts)
          ≡ count_by test (records_of format (lines_now cells))
      counted-there = counted-kept test (records_read format texts)
          (records_of format (lines_now cells)) kept-there
