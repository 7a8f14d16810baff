-- Claims: a record has the name where a cell has one (`any-named`), and that is so where a cell in a place
-- has one that an index tells of the name's own key, in whatever order (`listed-named`). Way: the place
-- of such a cell is told, and what stands in a place is one of the cells.
use Rattle.std.proofs.Common.{◌≡◌, ◌∙◌, ℕ, Bool, true, false, List, [], ◌∷◌, refl, sym, ap, subst, inl, inr}
use Rattle.std.specs.Prelude.{◌==◌, ◌||◌, IfSome, find, is_some, Option, None, Some}
use Rattle.std.specs.List.{AllByRecursion, cons_option, list_any}
use Rattle.std.proofs.ByRecursion.{All-weaker}
use Rattle.std.proofs.lemmas.Bool.{cases_Bool, cases_eq, eq-eqb, eqb-true, false_from_ne_true, ne_eqb, or_cases, or_left, or_right}
use Rattle.std.proofs.lemmas.Slice.Eq.{bytes_eq-Decides}
use Rattle.account_model.specs.Format.{Format, has_named, is_named, records_of}
use Rattle.account_model.specs.Ids.{is_used}
use Rattle.acct_tables.specs.Cells.{ArePlaced, cell_at, lines_now}
use Rattle.acct_tables.specs.declared.cell.Cell.{Cell}
use Rattle.acct_tables.specs.KeyPlaces.{has_key}
use Rattle.table.specs.Keys.{HaveOwnKeys, own_key}
use Rattle.table.specs.TableCells.{AreKept, HoldsIn, IsKeyed, has_named_at, has_named_in}
use Rattle.table.proofs.PutRecords.{first-at, has-cells, reached-by, some-found}
use Rattle.table.proofs.ReachLemmas.{there-weaker}

-- ---- One of the places

-- one of the places passes, if the place is one and passes
used-passes :
    (test : ℕ → Bool) (places : List ℕ) (place : ℕ)
    → is_used places place ≡ true
    → test place ≡ true
    → list_any test places ≡ true
used-passes test [] place used passes = absurd cc
used-passes test (first ∷ places) place used passes =
    elim (or_cases (first == place) (is_used places place) used) [
      | inl same ↦
          or_left (test first) (list_any test places)
          (ap test (eqb-true first place same) ∙ passes)
      | inr later ↦
          or_right (test first) (list_any test places) (used-passes test places place later passes)
    ]

-- what stands in a place and passes is one of the cells
there-passes :
    (test : Cell → Bool) (place : ℕ) (cells : List Cell)
    → list_any test (cons_option (cell_at place cells) []) ≡ true
    → list_any test cells ≡ true
there-passes test place [] passes = absurd cc
there-passes test place (cell ∷ cells) passes = elim (cases_eq cell.place place) [
  | inl same ↦
      let here : cell_at place (cell ∷ cells) ≡ Some cell =
      rw (eq-eqb cell.place place same) refl in
      let one : (test cell || false) ≡ true =
      sym (ap (λ found. list_any test (cons_option found [])) here) ∙ passes in
      elim (or_cases (test cell) false one) [
        | inl is ↦ or_left (test cell) (list_any test cells) is
        | inr never ↦ absurd cc
      ]
  | inr apart ↦
      let later : cell_at place (cell ∷ cells) ≡ cell_at place cells =
      rw (ne_eqb cell.place place apart) refl in
      or_right (test cell) (list_any test cells)
      (there-passes test place cells
      (sym (ap (λ found. list_any test (cons_option found [])) later) ∙ passes))
]

-- so is what stands in one of several places
places-pass :
    (test : Cell → Bool) (places : List ℕ) (cells : List Cell)
    → list_any (λ place. list_any test (cons_option (cell_at place cells) [])) places ≡ true
    → list_any test cells ≡ true
places-pass test [] cells passes = absurd cc
places-pass test (place ∷ places) cells passes =
    let there = λ (place : ℕ). list_any test (cons_option (cell_at place cells) []) in
    elim (or_cases (there place) (list_any there places) passes) [
      | inl here ↦ there-passes test place cells here
      | inr later ↦ places-pass test places cells later
    ]

-- the first cell that passes
passing-first :
    (test : Cell → Bool) (cells : List Cell) (found : Option Cell)
    → find test cells ≡ found
    → is_some found ≡ true
    → (cell : Cell) × (find test cells ≡ Some cell)
passing-first test cells None is some = absurd cc
passing-first test cells (Some cell) is some = (cell, is)

-- it passes, and what holds of those that do holds of it
first-passing :
    (test : Cell → Bool) (P : Cell → Type 0) (cells : List Cell) (cell : Cell)
    → AllByRecursion (λ cell. test cell ≡ true → P cell) cells
    → find test cells ≡ Some cell
    → (test cell ≡ true) × P cell
first-passing test P [] cell holds found = absurd cc
first-passing test P (first ∷ cells) cell holds found = elim (cases_Bool (test first)) [
  | inl is ↦
      let here : find test (first ∷ cells) ≡ Some first = rw is refl in
      let same : first ≡ cell = cc in
      subst (λ (cell : Cell). (test cell ≡ true) × P cell) same (is, holds.0 is)
  | inr fails ↦
      let later : find test (first ∷ cells) ≡ find test cells = rw fails refl in
      first-passing test P cells cell holds.1 (sym later ∙ found)
]

-- two tests of which each passes where the other does are one
same-tests : (one other : Bool) → (one ≡ true → other ≡ true) → (other ≡ true → one ≡ true)
    → one ≡ other
same-tests true other to from = sym (to refl)
same-tests false other to from =
    sym (false_from_ne_true other (λ is. let both : false ≡ true = from is in absurd cc))

-- where each that passes stands in one of the places, one there passes where one of all does
any-there :
    (test : Cell → Bool) (places : List ℕ) (cells : List Cell)
    → ArePlaced cells
    → AllByRecursion (λ cell. test cell ≡ true → is_used places cell.place ≡ true) cells
    → list_any (λ place. list_any test (cons_option (cell_at place cells) [])) places
    ≡ list_any test cells
any-there test places cells placed used =
    let there = λ (place : ℕ). list_any test (cons_option (cell_at place cells) []) in
    same-tests (list_any there places) (list_any test cells)
    (places-pass test places cells)
    (λ any.
    let first = passing-first test cells (find test cells) refl (some-found test cells ∙ any) in
    let facts = first-passing test (λ cell. is_used places cell.place ≡ true) cells first.0 used
    first.1 in
    used-passes there places first.0.place facts.1
    (ap (λ found. list_any test (cons_option found [])) (first-at test cells first.0 placed first.1)
    ∙ or_left (test first.0) false facts.0))

-- ---- A name

module _ {R : Type 0} (format : Format R) where
  -- a cell has a record of the name where a record has it
  pub any-named :
      (name : List ℕ) (cells : List Cell)
      → list_any (has_named_in format name) cells
      ≡ has_named format name (records_of format (lines_now cells))
  any-named name cells =
      sym (has-cells format name cells ∙ some-found (has_named_in format name) cells)

  -- and one in a place that is told of its key
  pub listed-named :
      (keys_of : R → List ℕ) (told : ℕ → Option (List ℕ)) (name : List ℕ) (cells : List Cell)
      (places : List ℕ)
      → HaveOwnKeys format keys_of
      → AreKept format keys_of told cells
      → told (own_key name) ≡ Some places
      → list_any (has_named_at format name cells) places ≡ list_any (has_named_in format name) cells
  listed-named keys_of told name cells places own kept listed =
      any-there (has_named_in format name) places cells kept.placed
      (All-weaker (λ cell. HoldsIn format
      (λ r. is_named format name r ≡ true → is_used places cell.place ≡ true) cell)
      (λ cell. has_named_in format name cell ≡ true → is_used places cell.place ≡ true)
      (λ cell here has. reached-by format
      (is_named format name) places cell.place cell.texts here has) cells
      (there-weaker format (IsKeyed keys_of told)
      (λ place r. is_named format name r ≡ true → is_used places place ≡ true)
      (λ place r tells named.
      subst (λ found. IfSome found (λ places. is_used places place ≡ true)) listed
      (tells (own_key name) (subst (λ name. has_key (own_key name) (keys_of r) ≡ true)
      ((bytes_eq-Decides (format.name r) name).0 named) (own r))))
      cells kept.told_of))
