-- Claim: what stands in places that go up, one after another, is what stands in all places of which each
-- is one of these (`there-used`). Way: the first of the places is in front of the others, so the cell
-- there comes first (`there-first`).
use Rattle.std.proofs.Common.{◌≡◌, ◌∙◌, ℕ, ◌<◌, Bool, true, false, List, [], ◌∷◌, ◌++◌, ◌+◌, length, drop, get_or, zero, suc, add-one, refl, sym, ap, inl, inr, arith, filter}
use Rattle.std.specs.Prelude.{◌==◌, ◌||◌, AllPairs, None}
use Rattle.std.specs.List.{AllByRecursion, cons_option}
use Rattle.std.proofs.ByRecursion.{All-from_get_or, All-weaker}
use Rattle.std.proofs.lemmas.Bool.{cases_Bool, cases_eq, eq-eqb, eqb-true, ne_eqb, or_cases}
use Rattle.account_model.specs.Ids.{is_used}
use Rattle.acct_tables.specs.Cells.{ArePlaced, cell_at}
use Rattle.acct_tables.specs.declared.cell.Cell.{Cell}
use Rattle.table.specs.TableCells.{cells_there}

-- ---- Pairs

module _ {X : Type 0} (Relates : X → X → Type 0) where
  -- the first element with each other one
  pub pairs-first :
      (first : X) (others : List X)
      → AllPairs Relates (first ∷ others)
      → AllByRecursion (Relates first) others
  pairs-first first others pairs =
      All-from_get_or (Relates first) others first
      (λ i inside. pairs 0 (suc i) first (omega arith) (omega (arith, inside)))

  -- the others
  pub pairs-others :
      (first : X) (others : List X) → AllPairs Relates (first ∷ others) → AllPairs Relates others
  pairs-others first others pairs i j d before inside =
      pairs (suc i) (suc j) d (omega (arith, before)) (omega (arith, inside))

-- tests that agree on all elements keep the same
pub filter-agrees :
    {X : Type 0} (one other : X → Bool) (xs : List X)
    → AllByRecursion (λ x. one x ≡ other x) xs
    → filter one xs ≡ filter other xs
filter-agrees one other [] agree = refl
filter-agrees one other (x ∷ xs) agree = elim (cases_Bool (other x)) [
  | inl passes ↦
      rw (agree.0 ∙ passes, passes) (ap (λ kept. x ∷ kept) (filter-agrees one other xs agree.1))
  | inr fails ↦ rw (agree.0 ∙ fails, fails) (filter-agrees one other xs agree.1)
]

-- ---- Places that are used

-- a place in front of all isn't used
unused-before :
    (place : ℕ) (places : List ℕ)
    → AllByRecursion (λ other. place < other) places
    → is_used places place ≡ false
unused-before place [] before = refl
unused-before place (first ∷ places) before =
    ap (λ is. is || is_used places place)
    (ne_eqb first place (λ same. omega (arith, before.0, same)))
    ∙ unused-before place places before.1

-- each that is used is behind it
pub used-behind :
    (place other : ℕ) (places : List ℕ)
    → AllByRecursion (λ other. place < other) places
    → is_used places other ≡ true
    → place < other
used-behind place other [] before used = absurd cc
used-behind place other (first ∷ places) before used =
    elim (or_cases (first == other) (is_used places other) used) [
      | inl is ↦ omega (arith, before.0, eqb-true first other is)
      | inr later ↦ used-behind place other places before.1 later
    ]

-- where places go up none is used again
pub unused-later :
    (places : List ℕ) (index : ℕ)
    → AllPairs (λ earlier later. earlier < later) places
    → index < length places
    → is_used (drop (index + 1) places) (get_or places index 0) ≡ false
unused-later places index up inside =
    rw add-one (by places index up inside)
  where
    by : (places : List ℕ) (index : ℕ)
        → AllPairs (λ earlier later. earlier < later) places
        → index < length places
        → is_used (drop (suc index) places) (get_or places index 0) ≡ false
    by [] index up inside = absurd (omega (arith, inside))
    by (place ∷ places) zero up inside =
        unused-before place places (pairs-first (λ earlier later. earlier < later) place places up)
    by (place ∷ places) (suc index) up inside =
        by places index (pairs-others (λ earlier later. earlier < later) place places up)
        (omega (arith, inside))

-- one more place matters at itself alone
pub used-apart :
    (place other : ℕ) (places : List ℕ)
    → (place ≡ other → ⊥)
    → is_used (place ∷ places) other ≡ is_used places other
used-apart place other places apart =
    ap (λ is. is || is_used places other) (ne_eqb place other apart)

pub used-itself : (place other : ℕ) (places : List ℕ) → place ≡ other
    → is_used (place ∷ places) other ≡ true
used-itself place other places same =
    ap (λ is. is || is_used places other) (eq-eqb place other same)

-- ---- What stands in places

-- nothing stands in front of all
pub none-before :
    (place : ℕ) (cells : List Cell)
    → AllByRecursion (λ cell. place < cell.place) cells
    → cell_at place cells ≡ None
none-before place [] before = refl
none-before place (cell ∷ cells) before =
    rw (ne_eqb cell.place place (λ same. omega (arith, before.0, same)))
    (none-before place cells before.1)

-- the cells in these places
abbrev pub used_cells : List ℕ → List Cell → List Cell
used_cells places cells = filter (λ cell. is_used places cell.place) cells

-- that in the first place comes first
there-first :
    (place : ℕ) (places : List ℕ) (cells : List Cell)
    → AllByRecursion (λ other. place < other) places
    → ArePlaced cells
    → used_cells (place ∷ places) cells
    ≡ cons_option (cell_at place cells) [] ++ used_cells places cells
there-first place places [] before ascending = refl
there-first place places (cell ∷ cells) before ascending =
    let behind = pairs-first (λ earlier later. earlier.place < later.place) cell cells ascending in
    let others = pairs-others (λ earlier later. earlier.place < later.place) cell cells ascending in
    let later = there-first place places cells before others in
    elim (cases_eq cell.place place) [
      | inl same ↦
          let unused : is_used places cell.place ≡ false =
          ap (is_used places) same ∙ unused-before place places before in
          rw (used-itself place cell.place places (sym same), eq-eqb cell.place place same, unused)
          (ap (λ kept. cell ∷ kept)
          (filter-agrees (λ found. is_used (place ∷ places) found.place)
          (λ found. is_used places found.place) cells
          (All-weaker (λ found. cell.place < found.place)
          (λ found. is_used (place ∷ places) found.place ≡ is_used places found.place)
          (λ found below.
          used-apart place found.place places (λ is. omega (arith, below, same, is)))
          cells behind)))
      | inr apart ↦ elim (cases_Bool (is_used places cell.place)) [
        | inl used ↦
            let ahead = used-behind place cell.place places before used in
            let none : cell_at place cells ≡ None =
            none-before place cells
            (All-weaker (λ found. cell.place < found.place) (λ found. place < found.place)
            (λ found below. omega (arith, below, ahead)) cells behind) in
            rw (
              used-apart place cell.place places (λ is. apart (sym is)),
              ne_eqb cell.place place apart,
              used,
              none,
            )
            (ap (λ kept. cell ∷ kept)
            (later ∙ ap (λ found. cons_option found [] ++ used_cells places cells) none))
        | inr unused ↦
            rw (
              used-apart place cell.place places (λ is. apart (sym is)),
              ne_eqb cell.place place apart,
              unused,
            )
            later
      ]
    ]

-- no place is used
none-used : (cells : List Cell) → used_cells [] cells ≡ []
none-used [] = refl
none-used (cell ∷ cells) = none-used cells

-- all cells in the places, one after another
pub there-used :
    (places : List ℕ) (cells : List Cell)
    → AllPairs (λ earlier later. earlier < later) places
    → ArePlaced cells
    → cells_there cells places ≡ used_cells places cells
there-used [] cells up ascending = sym (none-used cells)
there-used (place ∷ places) cells up ascending =
    ap (λ later. cons_option (cell_at place cells) [] ++ later)
    (there-used places cells
    (pairs-others (λ earlier later. earlier < later) place places up) ascending)
    ∙ sym (there-first place places cells
    (pairs-first (λ earlier later. earlier < later) place places up) ascending)
