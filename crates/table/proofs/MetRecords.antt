-- Claims: the first record that passes a test is the first among the texts of the first cell that has one
-- (`first-cell`, `first-placed`, `none-placed`). The first place of what one of two tests has is the
-- lower of their first places (`first-either`), so the first record that edits meet is found edit by
-- edit (`met-more`); one whose name has no several isn't met (`single-unmet`), and none by an edit that
-- touches no record (`added-meets`). Way: cell by cell, whose places go up.
use Rattle.std.proofs.Common.{◌≡◌, ◌∙◌, ℕ, ◌<◌, Bool, true, false, List, [], ◌∷◌, ◌++◌, get_or, length, zero, suc, refl, sym, ap, ap₂, subst, inl, inr, arith}
use Rattle.std.specs.Prelude.{◌&&◌, ◌||◌, find, nat_le, option_map, Option, None, Some}
use Rattle.std.specs.List.{AllByRecursion, list_any}
use Rattle.std.proofs.lemmas.Bool.{cases_Bool}
use Rattle.std.proofs.lemmas.List.Elements.{filter_map-append}
use Rattle.account_model.specs.Edits.{is_multiple, touches}
use Rattle.account_model.specs.Edits as model
use Rattle.account_model.specs.Format.{Format, count_named, records_of}
use Rattle.account_model.specs.Ids.{is_used}
use Rattle.account_model.specs.RecordEdits.{TellsSame}
use Rattle.line_edits.specs.SeenEdits.{seen_edit, seen_edits}
use Rattle.line_edits.specs.Touching.{is_met, touches_alone}
use Rattle.line_edits.specs.declared.edit.Edit.{Edit}
use Rattle.line_edits.proofs.TouchedEdits.{first-or}
use Rattle.acct_text.specs.Lines.{lines_of}
use Rattle.acct_tables.specs.Cells.{ArePlaced, cell_at, cells_from, lines_now}
use Rattle.acct_tables.specs.declared.cell.Cell.{Cell}
use Rattle.table.specs.Accepting.{is_accepted}
use Rattle.table.specs.Met.{AreEditedAt, IsEditedAt, MeetsAt, earlier, first_in, has_met, meets}
use Rattle.table.specs.TableCells.{IsSound, has_in, records_read}
use Rattle.acct_tables.proofs.PlacedCells.{lines-stand}
use Rattle.table.proofs.PlaceLemmas.{pairs-first, pairs-others}
use Rattle.table.proofs.PutRecords.{any-read, first-holds, first-there}
use Rattle.table.proofs.ReachLemmas.{there-all}
use Rattle.table.proofs.ReachedRecords.{all-read, texts_in}

-- ---- The first of two places

-- the lower of three
pub earlier-joined :
    (one other third : Option ℕ)
    → earlier (earlier one other) third ≡ earlier one (earlier other third)
earlier-joined None other third = refl
earlier-joined (Some p) None third = refl
earlier-joined (Some p) (Some q) None = refl
earlier-joined (Some p) (Some q) (Some r) = ap Some (omega arith)

-- there is no other
pub earlier-none : (one : Option ℕ) → earlier one None ≡ one
earlier-none None = refl
earlier-none (Some p) = refl

-- a place in front of all others is the lower one
front-earlier :
    (place : ℕ) (test : Cell → Bool) (cells : List Cell) (found : Option Cell)
    → AllByRecursion (λ cell. place < cell.place) cells
    → find test cells ≡ found
    → (earlier (Some place) (option_map (λ cell. cell.place) found) ≡ Some place)
    × (earlier (option_map (λ cell. cell.place) found) (Some place) ≡ Some place)
front-earlier place test cells None ahead is = (refl, refl)
front-earlier place test cells (Some cell) ahead is =
    let behind = first-holds (λ cell. place < cell.place) test cells cell ahead is in
    (ap Some (omega (arith, behind)), ap Some (omega (arith, behind)))

-- the first place of what one of two tests has
pub first-either :
    (one other either : Cell → Bool) (cells : List Cell)
    → ((cell : Cell) → either cell ≡ (one cell || other cell))
    → ArePlaced cells
    → first_in either cells ≡ earlier (first_in one cells) (first_in other cells)
first-either one other either [] is placed = refl
first-either one other either (cell ∷ cells) is placed =
    let ahead = pairs-first (λ earlier later. earlier.place < later.place) cell cells placed in
    let behind = pairs-others (λ earlier later. earlier.place < later.place) cell cells placed in
    let later = first-either one other either cells is behind in
    elim (cases_Bool (one cell)) [
      | inl has ↦ elim (cases_Bool (other cell)) [
        | inl too ↦
            rw (is cell, has, too) (ap Some (omega arith))
        | inr hasn't ↦
            rw (is cell, has, hasn't)
            (sym (front-earlier cell.place other cells (find other cells) ahead refl).0)
      ]
      | inr hasn't ↦ elim (cases_Bool (other cell)) [
        | inl has ↦
            rw (is cell, hasn't, has)
            (sym (front-earlier cell.place one cells (find one cells) ahead refl).1)
        | inr neither ↦ rw (is cell, hasn't, neither) later
      ]
    ]

-- ---- The first record

-- the first of two lists is that of the first list, where that has one
find-front :
    {X : Type 0} (test : X → Bool) (xs ys : List X)
    → list_any test xs ≡ true
    → find test (xs ++ ys) ≡ find test xs
find-front test [] ys any = absurd cc
find-front test (x ∷ xs) ys any = elim (cases_Bool (test x)) [
  | inl passes ↦ rw passes refl
  | inr fails ↦
      rw fails (find-front test xs ys (sym (ap (λ is. is || list_any test xs) fails) ∙ any))
]

-- and else that of the second
find-behind :
    {X : Type 0} (test : X → Bool) (xs ys : List X)
    → list_any test xs ≡ false
    → find test (xs ++ ys) ≡ find test ys
find-behind test [] ys none = refl
find-behind test (x ∷ xs) ys none = elim (cases_Bool (test x)) [
  | inl passes ↦
      let any : true ≡ false = sym (ap (λ is. is || list_any test xs) passes) ∙ none in absurd cc
  | inr fails ↦
      rw fails (find-behind test xs ys (sym (ap (λ is. is || list_any test xs) fails) ∙ none))
]

module _ {R : Type 0} (format : Format R) (test : R → Bool) where
  -- the first record of a cell
  abbrev first_of : Option Cell → Option R
  first_of None = None
  first_of (Some cell) = find test (records_read format cell.texts)

  -- the first of all is that of the first cell that has one
  first-texts :
      (cells : List Cell)
      → find test (records_read format (texts_in cells)) ≡ first_of (find
      (has_in format test) cells)
  first-texts [] = refl
  first-texts (cell ∷ cells) =
      let here = records_read format cell.texts in
      let later = records_read format (texts_in cells) in
      let apart = ap (find test) (filter_map-append format.read cell.texts (texts_in cells)) in
      elim (cases_Bool (has_in format test cell)) [
        | inl has ↦
            rw has (apart ∙ find-front test here later (any-read format test cell.texts ∙ has))
        | inr hasn't ↦
            rw hasn't
            (apart ∙ find-behind test here later (any-read format test cell.texts ∙ hasn't)
            ∙ first-texts cells)
      ]

  -- among the records of all lines
  first-cell :
      (cells : List Cell)
      → find test (records_of format (lines_now cells))
      ≡ first_of (find (has_in format test) cells)
  first-cell cells = ap (find test) (all-read format cells) ∙ first-texts cells

  -- by the place of that cell
  pub first-placed :
      (cells : List Cell) (place : ℕ) (there : Option Cell)
      → ArePlaced cells
      → first_in (has_in format test) cells ≡ Some place
      → cell_at place cells ≡ there
      → find test (records_of format (lines_now cells)) ≡ first_of there
  first-placed cells place there placed first here =
      first-cell cells
      ∙ sym (ap first_of
      (first-there (has_in format test) cells place (find (has_in format test) cells) there placed
      refl first here))

  -- no cell has one
  pub none-placed :
      (cells : List Cell)
      → first_in (has_in format test) cells ≡ None
      → find test (records_of format (lines_now cells)) ≡ None
  none-placed cells none = first-cell cells ∙ by (find (has_in format test) cells) none
    where
      by : (found : Option Cell)
          → option_map (λ (cell : Cell). cell.place) found ≡ None
          → first_of found ≡ None
      by None none = refl
      by (Some cell) none = absurd cc

-- ---- Edits

-- either of two, and a third
either-and : (one other also : Bool) → ((one || other) && also) ≡ ((one && also) || (other && also))
either-and true other true = refl
either-and true true false = refl
either-and true false false = refl
either-and false other also = refl

-- one of the texts passes one of two tests
any-either :
    {X : Type 0} (one other either : X → Bool) (xs : List X)
    → ((x : X) → either x ≡ (one x || other x))
    → list_any either xs ≡ (list_any one xs || list_any other xs)
any-either one other either [] is = refl
any-either one other either (x ∷ xs) is =
    ap₂ (λ here later. here || later) (is x) (any-either one other either xs is)
    ∙ mixed (one x) (other x) (list_any one xs) (list_any other xs)
  where
    mixed : (a b c d : Bool) → ((a || b) || (c || d)) ≡ ((a || c) || (b || d))
    mixed true b c d = refl
    mixed false true true d = refl
    mixed false true false d = refl
    mixed false false c d = refl

module _ {R : Type 0} (format : Format R) (cells : List Cell) where
  abbrev whole : List R
  whole = records_of format (lines_now cells)

  module _ (tells : TellsSame format) (edit : model.Edit R) (edits : List (model.Edit R)) where
    -- a record is met by the first edit or by those behind it
    met-or :
        (r : R)
        → is_met format (edit ∷ edits) whole r
        ≡ (is_met format (edit ∷ []) whole r || is_met format edits whole r)
    met-or r =
        ap (λ touched. touched && is_multiple format whole r) (first-or format tells edit edits r)
        ∙ either-and (touches_alone format edit r) (touches format edits r)
        (is_multiple format whole r)

    -- so is one that a text is
    pub text-more :
        (text : List ℕ)
        → meets format (edit ∷ edits) cells text
        ≡ (meets format (edit ∷ []) cells text || meets format edits cells text)
    text-more text = by (format.read text)
      where
        by : (found : Option R)
            → is_accepted (is_met format (edit ∷ edits) whole) found
            ≡ (is_accepted (is_met format (edit ∷ []) whole) found
            || is_accepted (is_met format edits whole) found)
        by None = refl
        by (Some r) = met-or r

    -- and the first place of one
    pub met-more :
        ArePlaced cells
        → first_in (has_met format (edit ∷ edits) cells) cells
        ≡ earlier (first_in (has_met format (edit ∷ []) cells) cells)
        (first_in (has_met format edits cells) cells)
    met-more placed =
        first-either (has_met format (edit ∷ []) cells) (has_met format edits cells)
        (has_met format (edit ∷ edits) cells) cells
        (λ cell. any-either (meets format (edit ∷ []) cells) (meets format edits cells)
        (meets format (edit ∷ edits) cells) cell.texts text-more)
        placed

  -- without edits no text is met
  pub text-none : (text : List ℕ) → meets format [] cells text ≡ false
  text-none text = by (format.read text)
    where
      by : (found : Option R) → is_accepted (is_met format [] whole) found ≡ false
      by None = refl
      by (Some r) = refl

  -- and there is no first place
  pub met-none : (some : List Cell) → first_in (has_met format [] cells) some ≡ None
  met-none [] = refl
  met-none (cell ∷ some) = rw (none-in cell.texts) (met-none some)
    where
      none-in : (texts : List (List ℕ)) → list_any (meets format [] cells) texts ≡ false
      none-in [] = refl
      none-in (text ∷ texts) = ap₂ (λ here later. here || later) (text-none text) (none-in texts)

  -- a record whose name has no several isn't met
  pub single-unmet :
      (edit : model.Edit R) (text name : List ℕ)
      → Some name ≡ option_map format.name (format.read text)
      → nat_le 2 (count_named format name whole) ≡ false
      → meets format (edit ∷ []) cells text ≡ false
  single-unmet edit text name is single = by (format.read text) is
    where
      and-false : (touched several : Bool) → several ≡ false → (touched && several) ≡ false
      and-false true several is = is
      and-false false several is = refl

      by : (found : Option R)
          → Some name ≡ option_map format.name found
          → is_accepted (is_met format (edit ∷ []) whole) found ≡ false
      by None is = refl
      by (Some r) is =
          let same : format.name r ≡ name = cc in
          and-false (touches_alone format edit r) (is_multiple format whole r)
          (ap (λ name. nat_le 2 (count_named format name whole)) same ∙ single)

  -- ---- Places of one edit

  module _ (places : List ℕ) where
    -- a record that is met is touched
    met-touched :
        (touched several : Bool) → (touched && several) ≡ true → touched ≡ true
    met-touched true several is = refl
    met-touched false several is = is

    -- one that is added touches none
    pub added-meets :
        (edit : model.Edit R)
        → ((r : R) → touches_alone format edit r ≡ false)
        → places ≡ []
        → AllByRecursion IsSound cells
        → ArePlaced cells
        → MeetsAt format edit cells places
    added-meets edit none is sound placed = record {
      all = there-all format
          (λ place r. is_met format (edit ∷ []) whole r ≡ true → is_used places place ≡ true) cells
          (λ place r met.
          let both : true ≡ false =
          sym (met-touched (touches_alone format edit r) (is_multiple format whole r) met)
          ∙ none r in
          absurd cc);
      ascending = rw is (λ i j d first last. absurd (omega arith));
      sound = sound;
      placed = placed;
    }

-- ---- Where edits are made

-- lines that stand in a file as they came have their places in it
pub kept-stand :
    (cells : List Cell) (text : List ℕ)
    → cells ≡ cells_from 0 (lines_of text)
    → cells ≡ cells_from 0 (lines_now cells)
kept-stand cells text kept =
    kept
    ∙ sym (ap (λ cells. cells_from 0 (lines_now cells)) kept
    ∙ ap (cells_from 0) (lines-stand 0 (lines_of text)))

module _ {R : Type 0} (format : Format R) (cells : List Cell) where
  -- no places are told
  pub none-told :
      (edits : List (model.Edit R)) (places : List ℕ)
      → places ≡ []
      → AreEditedAt format edits cells places
  none-told [] places none = tt
  none-told (edit ∷ []) places none = λ some. absurd (some none)
  none-told (edit ∷ other ∷ edits) places none = tt

  -- the places of one edit of a list are those of the only one, if it is that
  pub only-edited :
      {C : Type 0} (becomes : C → R → List R) (edits : List (Edit R C)) (index : ℕ) (edit : Edit R C)
      (places : List ℕ)
      → index < length edits
      → edit ≡ get_or edits index edit
      → IsEditedAt format (seen_edit becomes edit) cells places
      → AreEditedAt format (seen_edits becomes edits) cells places
  only-edited becomes [] index edit places inside is at = tt
  only-edited becomes (only ∷ []) zero edit places inside is at = λ some.
      subst (λ edit. IsEditedAt format (seen_edit becomes edit) cells places) is at
  only-edited becomes (only ∷ []) (suc index) edit places inside is at = absurd (omega arith)
  only-edited becomes (one ∷ other ∷ edits) index edit places inside is at = tt
