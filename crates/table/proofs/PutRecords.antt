-- Claims: to put a record in place of the first of its name among the texts of the first cell that has
-- one is to put it in place of the first of all lines (`put-lines`). That cell is found place by place
-- (`met-first`, `passed-first`), also among the reached ones (`first-reached`), and where there is none
-- no record has the name (`has-cells`). Way: cell by cell, and in it text by text.
use Rattle.std.proofs.Common.{◌≡◌, ◌∙◌, ℕ, ◌<◌, Bool, true, false, List, [], ◌∷◌, ◌++◌, length, map, suc, refl, sym, ap, subst, inl, inr, arith}
use Rattle.std.specs.Prelude.{◌||◌, find, is_some, nat_le, option_map, Option, None, Some, if◌then◌else◌}
use Rattle.std.specs.List.{AllByRecursion, cons_option, list_any}
use Rattle.std.proofs.ByRecursion.{All-weaker}
use Rattle.std.proofs.lemmas.Bool.{cases_Bool, eq-eqb, ne_eqb, or_cases, or_parts}
use Rattle.std.proofs.lemmas.List.Folds.{list_any-append}
use Rattle.acct_text.specs.Lines.{Line}
use Rattle.account_model.specs.Edits.{line_becomes, put_first}
use Rattle.account_model.specs.Format.{Format, has_named, is_named, records_of}
use Rattle.account_model.specs.Ids.{is_used}
use Rattle.acct_tables.specs.TableLines.{text_is_named}
use Rattle.acct_tables.specs.Cells.{ArePlaced, cell_at, cell_lines, lines_now, texts_put, with_texts}
use Rattle.acct_tables.specs.declared.cell.Cell.{Cell}
use Rattle.table.specs.Accepting.{is_accepted}
use Rattle.table.specs.Changed.{text_instead, texts_with}
use Rattle.table.specs.Met.{first_in}
use Rattle.table.specs.TableCells.{HoldsIn, HoldsOf, IsSound, Reaches, cells_there, has_in, has_named_in, records_read}
use Rattle.table.proofs.ChangedTexts.{instead-line, line_with}
use Rattle.table.proofs.KeptCells.{elsewhere-put, found-place, sound-end}
use Rattle.table.proofs.PlaceLemmas.{pairs-first, pairs-others, there-used}
use Rattle.table.proofs.ReachedRecords.{all-read, find-among, texts_in}

-- ---- Lists

-- whether one is found is whether one passes
pub some-found :
    {X : Type 0} (test : X → Bool) (xs : List X) → is_some (find test xs) ≡ list_any test xs
some-found test [] = refl
some-found test (x ∷ xs) = elim (cases_Bool (test x)) [
  | inl passes ↦ rw passes refl
  | inr fails ↦ rw fails (some-found test xs)
]

-- what holds of all holds of the first that passes
pub first-holds :
    {X : Type 0} (P : X → Type 0) (test : X → Bool) (xs : List X) (x : X)
    → AllByRecursion P xs
    → find test xs ≡ Some x
    → P x
first-holds P test [] x holds found = absurd cc
first-holds P test (first ∷ xs) x holds found = elim (cases_Bool (test first)) [
  | inl passes ↦
      let here : find test (first ∷ xs) ≡ Some first = rw passes refl in
      let is : first ≡ x = cc in
      subst P is holds.0
  | inr fails ↦
      let later : find test (first ∷ xs) ≡ find test xs = rw fails refl in
      first-holds P test xs x holds.1 (sym later ∙ found)
]

-- ---- Texts

module _ {R : Type 0} (format : Format R) (item : R) where
  -- whether a text is a record of the name
  abbrev named : List ℕ → Bool
  named text = text_is_named format (format.name item) text

  -- the record goes in place of one text
  with-length : (texts : List (List ℕ)) → length (texts_with format item texts) ≡ length texts
  with-length [] = refl
  with-length (text ∷ texts) = elim (cases_Bool (named text)) [
    | inl is ↦ rw is refl
    | inr is ↦ rw is (ap suc (with-length texts))
  ]

  module _ (ended : Bool) (rest : List Line) where
    -- by what a text reads as
    put-by :
        (text : List ℕ) (texts : List (List ℕ)) (found : Option R)
        → (list_any named texts ≡ true
        → map (line_with ended) (texts_with format item texts) ++ rest
        ≡ put_first format item (map (line_with ended) texts ++ rest))
        → ((elim found [ None ↦ false | Some s ↦ is_named format (format.name item) s ])
        || list_any named texts) ≡ true
        → map (line_with ended)
        (if (elim found [ None ↦ false | Some s ↦ is_named format (format.name item) s ])
        then (elim found [ None ↦ text | Some s ↦ text_instead format text s item ]) ∷ texts
        else text ∷ texts_with format item texts) ++ rest
        ≡ (elim found [
          | None ↦
              line_with ended text ∷ put_first format item (map (line_with ended) texts ++ rest)
          | Some s ↦ if is_named format (format.name item) s
              then line_becomes format (line_with ended text) s (item ∷ [])
              ++ (map (line_with ended) texts ++ rest)
              else line_with ended text
              ∷ put_first format item (map (line_with ended) texts ++ rest)
        ])
    put-by text texts None later any = ap (λ lines. line_with ended text ∷ lines) (later any)
    put-by text texts (Some s) later any =
        elim (cases_Bool (is_named format (format.name item) s)) [
          | inl is ↦
              rw is
              (ap (λ lines. lines ++ (map (line_with ended) texts ++ rest))
              (instead-line format text ended item (format.same s item)))
          | inr is ↦
              let others : list_any named texts ≡ true =
              sym (ap (λ here. here || list_any named texts) is) ∙ any in
              rw is (ap (λ lines. line_with ended text ∷ lines) (later others))
        ]

    -- among texts of which one has the name it goes in place of the first of all lines
    put-texts :
        (texts : List (List ℕ))
        → list_any named texts ≡ true
        → map (line_with ended) (texts_with format item texts) ++ rest
        ≡ put_first format item (map (line_with ended) texts ++ rest)
    put-texts [] any = absurd cc
    put-texts (text ∷ texts) any =
        put-by text texts (format.read text) (put-texts texts) any

    -- lines of other records and other text are passed
    past-by :
        (line : Line) (lines : List Line) (found : Option R)
        → (elim found [ None ↦ false | Some s ↦ is_named format (format.name item) s ]) ≡ false
        → (elim found [
          | None ↦ line ∷ put_first format item lines
          | Some s ↦ if is_named format (format.name item) s
              then line_becomes format line s (item ∷ []) ++ lines
              else line ∷ put_first format item lines
        ]) ≡ line ∷ put_first format item lines
    past-by line lines None other = refl
    past-by line lines (Some s) other = rw other refl

    put-past :
        (texts : List (List ℕ))
        → list_any named texts ≡ false
        → put_first format item (map (line_with ended) texts ++ rest)
        ≡ map (line_with ended) texts ++ put_first format item rest
    put-past [] none = refl
    put-past (text ∷ texts) none =
        let both = or_parts (named text) (list_any named texts) none in
        past-by (line_with ended text) (map (line_with ended) texts ++ rest) (format.read text)
        both.0
        ∙ ap (λ lines. line_with ended text ∷ lines) (put-past texts both.1)

  -- ---- Cells

  -- the lines of the cell that has the first
  put-here :
      (cell : Cell) (rest : List Line)
      → IsSound cell
      → has_named_in format (format.name item) cell ≡ true
      → cell_lines (with_texts (texts_with format item cell.texts) cell) ++ rest
      ≡ put_first format item (cell_lines cell ++ rest)
  put-here cell rest sound has =
      ap (λ count. map (line_with (cell.ended || nat_le 2 count))
      (texts_with format item cell.texts) ++ rest) (with-length cell.texts)
      ∙ ap (λ ended. map (line_with ended) (texts_with format item cell.texts) ++ rest)
      (sound-end cell.ended cell.texts sound.ended)
      ∙ put-texts cell.ended rest cell.texts has

  -- all lines
  pub put-lines :
      (cells : List Cell) (cell : Cell)
      → AllByRecursion IsSound cells
      → ArePlaced cells
      → find (has_named_in format (format.name item)) cells ≡ Some cell
      → lines_now (texts_put cell.place (texts_with format item cell.texts) cells)
      ≡ put_first format item (lines_now cells)
  put-lines [] cell sound placed found = absurd cc
  put-lines (first ∷ cells) cell sound placed found =
      let has = has_named_in format (format.name item) in
      let ahead = pairs-first (λ earlier later. earlier.place < later.place) first cells placed in
      let others = pairs-others (λ earlier later. earlier.place < later.place) first cells placed in
      let texts = λ (cell : Cell). texts_with format item cell.texts in
      elim (cases_Bool (has first)) [
        | inl here ↦
            let found_here : find has (first ∷ cells) ≡ Some first = rw here refl in
            let is : first ≡ cell = cc in
            subst (λ (cell : Cell). lines_now (texts_put cell.place (texts cell) (first ∷ cells))
            ≡ put_first format item (lines_now (first ∷ cells))) is
            (rw (eq-eqb first.place first.place refl)
            (ap (λ cells. cell_lines (with_texts (texts first) first) ++ lines_now cells)
            (elsewhere-put first.place (texts first) cells ahead)
            ∙ put-here first (lines_now cells) sound.0 here))
        | inr elsewhere ↦
            let later : find has (first ∷ cells) ≡ find has cells = rw elsewhere refl in
            let behind = first-holds (λ cell. first.place < cell.place) has cells cell ahead
            (sym later ∙ found) in
            rw (ne_eqb first.place cell.place (λ same. omega (arith, same, behind)))
            (ap (λ lines. cell_lines first ++ lines)
            (put-lines cells cell sound.1 others (sym later ∙ found))
            ∙ sym (put-past first.ended (lines_now cells) first.texts elsewhere))
      ]

-- ---- The first cell

-- a cell that is found stands in its place
pub first-at :
    (test : Cell → Bool) (cells : List Cell) (cell : Cell)
    → ArePlaced cells
    → find test cells ≡ Some cell
    → cell_at cell.place cells ≡ Some cell
first-at test [] cell placed found = absurd cc
first-at test (first ∷ cells) cell placed found =
    let ahead = pairs-first (λ earlier later. earlier.place < later.place) first cells placed in
    let others = pairs-others (λ earlier later. earlier.place < later.place) first cells placed in
    elim (cases_Bool (test first)) [
      | inl passes ↦
          let here : find test (first ∷ cells) ≡ Some first = rw passes refl in
          let is : first ≡ cell = cc in
          subst (λ (cell : Cell). cell_at cell.place (first ∷ cells) ≡ Some cell) is
          (rw (eq-eqb first.place first.place refl) refl)
      | inr fails ↦
          let later : find test (first ∷ cells) ≡ find test cells = rw fails refl in
          let behind = first-holds (λ cell. first.place < cell.place) test cells cell ahead
          (sym later ∙ found) in
          rw (ne_eqb first.place cell.place (λ same. omega (arith, same, behind)))
          (first-at test cells cell others (sym later ∙ found))
    ]

-- that of a place where one is found is the one
pub first-there :
    (test : Cell → Bool) (cells : List Cell) (place : ℕ) (found there : Option Cell)
    → ArePlaced cells
    → find test cells ≡ found
    → option_map (λ cell. cell.place) found ≡ Some place
    → cell_at place cells ≡ there
    → there ≡ found
first-there test cells place None there placed is first here = absurd cc
first-there test cells place (Some cell) there placed is first here =
    let same : cell.place ≡ place = cc in
    sym here
    ∙ ap (λ place. cell_at place cells) (sym same)
    ∙ first-at test cells cell placed is

module _ {R : Type 0} (format : Format R) (test : R → Bool) where
  -- whether the text is a record that passes
  abbrev passes : List ℕ → Bool
  passes text = is_accepted test (format.read text)

  -- by what a text reads as
  any-by :
      (found : Option R) (records : List R)
      → list_any test (cons_option found records)
      ≡ (is_accepted test found || list_any test records)
  any-by None records = refl
  any-by (Some r) records = refl

  -- a record that passes is among texts where one of these is such a record
  pub any-read :
      (texts : List (List ℕ))
      → list_any test (records_read format texts) ≡ list_any passes texts
  any-read [] = refl
  any-read (text ∷ texts) =
      any-by (format.read text) (records_read format texts)
      ∙ ap (λ later. passes text || later) (any-read texts)

  -- ---- Place by place

  -- the cell in the first place is the first
  pub met-first :
      (place : ℕ) (cells later : List Cell) (there : Option Cell)
      → cell_at place cells ≡ there
      → list_any (has_in format test) (cons_option there []) ≡ true
      → first_in (has_in format test) (cons_option there [] ++ later) ≡ Some place
  met-first place cells later None is has = absurd cc
  met-first place cells later (Some cell) is has =
      let here : has_in format test cell ≡ true =
      elim (or_cases (has_in format test cell) false has) [
        | inl is ↦ is
        | inr never ↦ absurd cc
      ] in
      rw here (ap Some (found-place place cells cell is))

  -- it isn't
  pub passed-first :
      (later : List Cell) (there : Option Cell)
      → list_any (has_in format test) (cons_option there []) ≡ false
      → find (has_in format test) (cons_option there [] ++ later)
      ≡ find (has_in format test) later
  passed-first later None none = refl
  passed-first later (Some cell) none =
      rw (or_parts (has_in format test cell) false none).0 refl

  -- texts with a record that passes reach their place
  pub reached-by :
      (places : List ℕ) (place : ℕ) (texts : List (List ℕ))
      → AllByRecursion (HoldsOf format
      (λ r. test r ≡ true → is_used places place ≡ true)) texts
      → list_any passes texts ≡ true
      → is_used places place ≡ true
  reached-by places place [] reached has = absurd cc
  reached-by places place (text ∷ texts) reached has =
      elim (or_cases (passes text) (list_any passes texts) has) [
        | inl here ↦ by (format.read text) reached.0 here
        | inr later ↦ reached-by places place texts reached.1 later
      ]
    where
      by : (found : Option R)
          → ((r : R) → found ≡ Some r → test r ≡ true → is_used places place ≡ true)
          → is_accepted test found ≡ true
          → is_used places place ≡ true
      by None reached here = absurd cc
      by (Some r) reached here = reached r refl here

  -- what is found among the reached cells is found among all
  pub first-reached :
      (cells : List Cell) (places : List ℕ)
      → Reaches format test cells places
      → find (has_in format test) (cells_there cells places) ≡ find (has_in format test) cells
  first-reached cells places reached =
      ap (find (has_in format test))
      (there-used places cells reached.ascending reached.placed)
      ∙ find-among (has_in format test) (λ cell. is_used places cell.place) cells
      (All-weaker (λ cell. HoldsIn format
      (λ r. test r ≡ true → is_used places cell.place ≡ true) cell)
      (λ cell. has_in format test cell ≡ true → is_used places cell.place ≡ true)
      (λ cell here has. reached-by places cell.place cell.texts here has) cells reached.all)

-- ---- A name

module _ {R : Type 0} (format : Format R) (name : List ℕ) where
  -- among those of cells where one of these has one
  any-in :
      (cells : List Cell)
      → list_any (text_is_named format name) (texts_in cells)
      ≡ list_any (has_named_in format name) cells
  any-in [] = refl
  any-in (cell ∷ cells) =
      list_any-append (text_is_named format name) cell.texts (texts_in cells)
      ∙ ap (λ later. has_named_in format name cell || later) (any-in cells)

  -- a record has the name where a cell with one is found
  pub has-cells :
      (cells : List Cell)
      → has_named format name (records_of format (lines_now cells))
      ≡ is_some (find (has_named_in format name) cells)
  has-cells cells =
      some-found (is_named format name) (records_of format (lines_now cells))
      ∙ ap (list_any (is_named format name)) (all-read format cells)
      ∙ any-read format (is_named format name) (texts_in cells)
      ∙ any-in cells
      ∙ sym (some-found (has_named_in format name) cells)

  -- told by the place of that cell
  pub has-by :
      (cells : List Cell) (place : Option ℕ)
      → place ≡ option_map (λ cell. cell.place) (find (has_named_in format name) cells)
      → has_named format name (records_of format (lines_now cells)) ≡ is_some place
  has-by cells place is =
      has-cells cells ∙ by (find (has_named_in format name) cells) ∙ sym (ap is_some is)
    where
      by : (found : Option Cell)
          → is_some found ≡ is_some (option_map (λ (cell : Cell). cell.place) found)
      by None = refl
      by (Some cell) = refl
