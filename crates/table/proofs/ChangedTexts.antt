-- Claims: what stands in places after a change are the lines after it, where each record elsewhere is
-- left (`all-changed`), and places are changed one after another (`changed-next`); texts that a change
-- makes are all such as the old ones and those that are printed (`becoming-all`). Way: text by text, by
-- what it reads as, then cell by cell.
use Rattle.std.proofs.Common.{◌≡◌, ◌∙◌, ℕ, ◌≤◌, Bool, true, false, List, [], ◌∷◌, ◌++◌, append-nil, length, map, refl, sym, ap, inl, inr, arith}
use Rattle.std.specs.Prelude.{◌||◌, flat_map, nat_le, Option, None, Some, if◌then◌else◌}
use Rattle.std.specs.List.{AllByRecursion}
use Rattle.std.proofs.lemmas.Bool.{cases_Bool, cases_eq, le-leb}
use Rattle.std.proofs.lemmas.Grind.{flat_map-append}
use Rattle.std.proofs.lemmas.List.{map-append}
use Rattle.acct_text.specs.Lines.{Line}
use Rattle.account_model.specs.Edits.{becomes, line_becomes, printed_line}
use Rattle.account_model.specs.Format.{Format}
use Rattle.account_model.specs.Ids.{is_used}
use Rattle.account_model.specs.RecordEdits.{TellsSame}
use Rattle.line_edits.proofs.ChangedLines.{left-line}
use Rattle.acct_tables.specs.Cells.{cell_lines, lines_now}
use Rattle.acct_tables.specs.declared.cell.Cell.{Cell}
use Rattle.table.specs.Changed.{changed_cell, changed_there, text_becomes, text_instead, texts_becoming}
use Rattle.table.specs.TableCells.{HoldsOf, HoldsThere, IsSound}
use Rattle.table.proofs.PlaceLemmas.{used-apart, used-itself}

-- ---- Text by text

-- the line of a text
abbrev pub line_with : Bool → List ℕ → Line
line_with ended text = record { text = text; ended = ended }

-- the lines of texts in place of one that has this end
abbrev lines_with : Bool → List (List ℕ) → List Line
lines_with ended texts = map (line_with (ended || nat_le 2 (length texts))) texts

module _ {R : Type 0} (format : Format R) where
  -- each record has its line
  printed-lines :
      (records : List R)
      → map (line_with true) (map format.print records) ≡ map (printed_line format) records
  printed-lines [] = refl
  printed-lines (r ∷ records) =
      ap (λ lines. printed_line format r ∷ lines) (printed-lines records)

  -- a record in place of another keeps the end of the line
  pub instead-line :
      (text : List ℕ) (ended : Bool) (s : R) (same : Bool)
      → line_with ended (if same then text else format.print s) ∷ []
      ≡ (if same then line_with ended text ∷ [] else line_with ended (format.print s) ∷ [])
  instead-line text ended s true = refl
  instead-line text ended s false = refl

  -- several lines have an end each
  several-lines :
      (ended : Bool) (s t : R) (rest : List R)
      → lines_with ended (map format.print (s ∷ t ∷ rest))
      ≡ map (printed_line format) (s ∷ t ∷ rest)
  several-lines true s t rest = printed-lines (s ∷ t ∷ rest)
  several-lines false s t rest =
      let texts = map format.print (s ∷ t ∷ rest) in
      ap (λ ends. map (line_with ends) texts) (le-leb 2 (length texts) (omega arith))
      ∙ printed-lines (s ∷ t ∷ rest)

  -- one text keeps what end there is
  single-end : (ended : Bool) → (ended || nat_le 2 1) ≡ ended
  single-end true = refl
  single-end false = refl

  -- by what becomes of a record
  becoming-by :
      (text : List ℕ) (ended : Bool) (r : R) (records : List R)
      → lines_with ended (text_becomes format text r records)
      ≡ line_becomes format (line_with ended text) r records
  becoming-by text ended r [] = refl
  becoming-by text ended r (s ∷ []) =
      ap (λ ends. line_with ends (text_instead format text r s) ∷ []) (single-end ended)
      ∙ instead-line text ended s (format.same r s)
  becoming-by text ended r (s ∷ t ∷ rest) = several-lines ended s t rest

  module _ (f : R → List R) where
    -- by what a text reads as
    read-by :
        (text : List ℕ) (ended : Bool) (found : Option R)
        → lines_with ended (elim found [
          | None ↦ text ∷ []
          | Some r ↦ text_becomes format text r (f r)
        ])
        ≡ (elim found [
          | None ↦ line_with ended text ∷ []
          | Some r ↦ line_becomes format (line_with ended text) r (f r)
        ])
    read-by text ended None = ap (λ ends. line_with ends text ∷ []) (single-end ended)
    read-by text ended (Some r) = becoming-by text ended r (f r)

    -- what stands in place of a line's text are the lines that the line becomes
    text-becoming :
        (text : List ℕ) (ended : Bool)
        → lines_with ended (texts_becoming format f text)
        ≡ becomes format f (line_with ended text)
    text-becoming text ended = read-by text ended (format.read text)

    -- ---- Cell by cell

    -- texts with an end each
    ended-changed :
        (texts : List (List ℕ))
        → map (line_with true) (flat_map (texts_becoming format f) texts)
        ≡ flat_map (becomes format f) (map (line_with true) texts)
    ended-changed [] = refl
    ended-changed (text ∷ texts) =
        map-append (line_with true) (texts_becoming format f text)
        (flat_map (texts_becoming format f) texts)
        ∙ ap (λ lines. lines ++ map (line_with true) (flat_map (texts_becoming format f) texts))
        (text-becoming text true)
        ∙ ap (λ lines. becomes format f (line_with true text) ++ lines) (ended-changed texts)

    -- the texts of a cell
    texts-changed :
        (texts : List (List ℕ)) (ended : Bool)
        → (ended ≡ false → length texts ≤ 1)
        → lines_with ended (flat_map (texts_becoming format f) texts)
        ≡ flat_map (becomes format f) (map (line_with ended) texts)
    texts-changed texts true sound = ended-changed texts
    texts-changed [] false sound = refl
    texts-changed (text ∷ []) false sound =
        ap (lines_with false) (append-nil (texts_becoming format f text))
        ∙ text-becoming text false
        ∙ sym (append-nil (becomes format f (line_with false text)))
    texts-changed (text ∷ next ∷ texts) false sound = absurd (omega (arith, sound refl))

    -- so a cell becomes what its lines do
    pub cell-changed :
        (cell : Cell)
        → IsSound cell
        → cell_lines (changed_cell format f cell) ≡ flat_map (becomes format f) (cell_lines cell)
    cell-changed cell sound = texts-changed cell.texts cell.ended sound.ended

    -- a cell whose records are left stays
    cell-left :
        (ended : Bool) (texts : List (List ℕ))
        → TellsSame format
        → AllByRecursion (HoldsOf format (λ r. f r ≡ r ∷ [])) texts
        → flat_map (becomes format f) (map (line_with ended) texts) ≡ map (line_with ended) texts
    cell-left ended [] tells left = refl
    cell-left ended (text ∷ texts) tells left =
        let line = line_with ended text in
        let others = map (line_with ended) texts in
        ap (λ lines. lines ++ flat_map (becomes format f) others)
        (left-line format f line tells left.0)
        ∙ ap (λ lines. line ∷ lines) (cell-left ended texts tells left.1)

    -- a record elsewhere is left
    left-unused :
        (places : List ℕ) (place : ℕ) (texts : List (List ℕ))
        → is_used places place ≡ false
        → AllByRecursion (HoldsOf format (λ r. is_used places place ≡ false → f r ≡ r ∷ [])) texts
        → AllByRecursion (HoldsOf format (λ r. f r ≡ r ∷ [])) texts
    left-unused places place [] unused left = tt
    left-unused places place (text ∷ texts) unused left = (
      λ r reads. left.0 r reads unused,
      left-unused places place texts unused left.1,
    )

    -- where each record elsewhere is left, all lines become what stands in the places then
    pub all-changed :
        (places : List ℕ) (cells : List Cell)
        → TellsSame format
        → AllByRecursion IsSound cells
        → HoldsThere format (λ place r. is_used places place ≡ false → f r ≡ r ∷ []) cells
        → lines_now (changed_there format f places cells)
        ≡ flat_map (becomes format f) (lines_now cells)
    all-changed places [] tells sound left = refl
    all-changed places (cell ∷ cells) tells sound left =
        let later = all-changed places cells tells sound.1 left.1 in
        let apart = flat_map-append (becomes format f) (cell_lines cell) (lines_now cells) in
        let made = lines_now (changed_there format f places cells) in
        elim (cases_Bool (is_used places cell.place)) [
          | inl used ↦
              rw used
              (ap (λ lines. lines ++ made) (cell-changed cell sound.0)
              ∙ ap (λ lines. flat_map (becomes format f) (cell_lines cell) ++ lines) later
              ∙ sym apart)
          | inr unused ↦
              rw unused
              (ap (λ lines. lines ++ made)
              (sym (cell-left cell.ended cell.texts tells
              (left-unused places cell.place cell.texts unused left.0)))
              ∙ ap (λ lines. flat_map (becomes format f) (cell_lines cell) ++ lines) later
              ∙ sym apart)
        ]

    -- ---- Place by place

    -- the first of the places is changed, then the others
    pub changed-next :
        (place : ℕ) (places : List ℕ) (cells : List Cell)
        → is_used places place ≡ false
        → changed_there format f places (changed_there format f (place ∷ []) cells)
        ≡ changed_there format f (place ∷ places) cells
    changed-next place places [] unused = refl
    changed-next place places (cell ∷ cells) unused =
        let later = changed-next place places cells unused in
        elim (cases_eq place cell.place) [
          | inl same ↦
              let here : is_used places cell.place ≡ false =
              ap (is_used places) (sym same) ∙ unused in
              rw (
                used-itself place cell.place [] same,
                used-itself place cell.place places same,
                here,
              )
              (ap (λ cells. changed_cell format f cell ∷ cells) later)
          | inr apart ↦
              rw (used-apart place cell.place [] apart, used-apart place cell.place places apart)
              (ap (λ cells.
              (if is_used places cell.place then changed_cell format f cell else cell) ∷ cells)
              later)
        ]

    -- at no place nothing is
    pub changed-nowhere : (cells : List Cell) → changed_there format f [] cells ≡ cells
    changed-nowhere [] = refl
    changed-nowhere (cell ∷ cells) = ap (λ cells. cell ∷ cells) (changed-nowhere cells)

    -- ---- What holds of all texts

    -- by what becomes of a record
    records-all :
        (Q : List ℕ → Type 0) (text : List ℕ) (r : R) (records : List R)
        → Q text
        → AllByRecursion (λ s. Q (format.print s)) records
        → AllByRecursion Q (text_becomes format text r records)
    records-all Q text r [] here made = tt
    records-all Q text r (s ∷ []) here made = (instead (format.same r s), tt)
      where
        instead : (same : Bool) → Q (if same then text else format.print s)
        instead true = here
        instead false = made.0
    records-all Q text r (s ∷ t ∷ rest) here made = printed (s ∷ t ∷ rest) made
      where
        printed :
            (records : List R)
            → AllByRecursion (λ s. Q (format.print s)) records
            → AllByRecursion Q (map format.print records)
        printed [] made = tt
        printed (s ∷ records) made = (made.0, printed records made.1)

    -- what holds of a text and of all that are printed for it holds of those in its place
    pub becoming-all :
        (Q : List ℕ → Type 0) (text : List ℕ)
        → Q text
        → ((r : R) → format.read text ≡ Some r → AllByRecursion (λ s. Q (format.print s)) (f r))
        → AllByRecursion Q (texts_becoming format f text)
    becoming-all Q text here made = by (format.read text) refl
      where
        by : (found : Option R)
            → format.read text ≡ found
            → AllByRecursion Q (elim found [
              | None ↦ text ∷ []
              | Some r ↦ text_becomes format text r (f r)
            ])
        by None reads = (here, tt)
        by (Some r) reads = records-all Q text r (f r) here (made r reads)
