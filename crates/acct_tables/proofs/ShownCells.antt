-- Claim: the cells of a file are what its calls say: those of its lines at first (`kept-first`), with
-- texts put into the place of a line (`kept-put`) or of an added one (`kept-put_added`), with one more
-- (`kept-added`), and where one is looked up (`kept-at_line`, `kept-at_added`); their places go up
-- (`kept-ascend`) in front of the next one's (`kept-below`). Way: the cells one after another, those of
-- the file's lines in front of its end and those of added lines behind it.
use Rattle.std.proofs.Common.{◌≡◌, ◌∙◌, ℕ, zero, suc, ◌+◌, ◌<◌, Bool, true, false, inl, inr, List, [], ◌∷◌, ◌++◌, append-nil, append_assoc, cond, length, map, refl, sym, ap, ap₂, subst, arith}
use Rattle.std.specs.Prelude.{◌==◌, ◌||◌, nat_le, if◌then◌else◌, Option, Some, None, option_map, set, slice_get}
use Rattle.std.proofs.lemmas.Bool.{cases_Bool, eq-eqb, eqb-false, eqb-true, ne_eqb}
use Rattle.std.proofs.lemmas.List.{map-append}
use Rattle.acct_text.specs.Lines.{file_bytes, lines_of}
use Rattle.acct_text.proofs.LinesLaws.{lines_of-are}
use Rattle.acct_tables.specs.declared.cell.Cell.{Cell}
use Rattle.acct_tables.specs.Cells.{cell_at, cells_from, ended_cell, lines_now, text_added, texts_put, with_texts}
use Rattle.acct_tables.specs.Kept.{IsPut, Patches, added_from, added_texts_cell, cells_kept, cells_left, is_ended_by, shown_cell, texts_by}
use Rattle.acct_tables.proofs.PlacedCells.{AreBelow, AreElsewhere, Ascend, added-ascend, added-below, ascend-append, below-append, before-elsewhere, behind-elsewhere, lines-ascend, lines-below, lines-stand, none-elsewhere, put-elsewhere}

-- ---- The cells of the file's lines

-- what stands in their places
abbrev pub shown_cells : Bool → Patches → List Cell → List Cell
shown_cells are_ended patches cells =
    map (λ cell. shown_cell are_ended (patches cell.place) cell) cells

-- nor is anything that nothing is added to
or-false : (ended : Bool) → ((ended || false) || false) ≡ ended
or-false true = refl
or-false false = refl

-- ended is what ended at last
or-true : (ended : Bool) → (ended || true) ≡ true
or-true true = refl
or-true false = refl

-- what ends counts wherever it comes
or-moved : (a b c d : Bool) → ((a || (b || d)) || c) ≡ (((a || b) || c) || d)
or-moved true b c d = refl
or-moved false true c d = refl
or-moved false false true true = refl
or-moved false false true false = refl
or-moved false false false true = refl
or-moved false false false false = refl

-- nothing was put there, and not each has got an end
shown-first : (none : Patches) → ((place : ℕ) → none place ≡ None)
    → (cells : List Cell) → shown_cells false none cells ≡ cells
shown-first none is [] = refl
shown-first none is (cell ∷ rest) =
    ap₂ (λ first later. first ∷ later)
    (ap (λ patch. shown_cell false patch cell) (is cell.place)
    ∙ ap (λ ended. record cell { ended = ended }) (or-false cell.ended))
    (shown-first none is rest)

module _ (are_ended : Bool) (patches : Patches) where
  -- they have the places of the lines
  shown-ascend :
      (from : ℕ) (cells : List Cell)
      → Ascend from cells
      → Ascend from (shown_cells are_ended patches cells)
  shown-ascend from [] ascend = tt
  shown-ascend from (cell ∷ rest) ascend =
      (ascend.0, shown-ascend (cell.place + 1) rest ascend.1)

  -- in front of the end
  shown-below :
      (end : ℕ) (cells : List Cell)
      → AreBelow end cells
      → AreBelow end (shown_cells are_ended patches cells)
  shown-below end [] below = tt
  shown-below end (cell ∷ rest) below = (below.0, shown-below end rest below.1)

  -- each with an end
  shown-ended :
      (cells : List Cell)
      → shown_cells true patches cells ≡ map ended_cell (shown_cells are_ended patches cells)
  shown-ended [] = refl
  shown-ended (cell ∷ rest) =
      let patch = patches cell.place in
      ap₂ (λ ended later. record {
        place = cell.place;
        texts = texts_by patch cell.texts;
        ended = ended;
      } ∷ later)
      (or-true (cell.ended || is_ended_by patch)) (shown-ended rest)

  -- what is found at a place, by whether it is the first cell
  at-shown_by :
      (is_here : Bool) (cell : Cell) (found : Option Cell)
      → cond is_here (Some (shown_cell are_ended (patches cell.place) cell))
      (option_map (λ cell. shown_cell are_ended (patches cell.place) cell) found)
      ≡ option_map (λ cell. shown_cell are_ended (patches cell.place) cell)
      (cond is_here (Some cell) found)
  at-shown_by true cell found = refl
  at-shown_by false cell found = refl

  -- what is found at a place
  at-shown :
      (place : ℕ) (cells : List Cell)
      → cell_at place (shown_cells are_ended patches cells)
      ≡ option_map (λ cell. shown_cell are_ended (patches cell.place) cell) (cell_at place cells)
  at-shown place [] = refl
  at-shown place (cell ∷ rest) =
      ap (cond (cell.place == place) (Some (shown_cell are_ended (patches cell.place) cell)))
      (at-shown place rest)
      ∙ at-shown_by (cell.place == place) cell (cell_at place rest)

-- ---- Texts that are put into the place of a line

module _ (are_ended : Bool) (place : ℕ) (texts : List (List ℕ)) (old new : Patches)
    (put : IsPut place texts old new) where
  -- there
  put-here :
      (cell : Cell)
      → cell.place ≡ place
      → shown_cell are_ended (new cell.place) cell
      ≡ with_texts texts (shown_cell are_ended (old cell.place) cell)
  put-here cell here =
      ap (λ patch. shown_cell are_ended patch cell) (ap new here ∙ put.here)
      ∙ ap₂ (λ (texts : List (List ℕ)) (ended : Bool). record {
        place = cell.place;
        texts = texts;
        ended = ended;
      })
      put.has
      (ap (λ ended. (cell.ended || ended) || are_ended)
      (put.ended ∙ ap (λ n. is_ended_by (old n) || nat_le 2 (length texts)) (sym here))
      ∙ or-moved cell.ended (is_ended_by (old cell.place)) are_ended (nat_le 2 (length texts)))

  -- there, and not elsewhere
  put-one :
      (cell : Cell)
      → shown_cell are_ended (new cell.place) cell
      ≡ (if cell.place == place then with_texts texts (shown_cell are_ended (old cell.place) cell)
      else shown_cell are_ended (old cell.place) cell)
  put-one cell = elim (cases_Bool (cell.place == place)) [
    | inl here ↦ rw here (put-here cell (eqb-true cell.place place here))
    | inr other ↦ rw other (ap (λ patch. shown_cell are_ended patch cell)
        (put.others cell.place (λ is. eqb-false cell.place place other (sym is))))
  ]

  -- among all
  put-shown :
      (cells : List Cell)
      → shown_cells are_ended new cells
      ≡ texts_put place texts (shown_cells are_ended old cells)
  put-shown [] = refl
  put-shown (cell ∷ rest) =
      ap₂ (λ first later. first ∷ later) (put-one cell) (put-shown rest)

-- ---- The cells of added lines

-- one more behind them
added-more :
    (from : ℕ) (added : List (List (List ℕ))) (texts : List (List ℕ))
    → added_from from (added ++ texts ∷ [])
    ≡ added_from from added
    ++ record { place = from + length added; texts = texts; ended = true } ∷ []
added-more from [] texts =
    let same : from ≡ from + 0 = omega arith in
    ap (λ n. record { place = n; texts = texts; ended = true } ∷ []) same
added-more from (first ∷ rest) texts =
    let cell : Cell = record { place = from; texts = first; ended = true } in
    let same : (from + 1) + length rest ≡ from + length (first ∷ rest) = omega arith in
    ap (λ cells. cell ∷ cells)
    (added-more (from + 1) rest texts
    ∙ ap (λ n. added_from (from + 1) rest ++ record { place = n; texts = texts; ended = true } ∷ [])
    same)

-- each has an end
added-ended :
    (from : ℕ) (added : List (List (List ℕ)))
    → map ended_cell (added_from from added) ≡ added_from from added
added-ended from [] = refl
added-ended from (texts ∷ rest) =
    ap (λ cells. record { place = from; texts = texts; ended = true } ∷ cells)
    (added-ended (from + 1) rest)

-- what is found at a place
at-added :
    (from k place : ℕ) (added : List (List (List ℕ)))
    → place ≡ from + k
    → cell_at place (added_from from added)
    ≡ option_map (added_texts_cell place)
    (slice_get added k)
at-added from zero place [] is = refl
at-added from (suc k) place [] is = refl
at-added from zero place (texts ∷ rest) is =
    let here : from ≡ place = omega (arith, is) in
    rw (eq-eqb from place here)
    (ap (λ n. Some (record { place = n; texts = texts; ended = true })) here)
at-added from (suc k) place (texts ∷ rest) is =
    let apart : from ≡ place → ⊥ = λ same. omega (arith, is, same) in
    rw (ne_eqb from place apart) (at-added (from + 1) k place rest (omega (arith, is)))

-- texts that are put into the place of one
put-added :
    (from k place : ℕ) (texts : List (List ℕ)) (added : List (List (List ℕ)))
    → place ≡ from + k
    → added_from from (set added k texts) ≡ texts_put place texts (added_from from added)
put-added from zero place texts [] is = refl
put-added from (suc k) place texts [] is = refl
put-added from zero place texts (first ∷ rest) is =
    let here : from ≡ place = omega (arith, is) in
    let cell : Cell = record { place = from; texts = texts; ended = true } in
    rw (eq-eqb from place here)
    (ap (λ cells. cell ∷ cells)
    (sym (put-elsewhere place texts (added_from (from + 1) rest)
    (before-elsewhere place (from + 1) (added_from (from + 1) rest) (omega (arith, is))
    (added-ascend (from + 1) rest)))))
put-added from (suc k) place texts (first ∷ rest) is =
    let apart : from ≡ place → ⊥ = λ same. omega (arith, is, same) in
    let cell : Cell = record { place = from; texts = first; ended = true } in
    rw (ne_eqb from place apart)
    (ap (λ cells. cell ∷ cells) (put-added (from + 1) k place texts rest (omega (arith, is))))

-- ---- All cells

-- what is found at a place of the first cells
at-front :
    (place : ℕ) (front back : List Cell)
    → cell_at place back ≡ None
    → cell_at place (front ++ back) ≡ cell_at place front
at-front place [] back none = none
at-front place (cell ∷ front) back none =
    ap (cond (cell.place == place) (Some cell)) (at-front place front back none)

-- and of the last ones
pub at-back :
    (place : ℕ) (front back : List Cell)
    → AreElsewhere place front
    → cell_at place (front ++ back) ≡ cell_at place back
at-back place [] back elsewhere = refl
at-back place (cell ∷ front) back elsewhere =
    rw (ne_eqb cell.place place elsewhere.0) (at-back place front back elsewhere.1)

-- those of a file with these bytes
module _ (text : List ℕ) where
  -- the lines of the file
  abbrev lines : List Cell
  lines = cells_from 0 (lines_of text)

  -- their places are in front of its end
  lines-inside : AreBelow (length text) lines
  lines-inside =
      let are = lines_of-are text in
      let end : 0 + length (file_bytes (lines_of text)) ≡ length text =
      omega (arith, ap length are.joined) in
      subst (λ n. AreBelow n lines) end (lines-below 0 (lines_of text) are.ended)

  -- at first they are its lines
  pub kept-first :
      (none : Patches)
      → ((place : ℕ) → none place ≡ None)
      → cells_kept text false none [] ≡ lines
  kept-first none is =
      append-nil (shown_cells false none lines) ∙ shown-first none is lines

  -- and their bytes are the file's
  pub kept-bytes : file_bytes (lines_now lines) ≡ text
  kept-bytes = ap file_bytes (lines-stand 0 (lines_of text)) ∙ (lines_of-are text).joined

  module _ (are_ended : Bool) (patches : Patches) (added : List (List (List ℕ))) where
    -- at the first place all are left
    pub kept-left :
        cells_left 0 (lines_of text) are_ended patches added
        ≡ cells_kept text are_ended patches added
    kept-left =
        let size : 0 + length (file_bytes (lines_of text)) ≡ length text =
        omega (arith, ap length (lines_of-are text).joined) in
        ap (λ n. shown_cells are_ended patches lines ++ added_from n added) size

    -- their places go up
    pub kept-ascend : Ascend 0 (cells_kept text are_ended patches added)
    kept-ascend =
        ascend-append 0 (length text) (shown_cells are_ended patches lines)
        (added_from (length text) added) (omega arith)
        (shown-ascend are_ended patches 0 lines (lines-ascend 0 (lines_of text)
        (lines_of-are text).ended))
        (shown-below are_ended patches (length text) lines lines-inside)
        (added-ascend (length text) added)

    -- in front of the next one's
    pub kept-below : AreBelow (length text + length added) (cells_kept text are_ended patches added)
    kept-below =
        below-append (length text) (length text + length added)
        (shown_cells are_ended patches lines) (added_from (length text) added) (omega arith)
        (shown-below are_ended patches (length text) lines lines-inside)
        (added-below (length text) added)

    -- with one more
    pub kept-added :
        (line : List ℕ)
        → cells_kept text true patches (added ++ (line ∷ []) ∷ [])
        ≡ text_added (length text + length added) line (cells_kept text are_ended patches added)
    kept-added line =
        let shown = shown_cells are_ended patches lines in
        let behind = added_from (length text) added in
        let last : Cell = record {
          place = length text + length added;
          texts = line ∷ [];
          ended = true;
        } in
        ap₂ (λ front back. front ++ back) (shown-ended are_ended patches lines)
        (added-more (length text) added (line ∷ [])
        ∙ ap (λ cells. cells ++ last ∷ []) (sym (added-ended (length text) added)))
        ∙ sym (append_assoc (map ended_cell shown) (map ended_cell behind) (last ∷ []))
        ∙ ap (λ cells. cells ++ last ∷ []) (sym (map-append ended_cell shown behind))

    module _ (place : ℕ) where
      -- texts put into the place of a line
      pub kept-put :
          (texts : List (List ℕ)) (new : Patches)
          → place < length text
          → IsPut place texts patches new
          → cells_kept text are_ended new added
          ≡ texts_put place texts (cells_kept text are_ended patches added)
      kept-put texts new inside put =
          let behind = added_from (length text) added in
          let shown = shown_cells are_ended patches lines in
          ap₂ (λ front back. front ++ back)
          (put-shown are_ended place texts patches new put lines)
          (sym (put-elsewhere place texts behind
          (before-elsewhere place (length text) behind inside (added-ascend (length text) added))))
          ∙ sym (map-append
          (λ cell. if cell.place == place then with_texts texts cell else cell) shown behind)

      -- and into that of an added one
      pub kept-put_added :
          (texts : List (List ℕ)) (k : ℕ)
          → place ≡ length text + k
          → cells_kept text are_ended patches (set added k texts)
          ≡ texts_put place texts (cells_kept text are_ended patches added)
      kept-put_added texts k is =
          let behind = added_from (length text) added in
          let shown = shown_cells are_ended patches lines in
          ap₂ (λ front back. front ++ back)
          (sym (put-elsewhere place texts shown
          (behind-elsewhere place (length text) shown (omega (arith, is))
          (shown-below are_ended patches (length text) lines lines-inside))))
          (put-added (length text) k place texts added is)
          ∙ sym (map-append
          (λ cell. if cell.place == place then with_texts texts cell else cell) shown behind)

      -- what is found at the place of a line
      pub kept-at_line :
          place < length text
          → cell_at place (cells_kept text are_ended patches added)
          ≡ option_map (λ cell. shown_cell are_ended (patches cell.place) cell)
          (cell_at place lines)
      kept-at_line inside =
          let behind = added_from (length text) added in
          at-front place (shown_cells are_ended patches lines) behind
          (none-elsewhere place behind
          (before-elsewhere place (length text) behind inside (added-ascend (length text) added)))
          ∙ at-shown are_ended patches place lines

      -- and at that of an added one
      pub kept-at_added :
          (k : ℕ)
          → place ≡ length text + k
          → cell_at place (cells_kept text are_ended patches added)
          ≡ option_map (added_texts_cell place)
          (slice_get added k)
      kept-at_added k is =
          let shown = shown_cells are_ended patches lines in
          at-back place shown (added_from (length text) added)
          (behind-elsewhere place (length text) shown (omega (arith, is))
          (shown-below are_ended patches (length text) lines lines-inside))
          ∙ at-added (length text) k place added is
