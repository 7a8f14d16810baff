-- Claims: the cells of a table stay kept where texts are put into a place of which the index tells
-- (`kept-put`), where a line is added (`kept-added`), and where the index tells more (`kept-noted`);
-- what stands in a place is sound and told of (`kept-found`). To put what a change makes of the texts in
-- a place is to change there (`put-changes`, `stays-changes`, `none-changes`). Way: cell by cell.
use Rattle.std.proofs.Common.{◌≡◌, ◌∙◌, ℕ, ◌+◌, ◌<◌, ◌≤◌, Bool, true, false, List, [], ◌∷◌, ◌++◌, length, map, get_or, refl, sym, ap, subst, inl, inr, arith, append_assoc}
use Rattle.std.specs.Prelude.{◌==◌, ◌||◌, All, flat_map, nat_le, Option, None, Some, if◌then◌else◌}
use Rattle.std.specs.List.{AllByRecursion}
use Rattle.std.proofs.ByRecursion.{All-append, All-weaker}
use Rattle.std.proofs.lemmas.Bool.{cases_eq, eq-eqb, leb-false, ne_eqb, or_parts}
use Rattle.std.proofs.lemmas.List.{get_or-map, length-map, map-append}
use Rattle.std.proofs.lemmas.List.Quantifiers.{all_pairs_push}
use Rattle.acct_text.specs.Bytes.{newline}
use Rattle.acct_text.specs.Lines.{Line, line_bytes, lines_of}
use Rattle.acct_text.proofs.LinesLaws.{lines_of-are}
use Rattle.acct_text.specs.Pieces.{Lacks}
use Rattle.account_model.specs.Edits.{as_ended, with_line}
use Rattle.account_model.specs.Format.{Format}
use Rattle.acct_tables.specs.Cells.{ArePlaced, cell_at, cell_lines, cells_from, ended_cell, lines_now, text_added, texts_put, with_texts}
use Rattle.acct_tables.specs.declared.cell.Cell.{Cell}
use Rattle.acct_tables.specs.KeyPlaces.{Widens}
use Rattle.table.specs.Changed.{changed_cell, changed_there, texts_becoming}
use Rattle.table.specs.TableCells.{AreKept, HoldsIn, HoldsOf, HoldsThere, IsSound, IsKeyed}
use Rattle.table.proofs.ChangedTexts.{line_with}
use Rattle.table.proofs.PlaceLemmas.{pairs-first, pairs-others, used-apart, used-itself}

-- ---- Cells

-- cells whose places stay are in their order still
placed-map :
    (made : Cell → Cell) (cells : List Cell)
    → ((cell : Cell) → (made cell).place ≡ cell.place)
    → ArePlaced cells
    → ArePlaced (map made cells)
placed-map made cells same placed = λ i j d before inside.
    let behind : j < length cells = omega (arith, length-map cells made, inside) in
    let ahead : i < length cells = omega (arith, behind, before) in
    omega (
      arith,
      placed i j d before behind,
      ap (λ (cell : Cell). cell.place) (get_or-map made cells i d d ahead),
      ap (λ (cell : Cell). cell.place) (get_or-map made cells j d d behind),
      same (get_or cells i d),
      same (get_or cells j d),
    )

-- a cell that is found has its place
pub found-place :
    (place : ℕ) (cells : List Cell) (cell : Cell)
    → cell_at place cells ≡ Some cell
    → cell.place ≡ place
found-place place [] cell found = absurd cc
found-place place (first ∷ cells) cell found = elim (cases_eq first.place place) [
  | inl same ↦
      let here : cell_at place (first ∷ cells) ≡ Some first =
      rw (eq-eqb first.place place same) refl in
      let is : first ≡ cell = cc in
      ap (λ (cell : Cell). cell.place) (sym is) ∙ same
  | inr apart ↦
      let later : cell_at place (first ∷ cells) ≡ cell_at place cells =
      rw (ne_eqb first.place place apart) refl in
      found-place place cells cell (sym later ∙ found)
]

-- what holds of all cells holds of one that is found
found-holds :
    (P : Cell → Type 0) (place : ℕ) (cells : List Cell) (cell : Cell)
    → AllByRecursion P cells
    → cell_at place cells ≡ Some cell
    → P cell
found-holds P place [] cell holds found = absurd cc
found-holds P place (first ∷ cells) cell holds found = elim (cases_eq first.place place) [
  | inl same ↦
      let here : cell_at place (first ∷ cells) ≡ Some first =
      rw (eq-eqb first.place place same) refl in
      let is : first ≡ cell = cc in
      subst P is holds.0
  | inr apart ↦
      let later : cell_at place (first ∷ cells) ≡ cell_at place cells =
      rw (ne_eqb first.place place apart) refl in
      found-holds P place cells cell holds.1 (sym later ∙ found)
]

-- ---- What stands in one place

-- nothing is put elsewhere
pub elsewhere-put :
    (place : ℕ) (texts : List (List ℕ)) (cells : List Cell)
    → AllByRecursion (λ cell. place < cell.place) cells
    → texts_put place texts cells ≡ cells
elsewhere-put place texts [] behind = refl
elsewhere-put place texts (cell ∷ cells) behind =
    rw (ne_eqb cell.place place (λ same. omega (arith, behind.0, same)))
    (ap (λ cells. cell ∷ cells) (elsewhere-put place texts cells behind.1))

module _ {R : Type 0} (format : Format R) (f : R → List R) where
  -- nor changed
  elsewhere-changed :
      (place : ℕ) (cells : List Cell)
      → AllByRecursion (λ cell. place < cell.place) cells
      → changed_there format f (place ∷ []) cells ≡ cells
  elsewhere-changed place [] behind = refl
  elsewhere-changed place (cell ∷ cells) behind =
      rw (used-apart place cell.place [] (λ same. omega (arith, behind.0, same)))
      (ap (λ cells. cell ∷ cells) (elsewhere-changed place cells behind.1))

  -- where nothing stands in the place nothing changes
  pub none-changes :
      (place : ℕ) (cells : List Cell)
      → cell_at place cells ≡ None
      → changed_there format f (place ∷ []) cells ≡ cells
  none-changes place [] none = refl
  none-changes place (cell ∷ cells) none = elim (cases_eq cell.place place) [
    | inl same ↦
        let here : cell_at place (cell ∷ cells) ≡ Some cell =
        rw (eq-eqb cell.place place same) refl in
        absurd cc
    | inr apart ↦
        let later : cell_at place (cell ∷ cells) ≡ cell_at place cells =
        rw (ne_eqb cell.place place apart) refl in
        rw (used-apart place cell.place [] (λ is. apart (sym is)))
        (ap (λ cells. cell ∷ cells) (none-changes place cells (sym later ∙ none)))
  ]

  -- what is put there is what the texts there become
  pub put-changes :
      (place : ℕ) (cells : List Cell) (cell : Cell)
      → ArePlaced cells
      → cell_at place cells ≡ Some cell
      → texts_put place (flat_map (texts_becoming format f) cell.texts) cells
      ≡ changed_there format f (place ∷ []) cells
  put-changes place [] cell placed found = refl
  put-changes place (first ∷ cells) cell placed found =
      let ahead = pairs-first (λ earlier later. earlier.place < later.place) first cells placed in
      let others = pairs-others (λ earlier later. earlier.place < later.place) first cells placed in
      let texts = flat_map (texts_becoming format f) cell.texts in
      elim (cases_eq first.place place) [
        | inl same ↦
            let here : cell_at place (first ∷ cells) ≡ Some first =
            rw (eq-eqb first.place place same) refl in
            let is : cell ≡ first = cc in
            let behind = All-weaker (λ cell. first.place < cell.place) (λ cell. place < cell.place)
            (λ cell below. omega (arith, below, same)) cells ahead in
            rw (eq-eqb first.place place same, used-itself place first.place [] (sym same))
            (ap (λ cells. with_texts texts first ∷ cells) (elsewhere-put place texts cells behind)
            ∙ ap (λ (found : Cell).
            with_texts (flat_map (texts_becoming format f) found.texts) first ∷ cells) is
            ∙ ap (λ cells. changed_cell format f first ∷ cells)
            (sym (elsewhere-changed place cells behind)))
        | inr apart ↦
            let later : cell_at place (first ∷ cells) ≡ cell_at place cells =
            rw (ne_eqb first.place place apart) refl in
            rw (
              ne_eqb first.place place apart,
              used-apart place first.place [] (λ is. apart (sym is)),
            )
            (ap (λ cells. first ∷ cells)
            (put-changes place cells cell others (sym later ∙ found)))
      ]

  -- texts that are left stay
  texts-left :
      (texts : List (List ℕ))
      → AllByRecursion (λ text. texts_becoming format f text ≡ text ∷ []) texts
      → flat_map (texts_becoming format f) texts ≡ texts
  texts-left [] left = refl
  texts-left (text ∷ texts) left =
      ap (λ made. made ++ flat_map (texts_becoming format f) texts) left.0
      ∙ ap (λ made. text ∷ made) (texts-left texts left.1)

-- the end of texts that stay
pub sound-end :
    (ended : Bool) (texts : List (List ℕ))
    → (ended ≡ false → length texts ≤ 1)
    → (ended || nat_le 2 (length texts)) ≡ ended
sound-end true texts sound = refl
sound-end false [] sound = refl
sound-end false (text ∷ []) sound = refl
sound-end false (text ∷ next ∷ texts) sound = absurd (omega (arith, sound refl))

module _ {R : Type 0} (format : Format R) (f : R → List R) where
  -- a cell whose texts are left stays
  cell-stays :
      (cell : Cell)
      → IsSound cell
      → AllByRecursion (λ text. texts_becoming format f text ≡ text ∷ []) cell.texts
      → changed_cell format f cell ≡ cell
  cell-stays cell sound left =
      ap (λ texts. with_texts texts cell) (texts-left format f cell.texts left)
      ∙ ap (λ ended. record cell { ended = ended }) (sound-end cell.ended cell.texts sound.ended)

  -- where the texts in the place are left nothing changes
  pub stays-changes :
      (place : ℕ) (cells : List Cell) (cell : Cell)
      → ArePlaced cells
      → AllByRecursion IsSound cells
      → cell_at place cells ≡ Some cell
      → AllByRecursion (λ text. texts_becoming format f text ≡ text ∷ []) cell.texts
      → changed_there format f (place ∷ []) cells ≡ cells
  stays-changes place [] cell placed sound found left = refl
  stays-changes place (first ∷ cells) cell placed sound found left =
      let ahead = pairs-first (λ earlier later. earlier.place < later.place) first cells placed in
      let others = pairs-others (λ earlier later. earlier.place < later.place) first cells placed in
      elim (cases_eq first.place place) [
        | inl same ↦
            let here : cell_at place (first ∷ cells) ≡ Some first =
            rw (eq-eqb first.place place same) refl in
            let is : cell ≡ first = cc in
            let behind = All-weaker (λ cell. first.place < cell.place) (λ cell. place < cell.place)
            (λ cell below. omega (arith, below, same)) cells ahead in
            rw (used-itself place first.place [] (sym same))
            (ap (λ cells. changed_cell format f first ∷ cells)
            (elsewhere-changed format f place cells behind)
            ∙ ap (λ first. first ∷ cells) (cell-stays first sound.0
            (subst (λ (cell : Cell).
            AllByRecursion (λ text. texts_becoming format f text ≡ text ∷ []) cell.texts) is left)))
        | inr apart ↦
            let later : cell_at place (first ∷ cells) ≡ cell_at place cells =
            rw (ne_eqb first.place place apart) refl in
            rw (used-apart place first.place [] (λ is. apart (sym is)))
            (ap (λ cells. first ∷ cells)
            (stays-changes place cells cell others sound.1 (sym later ∙ found) left))
      ]

-- ---- Cells that are kept

module _ {R : Type 0} (format : Format R) (keys_of : R → List ℕ) where
  -- texts of which the index told are told of
  pub texts-noted :
      (before after : ℕ → Option (List ℕ)) (place : ℕ) (texts : List (List ℕ))
      → Widens before after
      → AllByRecursion (HoldsOf format (IsKeyed keys_of before place)) texts
      → AllByRecursion (HoldsOf format (IsKeyed keys_of after place)) texts
  texts-noted before after place texts widens told =
      All-weaker (HoldsOf format (IsKeyed keys_of before place))
      (HoldsOf format (IsKeyed keys_of after place))
      (λ text old r reads key has. widens key place (old r reads key has)) texts told

  -- where the index tells no less the cells are kept
  pub kept-noted :
      (before after : ℕ → Option (List ℕ)) (cells : List Cell)
      → Widens before after
      → AreKept format keys_of before cells
      → AreKept format keys_of after cells
  kept-noted before after cells widens kept = record {
    sound = kept.sound;
    placed = kept.placed;
    told_of = All-weaker (λ cell. HoldsIn format (IsKeyed keys_of before cell.place) cell)
        (λ cell. HoldsIn format (IsKeyed keys_of after cell.place) cell)
        (λ cell old. texts-noted before after cell.place cell.texts widens old) cells kept.told_of;
  }

  module _ (told : ℕ → Option (List ℕ)) where
    -- what stands in a place is sound
    pub found-sound :
        (place : ℕ) (cells : List Cell) (cell : Cell)
        → AreKept format keys_of told cells
        → cell_at place cells ≡ Some cell
        → IsSound cell
    found-sound place cells cell kept found =
        found-holds IsSound place cells cell kept.sound found

    -- and told of
    pub found-told :
        (place : ℕ) (cells : List Cell) (cell : Cell)
        → AreKept format keys_of told cells
        → cell_at place cells ≡ Some cell
        → HoldsIn format (IsKeyed keys_of told place) cell
    found-told place cells cell kept found =
        subst (λ place. HoldsIn format (IsKeyed keys_of told place) cell)
        (found-place place cells cell found)
        (found-holds (λ cell. HoldsIn format (IsKeyed keys_of told cell.place) cell) place cells
        cell
        kept.told_of found)

    -- several texts have an end each
    put-end :
        (ended : Bool) (count : ℕ) → (ended || nat_le 2 count) ≡ false → count ≤ 1
    put-end ended count none =
        omega (arith, leb-false 2 count (or_parts ended (nat_le 2 count) none).1)

    module _ (place : ℕ) (texts : List (List ℕ)) (one_line : AllByRecursion (Lacks newline) texts)
        (here : AllByRecursion (HoldsOf format (IsKeyed keys_of told place)) texts) where
      -- texts are put into sound cells
      put-sound :
          (cells : List Cell)
          → AllByRecursion IsSound cells
          → AllByRecursion IsSound (texts_put place texts cells)
      put-sound [] sound = tt
      put-sound (cell ∷ cells) sound = (by (cell.place == place), put-sound cells sound.1)
        where
          by : (is_here : Bool) → IsSound (if is_here then with_texts texts cell else cell)
          by true =
              record { one_line = one_line; ended = λ none. put-end cell.ended (length texts) none }
          by false = sound.0

      -- of which the index tells
      put-told :
          (cells : List Cell)
          → HoldsThere format (IsKeyed keys_of told) cells
          → HoldsThere format (IsKeyed keys_of told) (texts_put place texts cells)
      put-told [] old = tt
      put-told (cell ∷ cells) old = (
        elim (cases_eq cell.place place) [
          | inl same ↦
              rw (eq-eqb cell.place place same)
              (subst (λ place. AllByRecursion (HoldsOf format (IsKeyed keys_of told place)) texts)
              (sym same) here)
          | inr apart ↦ rw (ne_eqb cell.place place apart) old.0
        ],
        put-told cells old.1,
      )

      -- so the cells are kept
      pub kept-put :
          (cells : List Cell)
          → AreKept format keys_of told cells
          → AreKept format keys_of told (texts_put place texts cells)
      kept-put cells kept = record {
        sound = put-sound cells kept.sound;
        placed = placed-map (λ cell. if cell.place == place then with_texts texts cell else cell)
            cells (λ cell. same-place cell (cell.place == place)) kept.placed;
        told_of = put-told cells kept.told_of;
      }
        where
          same-place :
              (cell : Cell) (is_here : Bool)
              → (if is_here then with_texts texts cell else cell).place ≡ cell.place
          same-place cell true = refl
          same-place cell false = refl

    -- ---- A line more

    -- cells with an end are sound
    ended-sound :
        (cells : List Cell)
        → AllByRecursion IsSound cells
        → AllByRecursion IsSound (map ended_cell cells)
    ended-sound [] sound = tt
    ended-sound (cell ∷ cells) sound = (
      record { one_line = sound.0.one_line; ended = λ none. absurd cc },
      ended-sound cells sound.1,
    )

    -- and told of
    ended-told :
        (cells : List Cell)
        → HoldsThere format (IsKeyed keys_of told) cells
        → HoldsThere format (IsKeyed keys_of told) (map ended_cell cells)
    ended-told [] old = tt
    ended-told (cell ∷ cells) old = (old.0, ended-told cells old.1)

    -- the cells with one more, of which the index tells, are kept
    pub kept-added :
        (place : ℕ) (text : List ℕ) (cells : List Cell)
        → Lacks newline text
        → HoldsOf format (IsKeyed keys_of told place) text
        → All (λ cell. cell.place < place) cells
        → AreKept format keys_of told cells
        → AreKept format keys_of told (text_added place text cells)
    kept-added place text cells one_line here behind kept =
        let last : Cell = record { place = place; texts = text ∷ []; ended = true } in
        record {
          sound = All-append IsSound (map ended_cell cells) (last ∷ [])
              (ended-sound cells kept.sound)
              (record { one_line = (one_line, tt); ended = λ none. absurd cc }, tt);
          placed = all_pairs_push (λ earlier later. earlier.place < later.place)
              (map ended_cell cells) last
              (placed-map ended_cell cells (λ cell. refl) kept.placed)
              (λ k d inside.
              let ahead : k < length cells = omega (arith, length-map cells ended_cell, inside) in
              omega (
                arith,
                behind k d ahead,
                ap (λ (cell : Cell). cell.place) (get_or-map ended_cell cells k d d ahead),
              ));
          told_of = All-append (λ cell. HoldsIn format (IsKeyed keys_of told cell.place) cell)
              (map ended_cell cells) (last ∷ []) (ended-told cells kept.told_of) ((here, tt), tt);
        }

-- ---- The lines of added cells

-- each line has an end
ended-texts :
    (ended : Bool) (texts : List (List ℕ))
    → map (line_with true) texts ≡ map as_ended (map (line_with ended) texts)
ended-texts ended [] = refl
ended-texts ended (text ∷ texts) =
    ap (λ lines. line_with true text ∷ lines) (ended-texts ended texts)

ended-lines :
    (cells : List Cell) → lines_now (map ended_cell cells) ≡ map as_ended (lines_now cells)
ended-lines [] = refl
ended-lines (cell ∷ cells) =
    ap (λ lines. lines ++ lines_now (map ended_cell cells)) (ended-texts cell.ended cell.texts)
    ∙ ap (λ lines. map as_ended (cell_lines cell) ++ lines) (ended-lines cells)
    ∙ sym (map-append as_ended (cell_lines cell) (lines_now cells))

-- the lines of cells of two parts
lines-append :
    (front back : List Cell) → lines_now (front ++ back) ≡ lines_now front ++ lines_now back
lines-append [] back = refl
lines-append (cell ∷ front) back =
    ap (λ lines. cell_lines cell ++ lines) (lines-append front back)
    ∙ sym (append_assoc (cell_lines cell) (lines_now front) (lines_now back))

-- an added text is a line more
pub added-line :
    (place : ℕ) (text : List ℕ) (cells : List Cell)
    → lines_now (text_added place text cells) ≡ with_line text (lines_now cells)
added-line place text cells =
    lines-append (map ended_cell cells)
    (record { place = place; texts = text ∷ []; ended = true } ∷ [])
    ∙ ap (λ lines. lines ++ line_with true text ∷ []) (ended-lines cells)

-- ---- The cells of a file

-- those of its lines are sound
start-sound-from :
    (place : ℕ) (lines : List Line)
    → AllByRecursion (λ line. Lacks newline line.text) lines
    → AllByRecursion IsSound (cells_from place lines)
start-sound-from place [] apart = tt
start-sound-from place (line ∷ lines) apart = (
  record { one_line = (apart.0, tt); ended = λ none. omega arith },
  start-sound-from (place + length (line_bytes line)) lines apart.1,
)

pub start-sound : (text : List ℕ) → AllByRecursion IsSound (cells_from 0 (lines_of text))
start-sound text = start-sound-from 0 (lines_of text) (lines_of-are text).apart

-- and stand for them
pub start-lines :
    (place : ℕ) (lines : List Line) → lines_now (cells_from place lines) ≡ lines
start-lines place [] = refl
start-lines place (line ∷ lines) =
    ap (λ lines. line ∷ lines) (start-lines (place + length (line_bytes line)) lines)
