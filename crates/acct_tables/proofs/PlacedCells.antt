-- Claim: the cells of a file's lines have places that go up (`lines-ascend`), all in front of the
-- file's end (`lines-below`), and so have those of added lines behind it (`added-ascend`); what goes
-- up from a place on goes up (`ascend-placed`). Where no cell is at a place (`before-elsewhere`,
-- `behind-elsewhere`) nothing is found (`none-elsewhere`) and nothing changes (`put-elsewhere`). Way: each line has
-- a byte (`line-counted`).
use Rattle.std.proofs.Common.{◌≡◌, ◌≢◌, ◌∙◌, ℕ, ◌+◌, ◌<◌, ◌≤◌, Bool, true, false, List, [], ◌∷◌, ◌++◌, length, refl, sym, ap, subst, arith}
use Rattle.std.specs.Prelude.{⊤, All, None}
use Rattle.std.specs.List.{AllByRecursion}
use Rattle.std.proofs.lemmas.Bool.{ne_eqb}
use Rattle.std.proofs.lemmas.List.{length-append}
use Rattle.std.proofs.lemmas.List.Elements.{All-cons, All-nil}
use Rattle.std.proofs.lemmas.List.Kept.{AllPairs-cons}
use Rattle.acct_text.specs.Lines.{AreEnded, Line, file_bytes, line_bytes}
use Rattle.acct_tables.specs.declared.cell.Cell.{Cell}
use Rattle.acct_tables.specs.Cells.{ArePlaced, cell_at, cells_from, lines_now, texts_put}
use Rattle.acct_tables.specs.Kept.{added_from}

-- the places go up from this one on
abbrev pub Ascend : ℕ → List Cell → Type 0
Ascend from [] = ⊤
Ascend from (cell ∷ rest) = (from ≤ cell.place) × Ascend (cell.place + 1) rest

-- they are all in front of this one
abbrev pub AreBelow : ℕ → List Cell → Type 0
AreBelow end cells = AllByRecursion (λ cell. cell.place < end) cells

-- none is at this one
abbrev pub AreElsewhere : ℕ → List Cell → Type 0
AreElsewhere place cells = AllByRecursion (λ cell. cell.place ≢ place) cells

-- ---- Places that go up

-- they go up from an earlier one on too
pub ascend-lower :
    (from to : ℕ) (cells : List Cell) → from ≤ to → Ascend to cells → Ascend from cells
ascend-lower from to [] low ascend = tt
ascend-lower from to (cell ∷ rest) low ascend = (omega (arith, ascend.0), ascend.1)

-- and those of cells behind others that are in front of them
pub ascend-append :
    (from mid : ℕ) (front back : List Cell)
    → from ≤ mid
    → Ascend from front
    → AreBelow mid front
    → Ascend mid back
    → Ascend from (front ++ back)
ascend-append from mid [] back low ascend below later = ascend-lower from mid back low later
ascend-append from mid (cell ∷ front) back low ascend below later = (
  ascend.0,
  ascend-append (cell.place + 1) mid front back (omega (arith, below.0)) ascend.1 below.1 later,
)

-- all are in front of what is behind the second of two parts
pub below-append :
    (mid end : ℕ) (front back : List Cell)
    → mid ≤ end
    → AreBelow mid front
    → AreBelow end back
    → AreBelow end (front ++ back)
below-append mid end [] back low below later = later
below-append mid end (cell ∷ front) back low below later =
    (omega (arith, below.0), below-append mid end front back low below.1 later)

-- none is at a place in front of them
pub before-elsewhere :
    (place from : ℕ) (cells : List Cell)
    → place < from
    → Ascend from cells
    → AreElsewhere place cells
before-elsewhere place from [] before ascend = tt
before-elsewhere place from (cell ∷ rest) before ascend = (
  λ is. omega (arith, is, ascend.0),
  before-elsewhere place (cell.place + 1) rest (omega (arith, ascend.0)) ascend.1,
)

-- nor at one behind them
pub behind-elsewhere :
    (place end : ℕ) (cells : List Cell)
    → end ≤ place
    → AreBelow end cells
    → AreElsewhere place cells
behind-elsewhere place end [] behind below = tt
behind-elsewhere place end (cell ∷ rest) behind below = (
  λ is. omega (arith, is, below.0),
  behind-elsewhere place end rest behind below.1,
)

-- so nothing is found there
pub none-elsewhere :
    (place : ℕ) (cells : List Cell) → AreElsewhere place cells → cell_at place cells ≡ None
none-elsewhere place [] elsewhere = refl
none-elsewhere place (cell ∷ rest) elsewhere =
    rw (ne_eqb cell.place place elsewhere.0) (none-elsewhere place rest elsewhere.1)

-- and putting texts there changes nothing
pub put-elsewhere :
    (place : ℕ) (texts : List (List ℕ)) (cells : List Cell)
    → AreElsewhere place cells
    → texts_put place texts cells ≡ cells
put-elsewhere place texts [] elsewhere = refl
put-elsewhere place texts (cell ∷ rest) elsewhere =
    rw (ne_eqb cell.place place elsewhere.0)
    (ap (λ cells. cell ∷ cells) (put-elsewhere place texts rest elsewhere.1))

-- each is at the first or behind it
ascend-all :
    (from : ℕ) (cells : List Cell) → Ascend from cells → All (λ cell. from ≤ cell.place) cells
ascend-all from [] ascend = All-nil (λ cell. from ≤ cell.place)
ascend-all from (cell ∷ rest) ascend =
    All-cons (λ cell. from ≤ cell.place) cell rest ascend.0
    (ascend-all from rest
    (ascend-lower from (cell.place + 1) rest (omega (arith, ascend.0)) ascend.1))

-- so they go up
pub ascend-placed : (from : ℕ) (cells : List Cell) → Ascend from cells → ArePlaced cells
ascend-placed from [] ascend = λ i j d first last. absurd (omega arith)
ascend-placed from (cell ∷ rest) ascend =
    AllPairs-cons (λ (earlier later : Cell). earlier.place < later.place) cell rest
    (λ k d inside. omega (arith, ascend-all (cell.place + 1) rest ascend.1 k d inside))
    (ascend-placed (cell.place + 1) rest ascend.1)

-- ---- The lines of a file

-- a line has a byte, by whether it has an end
byte-counted :
    (line : Line) (ended : Bool)
    → line.ended ≡ ended
    → (line.ended ≡ false → 0 < length line.text)
    → 0 < length (line_bytes line)
byte-counted line true is some = rw is (omega (arith, length-append {A = ℕ}))
byte-counted line false is some =
    rw is (omega (arith, some is, length-append line.text []))

-- each line of a file has one
pub line-counted :
    (line : Line) (rest : List Line) → AreEnded (line ∷ rest) → 0 < length (line_bytes line)
line-counted line [] ended = byte-counted line line.ended refl ended
line-counted line (next ∷ rest) ended =
    byte-counted line true ended.0 (λ unended. let both : true ≡ false = sym ended.0 ∙ unended in
    absurd cc)

-- the lines behind the first are ended as well
pub ended-rest : (line : Line) (rest : List Line) → AreEnded (line ∷ rest) → AreEnded rest
ended-rest line [] ended = tt
ended-rest line (next ∷ rest) ended = ended.1

-- their places go up
pub lines-ascend :
    (from : ℕ) (lines : List Line) → AreEnded lines → Ascend from (cells_from from lines)
lines-ascend from [] ended = tt
lines-ascend from (line ∷ rest) ended =
    let next = from + length (line_bytes line) in (
      omega arith,
      ascend-lower (from + 1) next (cells_from next rest)
          (omega (arith, line-counted line rest ended))
          (lines-ascend next rest (ended-rest line rest ended)),
    )

-- and are all in front of the end
pub lines-below :
    (from : ℕ) (lines : List Line)
    → AreEnded lines
    → AreBelow (from + length (file_bytes lines)) (cells_from from lines)
lines-below from [] ended = tt
lines-below from (line ∷ rest) ended =
    let next = from + length (line_bytes line) in
    let end : next + length (file_bytes rest) ≡ from + length (file_bytes (line ∷ rest)) =
    omega (arith, length-append (line_bytes line) (file_bytes rest)) in (
      omega (arith, end, line-counted line rest ended),
      subst (λ n. AreBelow n (cells_from next rest)) end
          (lines-below next rest (ended-rest line rest ended)),
    )

-- they are the lines that stand there
pub lines-stand : (from : ℕ) (lines : List Line) → lines_now (cells_from from lines) ≡ lines
lines-stand from [] = refl
lines-stand from (line ∷ rest) =
    ap (λ lines. line ∷ lines) (lines-stand (from + length (line_bytes line)) rest)

-- the lines of two parts
pub cells-append :
    (from : ℕ) (front back : List Line)
    → cells_from from (front ++ back)
    ≡ cells_from from front ++ cells_from (from + length (file_bytes front)) back
cells-append from [] back =
    let same : from ≡ from + 0 = omega arith in ap (λ n. cells_from n back) same
cells-append from (line ∷ front) back =
    let next = from + length (line_bytes line) in
    let end : next + length (file_bytes front) ≡ from + length (file_bytes (line ∷ front)) =
    omega (arith, length-append (line_bytes line) (file_bytes front)) in
    let cell : Cell = record { place = from; texts = line.text ∷ []; ended = line.ended } in
    ap (λ cells. cell ∷ cells)
    (cells-append next front back
    ∙ ap (λ n. cells_from next front ++ cells_from n back) end)

-- ---- Added lines

-- their places go up
pub added-ascend :
    (from : ℕ) (added : List (List (List ℕ))) → Ascend from (added_from from added)
added-ascend from [] = tt
added-ascend from (texts ∷ rest) = (omega arith, added-ascend (from + 1) rest)

-- all of them in front of the next
pub added-below :
    (from : ℕ) (added : List (List (List ℕ)))
    → AreBelow (from + length added) (added_from from added)
added-below from [] = tt
added-below from (texts ∷ rest) =
    let end : (from + 1) + length rest ≡ from + length (texts ∷ rest) = omega arith in (
      omega arith,
      subst (λ n. AreBelow n (added_from (from + 1) rest)) end (added-below (from + 1) rest),
    )
