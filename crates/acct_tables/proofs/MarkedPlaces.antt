-- Claims: places of marked lines, which go up, have all lines with a mark (`marked-all`). Those of the
-- lines behind others without marks are those of all (`marked-behind`), and so are those of the lines
-- behind one with the place of that one in front (`marked-here`). Way: line by line from a place on.
use Rattle.std.proofs.Common.{◌≡◌, ◌∙◌, ℕ, ◌+◌, ◌<◌, ◌≤◌, true, false, List, [], ◌∷◌, ◌++◌, length, refl, sym, ap, subst, arith}
use Rattle.std.specs.Prelude.{◌==◌, ⊤, All, AllPairs}
use Rattle.std.specs.List.{AllByRecursion}
use Rattle.std.proofs.ByRecursion.{All-append, All-weaker}
use Rattle.std.proofs.lemmas.Bool.{eq-eqb, or_left, or_parts}
use Rattle.std.proofs.lemmas.Grind.{flat_map-append}
use Rattle.std.proofs.lemmas.List.{length-append}
use Rattle.std.proofs.lemmas.List.Elements.{All-cons, All-nil}
use Rattle.std.proofs.lemmas.List.Kept.{AllPairs-cons}
use Rattle.acct_text.specs.Lines.{AreEnded, Line, file_bytes, line_bytes, lines_of}
use Rattle.acct_text.proofs.LinesLaws.{lines_of-are}
use Rattle.account_model.specs.Ids.{is_used}
use Rattle.acct_tables.specs.Marks.{IsFromMarks, IsWithoutAll}
use Rattle.acct_tables.specs.Cells.{AreMarked, IsMarkless, cells_from}
use Rattle.acct_tables.proofs.PlacedCells.{cells-append, line-counted}

-- the places go up from this one on
abbrev pub GoUp : ℕ → List ℕ → Type 0
GoUp from [] = ⊤
GoUp from (place ∷ places) = (from ≤ place) × GoUp (place + 1) places

-- they go up from an earlier one on too
pub lower : (from to : ℕ) (places : List ℕ) → from ≤ to → GoUp to places → GoUp from places
lower from to [] low up = tt
lower from to (place ∷ places) low up = (omega (arith, up.0), up.1)

-- each is at the first or behind it
up-all : (from : ℕ) (places : List ℕ) → GoUp from places → All (λ place. from ≤ place) places
up-all from [] up = All-nil (λ place. from ≤ place)
up-all from (place ∷ places) up =
    All-cons (λ place. from ≤ place) place places up.0
    (up-all from places (lower from (place + 1) places (omega (arith, up.0)) up.1))

-- so they go up
up-pairs :
    (from : ℕ) (places : List ℕ) → GoUp from places
    → AllPairs (λ earlier later. earlier < later) places
up-pairs from [] up = λ i j d first last. absurd (omega arith)
up-pairs from (place ∷ places) up =
    AllPairs-cons (λ earlier later. earlier < later) place places
    (λ k d inside. omega (arith, up-all (place + 1) places up.1 k d inside))
    (up-pairs (place + 1) places up.1)

-- the bytes of a text are those of its first lines and of the others
pub behind-size :
    (front : List Line) (text rest : List ℕ)
    → lines_of text ≡ front ++ lines_of rest
    → length text ≡ length (file_bytes front) + length rest
behind-size front text rest joined =
    ap length (sym (lines_of-are text).joined
    ∙ ap file_bytes joined
    ∙ flat_map-append line_bytes front (lines_of rest)
    ∙ ap (λ tail. file_bytes front ++ tail) (lines_of-are rest).joined)
    ∙ length-append (file_bytes front) rest

module _ (marks : List (List ℕ)) where
  -- they have all lines with a mark, of which the first is at this place
  pub record AreFrom (from : ℕ) (lines : List Line) (places : List ℕ) : Type 0 where
    pub others : AllByRecursion (IsMarkless marks places) (cells_from from lines)
    pub up : GoUp from places

  -- lines without marks need no place
  without-others :
      (from : ℕ) (lines : List Line) (places : List ℕ)
      → AllByRecursion (λ line. IsWithoutAll marks line.text) lines
      → AllByRecursion (IsMarkless marks places) (cells_from from lines)
  without-others from [] places without = tt
  without-others from (line ∷ lines) places without = (
    λ unused. (without.0, tt),
    without-others (from + length (line_bytes line)) lines places without.1,
  )

  -- behind lines without marks
  pub marked-behind :
      (from here : ℕ) (text rest places : List ℕ)
      → here + length rest ≡ from + length text
      → IsFromMarks marks text rest
      → AreFrom here (lines_of rest) places
      → AreFrom from (lines_of text) places
  marked-behind from here text rest places same marked are =
      let front = marked.front in
      let size : length text ≡ length (file_bytes front) + length rest =
      behind-size front text rest marked.joined in
      let end : here ≡ from + length (file_bytes front) = omega (arith, size, same) in
      record {
        others = subst (λ lines. AllByRecursion (IsMarkless marks places) (cells_from from lines))
            (sym marked.joined)
            (subst (AllByRecursion (IsMarkless marks places))
            (sym (cells-append from front (lines_of rest)))
            (All-append (IsMarkless marks places) (cells_from from front)
            (cells_from (from + length (file_bytes front)) (lines_of rest))
            (without-others from front places marked.without)
            (subst (λ n. AllByRecursion (IsMarkless marks places)
            (cells_from n (lines_of rest))) end
            are.others)));
        up = lower from here places (omega (arith, end)) are.up;
      }

  -- behind a line
  pub marked-here :
      (from : ℕ) (line : Line) (rest : List Line) (places : List ℕ)
      → AreEnded (line ∷ rest)
      → AreFrom (from + length (line_bytes line)) rest places
      → AreFrom from (line ∷ rest) (from ∷ places)
  marked-here from line rest places ended are =
      let next = from + length (line_bytes line) in
      record {
        others = (
          λ unused. let both : true ≡ false =
              sym (or_left (from == from) (is_used places from) (eq-eqb from from refl)) ∙ unused in
              absurd cc,
          All-weaker (IsMarkless marks places) (IsMarkless marks (from ∷ places))
              (λ cell markless unused.
              markless (or_parts (from == cell.place) (is_used places cell.place) unused).1)
              (cells_from next rest) are.others,
        );
        up = (
          omega arith,
          lower (from + 1) next places
              (omega (arith, line-counted line rest ended)) are.up,
        );
      }

  -- of no lines there are none
  pub marked-none : (from : ℕ) → AreFrom from [] []
  marked-none from = record { others = tt; up = tt }

  -- those of all lines
  pub marked-all :
      (lines : List Line) (places : List ℕ)
      → AreFrom 0 lines places
      → AreMarked marks (cells_from 0 lines) places
  marked-all lines places are = record { others = are.others; ascending = up-pairs 0 places are.up }
