-- Claim: a file's text behind a newline is from a mark that stands nowhere in front (`from-newline`),
-- and so are no bytes of a text without the mark (`from-none`); a part of a text that ends in front of the first mark is without it
-- (`without-before`). Way: a line in front is a part of the text in front, so a mark in the line is
-- one in that text.
use Rattle.std.proofs.Common.{◌≡◌, ◌∙◌, ℕ, ◌+◌, ◌-◌, ◌<◌, ◌≤◌, true, List, [], ◌∷◌, ◌++◌, length, map, take, drop, sym, ap, subst, arith, lt_irrefl, append_assoc, append-nil}
use Rattle.std.specs.Prelude.{slice_index}
use Rattle.std.specs.List.{AllByRecursion, join_with_byte}
use Rattle.std.proofs.lemmas.Bool.{eqb-true}
use Rattle.std.proofs.lemmas.Grind.{common_steps}
use Rattle.std.proofs.lemmas.List.{drop_more, get_or-append-add, get_or_append_left, length-append, length-drop, length-take-le, take-append-drop, take_all}
use Rattle.memchr.specs.Find.{NoneAfter, NoneBefore, Nowhere, OccursAt, Passes, is_byte}
use Rattle.acct_text.specs.Bytes.{newline}
use Rattle.acct_text.specs.Lines.{Line, file_bytes, line_bytes, lines_of}
use Rattle.acct_text.specs.Pieces.{Lacks, cut_at}
use Rattle.acct_text.proofs.Cut.{cut_at-is}
use Rattle.acct_text.proofs.LinesLaws.{lines_of-are, lines_of-line}
use Rattle.acct_tables.specs.Marks.{HoldsMark, IsFromMark, IsWithout}

-- lines of these texts, each with an end
abbrev ended_lines : List (List ℕ) → List Line
ended_lines pieces = map (λ text. record { text = text; ended = true }) pieces

-- they are found in front of others
front-lines :
    (pieces : List (List ℕ)) (rest : List ℕ)
    → AllByRecursion (Lacks newline) pieces
    → 0 < length pieces
    → lines_of (join_with_byte newline pieces ++ newline ∷ rest)
    ≡ ended_lines pieces ++ lines_of rest
front-lines [] rest apart some = absurd (lt_irrefl 0 some)
front-lines (piece ∷ []) rest apart some = lines_of-line piece rest apart.0
front-lines (piece ∷ next ∷ more) rest apart some =
    let later = join_with_byte newline (next ∷ more) in
    let line : Line = record { text = piece; ended = true } in
    ap lines_of (append_assoc piece (newline ∷ later) (newline ∷ rest))
    ∙ lines_of-line piece (later ++ newline ∷ rest) apart.0
    ∙ ap (λ lines. line ∷ lines) (front-lines (next ∷ more) rest apart.1 (omega arith))

-- the lines of a text that is cut behind a newline
pub newline-cut :
    (front behind : List ℕ)
    → lines_of (front ++ newline ∷ behind) ≡ lines_of (front ++ newline ∷ []) ++ lines_of behind
newline-cut front behind =
    let pieces = cut_at newline front in
    let are = cut_at-is newline front in
    let found = λ (rest : List ℕ). ap (λ t. lines_of (t ++ newline ∷ rest)) (sym are.joined)
    ∙ front-lines pieces rest are.apart are.some in
    found behind
    ∙ ap (λ lines. lines ++ lines_of behind)
    (sym (found [] ∙ append-nil (ended_lines pieces)))

-- a text is cut at a newline of it
pub cut-there :
    (text : List ℕ) (end : ℕ)
    → end < length text
    → slice_index text end ≡ newline
    → text ≡ take end text ++ newline ∷ drop (end + 1) text
cut-there text end low at =
    sym (take-append-drop end text)
    ∙ ap (λ back. take end text ++ back) (drop_more text end 0 low)
    ∙ ap (λ byte. take end text ++ byte ∷ drop (end + 1) text) at

-- all that is behind a place
pub all-behind :
    (text : List ℕ) (place : ℕ) → take (length text - place) (drop place text) ≡ drop place text
all-behind text place =
    let left : length (drop place text) ≡ length text - place = length-drop place text in
    take_all (length text - place) (drop place text) (omega (arith, left))

module _ (mark : List ℕ) where
  -- a text has what its front has
  pub holds-front : (text more : List ℕ) → HoldsMark mark text → HoldsMark mark (text ++ more)
  holds-front text more holds = record {
    before = holds.before;
    behind = holds.behind ++ more;
    is = ap (λ t. t ++ more) holds.is
        ∙ append_assoc holds.before (mark ++ holds.behind) more
        ∙ ap (λ t. holds.before ++ t) (append_assoc mark holds.behind more);
  }

  -- and what its back has
  pub holds-back : (more text : List ℕ) → HoldsMark mark text → HoldsMark mark (more ++ text)
  holds-back more text holds = record {
    before = more ++ holds.before;
    behind = holds.behind;
    is = ap (λ t. more ++ t) holds.is
        ∙ sym (append_assoc more holds.before (mark ++ holds.behind));
  }

  -- the lines of a text without the mark
  lines-without :
      (lines : List Line)
      → IsWithout mark (file_bytes lines)
      → AllByRecursion (λ line. IsWithout mark line.text) lines
  lines-without [] without = tt
  lines-without (line ∷ rest) without = (
    λ holds. without (holds-front (line_bytes line) (file_bytes rest)
        (holds-front line.text _ holds)),
    lines-without rest (λ holds. without (holds-back (line_bytes line) (file_bytes rest) holds)),
  )

  -- the pieces of a text without the mark
  pieces-without :
      (pieces : List (List ℕ))
      → IsWithout mark (join_with_byte newline pieces)
      → AllByRecursion (λ line. IsWithout mark line.text) (ended_lines pieces)
  pieces-without [] without = tt
  pieces-without (piece ∷ []) without = (without, tt)
  pieces-without (piece ∷ next ∷ more) without =
      let later = join_with_byte newline (next ∷ more) in (
        λ holds. without (holds-front piece (newline ∷ later) holds),
        pieces-without (next ∷ more) (λ holds. without
            (holds-back piece (newline ∷ later) (holds-back (newline ∷ []) later holds))),
      )

  -- behind a newline
  pub from-newline :
      (front rest : List ℕ)
      → IsWithout mark front
      → IsFromMark mark (front ++ newline ∷ rest) rest
  from-newline front rest without =
      let pieces = cut_at newline front in
      let are = cut_at-is newline front in
      record {
        front = ended_lines pieces;
        joined = ap (λ t. lines_of (t ++ newline ∷ rest)) (sym are.joined)
            ∙ front-lines pieces rest are.apart are.some;
        without = pieces-without pieces
            (λ holds. without (subst (HoldsMark mark) are.joined holds));
      }

  -- nothing is left of a text without the mark
  pub from-none : (text : List ℕ) → IsWithout mark text → IsFromMark mark text []
  from-none text without = record {
    front = lines_of text;
    joined = sym (append-nil (lines_of text));
    without = lines-without (lines_of text)
        (λ holds. without (subst (HoldsMark mark) (lines_of-are text).joined holds));
  }

  -- the mark is found where it stands
  occurs :
      (text before behind : List ℕ)
      → text ≡ before ++ (mark ++ behind)
      → OccursAt text mark (length before)
  occurs text before behind is = record {
    fits = (let size : length text ≡ length before + (length mark + length behind) =
        ap length is ∙ length-append before (mark ++ behind)
        ∙ ap (λ n. length before + n) (length-append mark behind) in
        omega (arith, size));
    reads = λ j inside. ap (λ t. slice_index t (length before + j)) is
        ∙ get_or-append-add before (mark ++ behind) j 0
        ∙ get_or_append_left mark behind 0 j inside;
  }

  -- a part that ends in front of the first mark
  pub without-before :
      (text front more : List ℕ) (place : ℕ)
      → text ≡ front ++ more
      → length front < place + length mark
      → Nowhere (OccursAt text mark) 0 place
      → IsWithout mark front
  unfolding holds-front
  without-before text front more place is short nowhere = λ holds.
      let size : length front ≡ length holds.before + length (mark ++ holds.behind) =
      ap length holds.is ∙ length-append holds.before (mark ++ holds.behind) in
      let inside = length-append mark holds.behind in
      nowhere (length holds.before) (omega arith) (omega (arith, size, inside, short))
      (occurs text holds.before (holds.behind ++ more) (is ∙ (holds-front front more holds).is))

  -- behind the last newline in front of the first mark
  pub from-line :
      (text : List ℕ) (place end : ℕ)
      → NoneBefore (OccursAt text mark) 0 (length text + 1) place × OccursAt text mark place
      → NoneAfter (Passes (is_byte newline) (take place text)) 0 (length (take place text)) end
      × Passes (is_byte newline) (take place text) end
      → IsFromMark mark text (take (length text - (end + 1)) (drop (end + 1) text))
  from-line text place end first last =
      let rest = drop (end + 1) text in
      let fits : place ≤ length text = omega (arith, first.1.fits) in
      let short : length (take place text) ≡ place = length-take-le place text fits in
      let inside : end < place = omega (arith, short, last.0.high) in
      let low : end < length text = omega arith in
      let size : length (take end text) ≡ end = length-take-le end text (omega arith) in
      let at : slice_index text end ≡ newline =
      let seen : slice_index (take place text) end
      ≡ slice_index text end = grind (arith, common_steps) in
      sym seen ∙ eqb-true (slice_index (take place text) end) newline last.1 in
      let whole = cut-there text end low at in
      let without = without-before text (take end text) (newline ∷ rest) place whole
      (omega (arith, size)) first.0.before in
      subst (IsFromMark mark text) (sym (all-behind text (end + 1)))
      (subst (λ t. IsFromMark mark t rest) (sym whole) (from-newline (take end text) rest without))
