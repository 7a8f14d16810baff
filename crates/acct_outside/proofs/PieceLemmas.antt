-- Claim: the pieces of a text are small, and join to it (`pieces-join`). Way: so many first pieces are
-- the first bytes, as each piece goes on where those before it end (`first_pieces-step`); all of them
-- have at least as many bytes as the text (`first_pieces-all`).
use Rattle.std.proofs.Common.{◌≡◌, inl, inr, ◌++◌, ◌∙◌, ℕ, zero, suc, ◌+◌, ◌-◌, ◌*◌, ◌≤◌, min, [], ◌∷◌, length, take, drop, map, sym, ap, ap₂, refl, arith, append-nil, length-take}
use Rattle.std.proofs.Math.Seq.{take-add}
use Rattle.std.proofs.lemmas.List.{take_all, take_rest, take_min, drop_min}
use Rattle.std.proofs.lemmas.List.FromFn.{take-map-range_with_len, map-range_with_len_more, length-map-range_with_len}
use Rattle.std.proofs.lemmas.List.Folds.{concat-append}
use Rattle.std.proofs.lemmas.List.Elements.{All-map}
use Rattle.std.proofs.lemmas.Bool.{cases_lt}
use Rattle.std.proofs.lemmas.Grind.{div_ceil_times}
use Rattle.std.specs.List.{All, concat, range_with_len}
use Rattle.acct_text.specs.Bytes.{Bytes}
use Rattle.acct_outside.specs.Pieces.{PiecesJoin, piece_limit, piece_at, piece_count, pieces_of, first_pieces}

-- one piece more
pub first_pieces-step : (count : ℕ) (text : Bytes)
    → first_pieces (count + 1) text ≡ first_pieces count text ++ piece_at count text
first_pieces-step count text =
    ap (λ (size : ℕ). take size text) (times-step count)
    ∙ take-add (count * piece_limit) piece_limit text
  where
    times-step : (count : ℕ) → (count + 1) * piece_limit ≡ count * piece_limit + piece_limit
    times-step count = omega arith

-- no piece is too large
pub piece_at-small : (text : Bytes) (place : ℕ) → length (piece_at place text) ≤ piece_limit
piece_at-small text place =
    omega (arith, length-take piece_limit (drop (place * piece_limit) text))

-- as many pieces as the text has are all of it
pub first_pieces-all : (text : Bytes) (count : ℕ) → piece_count text ≤ count
    → first_pieces count text ≡ text
first_pieces-all text count enough =
    let bounds = div_ceil_times (length text) piece_limit (omega arith) in
    let long : length text ≤ piece_count text * piece_limit = bounds.0 in
    take_all (count * piece_limit) text (grind arith)

-- the part of a text from where the piece begins, or from the end if that comes first, cut at the
-- most bytes of a piece
pub piece_at-part : (text : Bytes) (place start size most : ℕ) → length text ≤ most
    → start ≡ min (min (place * piece_limit) most) (length text)
    → size ≡ min (length (take (length text - start) (drop start text))) piece_limit
    → take size (take (length text - start) (drop start text)) ≡ piece_at place text
piece_at-part text place start size most fits start_is size_is =
    let begins : start ≡ min (place * piece_limit) (length text) = omega (arith, start_is, fits) in
    let rest : take (length text - start) (drop start text) ≡ drop start text =
    take_rest text start in
    let behind : drop start text ≡ drop (place * piece_limit) text =
    ap (λ (n : ℕ). drop n text) begins ∙ drop_min (place * piece_limit) text in
    let sized : size ≡ min piece_limit (length (drop start text)) =
    omega (arith, size_is, ap length rest) in
    ap (take size) rest
    ∙ (ap (λ (n : ℕ). take n (drop start text)) sized
    ∙ (take_min piece_limit (drop start text) ∙ ap (take piece_limit) behind))

-- so many of the pieces that are cut, also past the end, join to the first bytes
joined : (text : Bytes) (count : ℕ)
    → concat (map (λ place. piece_at place text) (range_with_len 0 count))
    ≡ first_pieces count text
joined text zero = refl
joined text (suc count) =
    let piece : ℕ → Bytes = λ place. piece_at place text in
    let more : map piece (range_with_len 0 (count + 1))
    ≡ map piece (range_with_len 0 count) ++ piece count ∷ [] =
    map-range_with_len_more piece 0 count count (omega arith) in
    let one : concat (piece count ∷ []) ≡ piece count = append-nil (piece count) in
    ap concat (ap (λ n. map piece (range_with_len 0 n)) (suc-is count) ∙ more)
    ∙ (concat-append (map piece (range_with_len 0 count)) (piece count ∷ [])
    ∙ (ap₂ (λ (xs ys : Bytes). xs ++ ys) (joined text count) one
    ∙ (sym (first_pieces-step count text)
    ∙ ap (λ n. first_pieces n text) (sym (suc-is count)))))
  where
    suc-is : (n : ℕ) → suc n ≡ n + 1
    suc-is n = omega arith

-- no piece is too large
small : (text : Bytes) → All (λ piece. length piece ≤ piece_limit) (pieces_of text)
small text =
    All-map (λ piece. length piece ≤ piece_limit) (λ place. piece_at place text)
    (range_with_len 0 (piece_count text))
    (λ place other within. piece_at-small text _)

-- all pieces join to the text
whole : (text : Bytes) → concat (pieces_of text) ≡ text
whole text = joined text (piece_count text) ∙ first_pieces-all text (piece_count text) (omega arith)

-- the first pieces of the list join to the first bytes
front : (text : Bytes) (count : ℕ)
    → concat (take count (pieces_of text)) ≡ first_pieces count text
front text count = elim (cases_lt (piece_count text) count) [
  | inl below ↦
      ap concat (take_all count (pieces_of text)
      (omega (
        arith,
        below,
        length-map-range_with_len (λ place. piece_at place text) 0
            (piece_count text),
      )))
      ∙ (whole text ∙ sym (first_pieces-all text count (omega (arith, below))))
  | inr within ↦
      ap concat (take-map-range_with_len (λ place. piece_at place text) 0 (piece_count text) count
      within)
      ∙ joined text count
]

-- the claim
pub pieces-join : PiecesJoin
pieces-join = record {
  small = small;
  whole = whole;
  front = front;
  all = first_pieces-all;
}
