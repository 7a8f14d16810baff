-- A text in pieces, as a staging file is written: by one write of the first piece, and one append
-- for each further one. A place counts the pieces in front of it, from 0.
use Rattle.std.specs.Prelude.{◌≡◌, ℕ, ◌*◌, ◌≤◌, List, length, take, drop, map, All}
use Rattle.std.specs.Int.{div_ceil}
use Rattle.std.specs.List.{concat, range_with_len}
use Rattle.acct_text.specs.Bytes.{Bytes}

-- the most bytes of a piece: 64 KiB
abbrev pub piece_limit : ℕ
piece_limit = 65536

-- the piece at this place of a text that is cut at each 65,536 bytes; empty past its end
abbrev pub piece_at : ℕ → Bytes → Bytes
piece_at place text = take piece_limit (drop (place * piece_limit) text)

-- how many pieces a text has; an empty one has none
abbrev pub piece_count : Bytes → ℕ
piece_count text = div_ceil (length text) piece_limit

-- the pieces of a text, in order
abbrev pub pieces_of : Bytes → List Bytes
pieces_of text = map (λ place. piece_at place text) (range_with_len 0 (piece_count text))

-- the bytes of the first pieces of a text, so many
abbrev pub first_pieces : ℕ → Bytes → Bytes
first_pieces count text = take (count * piece_limit) text

-- No piece has more than 65,536 bytes. One behind the other they are the text, and so many of them
-- are its first bytes: all of it once none is left.
pub record PiecesJoin : Type 0 where
  pub small : (text : Bytes) → All (λ piece. length piece ≤ piece_limit) (pieces_of text)
  pub whole : (text : Bytes) → concat (pieces_of text) ≡ text
  pub front : (text : Bytes) (count : ℕ) →
      concat (take count (pieces_of text)) ≡ first_pieces count text
  pub all : (text : Bytes) (count : ℕ) → piece_count text ≤ count → first_pieces count text ≡ text
