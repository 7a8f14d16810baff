-- A text that is made of pieces, one behind the other.
use Rattle.std.specs.Prelude.{List, [], ◌∷◌, ◌++◌, decimal}
use Rattle.acct_text.specs.declared.pieces.Piece.{Piece}
use Rattle.acct_text.specs.declared.pieces.Piece.TheVariants.{Text, Number}
use Rattle.acct_text.specs.Bytes.{Bytes}

-- the bytes of a piece: those of a text, or a number in decimal
abbrev pub piece_bytes : Piece → Bytes
piece_bytes (Text text) = text.now
piece_bytes (Number number) = decimal number

-- the bytes of all pieces
abbrev pub text_of : List Piece → Bytes
text_of [] = []
text_of (last ∷ []) = piece_bytes last
text_of (piece ∷ next ∷ rest) = piece_bytes piece ++ text_of (next ∷ rest)
