-- Claim: one more piece adds its bytes to the text of those before it (`text_of-more`). Way: by the
-- number of pieces before it.
use Rattle.std.proofs.Common.{◌≡◌, List, [], ◌∷◌, ◌++◌, refl, sym, ◌∙◌, ap, append_assoc}
use Rattle.acct_text.specs.declared.pieces.Piece.{Piece}
use Rattle.acct_text.specs.Texts.{piece_bytes, text_of}

-- a piece behind others
pub text_of-more :
    (pieces : List Piece) (piece : Piece)
    → text_of (pieces ++ piece ∷ []) ≡ text_of pieces ++ piece_bytes piece
text_of-more [] piece = refl
text_of-more (first ∷ []) piece = refl
text_of-more (first ∷ next ∷ rest) piece =
    ap (λ later. piece_bytes first ++ later) (text_of-more (next ∷ rest) piece)
    ∙ sym (append_assoc (piece_bytes first) (text_of (next ∷ rest)) (piece_bytes piece))
