use Rattle.std.proofs.Common.{◌++◌, [], take, get_or, sym, ap, ◌∙◌, append_assoc, arith}
use Rattle.std.proofs.lemmas.List.{take_more}
use Rattle.acct_text.specs.declared.pieces.Piece.TheVariants.{Text}
use Rattle.acct_text.specs.Texts.{piece_bytes, text_of}
use Rattle.acct_text.proofs.PieceTexts.{text_of-more}
use Rattle.acct_text.proofs.bytes.Bytes.push_pieces.Goals as goal

-- the next piece goes behind the pieces so far
pub loop-piece-preserved : goal.loop-piece-preserved
loop-piece-preserved c =
    let pieces = c.args.pieces.now in
    let place = c.loop-piece.piece-index in
    let none = Text (record { ref_ptr = (0, 0); now = [] }) in
    let piece = get_or pieces place none in
    let before = take place pieces in
    let more = ap text_of (take_more pieces place none (omega arith)) ∙ text_of-more before piece in
    c.in_ok-push_piece.ensures
    ∙ ap (λ text. text ++ piece_bytes piece) c.loop-piece.invariant
    ∙ append_assoc c.args.self.now (text_of before) (piece_bytes piece)
    ∙ ap (λ text. c.args.self.now ++ text) (sym more)
