use Rattle.std.proofs.Common.{arith}
use Rattle.acct_outside.proofs.PieceLemmas.{piece_at-part}
use Rattle.acct_outside.proofs.pieces.piece_at.Goals as goal

pub returns : goal.returns
returns c =
    let multiple = c.saturating_mul.ensures in
    piece_at-part c.args.text.now c.args.place c.min-start.result c.min.result 18446744073709551615
    (omega arith) (omega (arith, multiple, c.min-start.ensures)) c.min.ensures
