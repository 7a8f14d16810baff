use Rattle.std.proofs.Common.{◌∙◌, sym, ap, Some, arith}
use Rattle.intent_file.proofs.PieceLemmas.{pieces-length, pieces-get}
use Rattle.intent_file.proofs.intent.piece_or_rest.Goals as goal

pub returns-then-place-count-clause-piece : goal.returns-then-place-count-clause-piece
returns-then-place-count-clause-piece c =
    let count = c.piece_count-count.ensures in
    let within = c.if-place-count.true in
    pieces-get c.args.text.now c.args.place (omega (arith, count, within))
    ∙ ap Some (sym c.piece_at.ensures)

pub returns-else-place-count-clause-rest : goal.returns-else-place-count-clause-rest
returns-else-place-count-clause-rest c =
    let count = c.piece_count-count.ensures in
    let past = c.if-place-count.false in
    let size = pieces-length c.args.text.now in
    omega (arith, count, past, size)
