use Rattle.command_values.proofs.RangePieces.{id-small, range-cut, range-whole}
use Rattle.command_values.proofs.ranges.read_range.Goals as goal

pub returns : goal.returns
returns c =
    let cut = c.in_ok-cut.cut in
    let is = range-cut c.args.text.now cut.before.now cut.behind.now c.in_ok-cut.ensures.cut in
    cc (is, c.ids_from.ensures)

pub returns-in_err-cut : goal.returns-in_err-cut
returns-in_err-cut c =
    rw c.from_residual.ensures (range-whole c.args.text.now c.in_err-cut.ensures.cut)

pub ids_from-requires : goal.ids_from-requires
ids_from-requires c =
    id-small c.in_ok-cut.cut.behind.now c.read_id-2.result c.read_id-2.ensures
