use Rattle.std.proofs.Common.{arith}
use Rattle.acct_text.specs.Lines.{file_bytes}
use Rattle.acct_tables.proofs.FrontLines.{both-lengths, front-marked, marked-joined}
use Rattle.acct_tables.proofs.marks.front_of.Goals as goal

pub slice_bounds-result-count : goal.slice_bounds-result-count
slice_bounds-result-count c =
    let text = c.args.text.now in
    let from = c.from_mark-rest.ensures in
    let rest = c.from_mark-rest.result.now in
    let size = both-lengths (file_bytes from.front) rest text
    (marked-joined text c.args.mark.now rest from) in
    omega (arith, size)

pub returns : goal.returns
returns c =
    front-marked c.args.text.now c.args.mark.now c.from_mark-rest.result.now
    c.from_mark-rest.ensures
