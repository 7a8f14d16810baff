use Rattle.std.proofs.Common.{[]}
use Rattle.acct_tables.specs.Marks.{marks_in}
use Rattle.acct_tables.proofs.FrontLines.{from-front, from-start, front-narrowed}
use Rattle.acct_tables.proofs.marks.from_marks.Goals as goal

pub chunks-init : goal.chunks-init
chunks-init c = from-start c.args.text.now (marks_in c.args.marks)

pub chunks-preserved : goal.chunks-preserved
chunks-preserved c =
    let marks = marks_in c.args.marks in
    let left = c.chunks.left.now in
    from-front marks left c.args.text.now c.front_without-front.result.now c.chunks.invariant
    (front-narrowed [] left marks c.chunk_of-chunk.result.now c.front_without-front.result.now
    c.chunk_of-chunk.ensures.front c.front_without-front.ensures)

pub returns-then-front-chunk : goal.returns-then-front-chunk
returns-then-front-chunk c =
    let marks = marks_in c.args.marks in
    let left = c.chunks.left.now in
    from-front marks left c.args.text.now c.front_without-front.result.now c.chunks.invariant
    (front-narrowed [] left marks c.chunk_of-chunk.result.now c.front_without-front.result.now
    c.chunk_of-chunk.ensures.front c.front_without-front.ensures)
