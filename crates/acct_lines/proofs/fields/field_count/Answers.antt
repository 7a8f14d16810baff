use Rattle.acct_text.specs.Bytes.{colon}
use Rattle.acct_lines.proofs.Counted.{pieces-counted}
use Rattle.acct_lines.proofs.fields.field_count.Goals as goal

pub returns : goal.returns
returns c =
    pieces-counted colon c.args.line.now c.count.result c.memchr_iter.result
    c.count.ensures c.memchr_iter.ensures.value
