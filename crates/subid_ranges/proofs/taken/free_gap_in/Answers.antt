use Rattle.acct_text.specs.Lines.{lines_of}
use Rattle.subid_ranges.proofs.LeastStart.{least-free}
use Rattle.subid_ranges.proofs.taken.free_gap_in.Goals as goal

pub returns : goal.returns
returns c =
    least-free (lines_of c.args.text.now) c.in_ok-taken.taken (c.in_ok-taken.ensures {u = tt})
    c.args.min c.args.max c.args.count c.requires c.free_gap.result c.free_gap.ensures
