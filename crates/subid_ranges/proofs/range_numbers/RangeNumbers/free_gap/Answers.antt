use Rattle.subid_ranges.proofs.LeastStart.{least-free}
use Rattle.subid_ranges.proofs.range_numbers.RangeNumbers.free_gap.Goals as goal

pub returns : goal.returns
returns c = λ lines are.
    least-free lines c.args.self.now.taken are.taken c.args.min c.args.max c.args.count c.requires
    c.free_gap.result c.free_gap.ensures
