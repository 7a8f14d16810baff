use Rattle.std.proofs.Common.{◌∙◌, ap}
use Rattle.acct_text.specs.Lines.{lines_of}
use Rattle.account_model.specs.FreeRange.{free_range}
use Rattle.subid_ranges.specs.RangeLines.{ranges_of}
use Rattle.subid_ranges.proofs.LeastStart.{least-free}
use Rattle.subid_ranges.proofs.ranges.Ranges.free_gap.Goals as goal

pub returns : goal.returns
returns c =
    let min = c.args.min
    in let max = c.args.max
    in let count = c.args.count
    in least-free (lines_of c.self.inside.text) c.self.inside.taken c.self.invariant min max count
    c.requires.some c.free_gap.result c.free_gap.ensures
    ∙ ap (λ lines. free_range min max count (ranges_of lines)) c.self.view_is
