use Rattle.std.proofs.Common.{◌∙◌, sym}
use Rattle.subid_ranges.specs.RangeLines.{ranges_of}
use Rattle.subid_ranges.proofs.LeastStart.{found-least, found-held}
use Rattle.subid_ranges.proofs.ranges.Ranges.allot.Goals as goal

pub append-requires : goal.append-requires
append-requires c =
    found-held c.args.owner.now c.args.min c.args.max c.args.count (ranges_of c.args.self.now)
    c.in-Some.start c.requires.named c.requires.some c.requires.small (sym c.free_gap.ensures ∙ c.in-Some.is)

pub returns-clause-least : goal.returns-clause-least
returns-clause-least c =
    found-least c.args.min c.args.max c.args.count (ranges_of c.args.self.now) c.in-Some.start
    c.requires.some (sym c.free_gap.ensures ∙ c.in-Some.is)
