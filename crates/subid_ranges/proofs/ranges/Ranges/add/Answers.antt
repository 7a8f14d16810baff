use Rattle.std.proofs.Common.{sym}
use Rattle.subid_ranges.proofs.PlacedRanges.{meeting-none}
use Rattle.subid_ranges.proofs.ranges.Ranges.add.Goals as goal

pub returns-clause-apart : goal.returns-clause-apart
returns-clause-apart c =
    meeting-none c.args.first c.args.last c.args.self.now (sym c.in_default.ensures)
