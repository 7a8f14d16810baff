use Rattle.std.proofs.Common.{rules, append_assoc}
use Rattle.check_reports.proofs.getsubids.push_range.Goals as goal

pub returns : goal.returns
returns c = search (rules, append_assoc)
