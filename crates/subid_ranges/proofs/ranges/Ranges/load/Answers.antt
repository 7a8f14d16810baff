use Rattle.std.proofs.Common.{◌∙◌}
use Rattle.acct_text.proofs.LinesLaws.{lines_of-are}
use Rattle.subid_ranges.proofs.ranges.Ranges.load.Goals as goal

pub returns-clause-same_bytes : goal.returns-clause-same_bytes
returns-clause-same_bytes c = (lines_of-are c.in_ok-bytes.bytes).joined ∙ c.in_ok-bytes.ensures
