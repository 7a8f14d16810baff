use Rattle.acct_lines.specs.Shown.{subid_shown}
use Rattle.subid_ranges.proofs.TellLemmas.{runs-more}
use Rattle.subid_ranges.proofs.taken.VecRunGathered.note.Goals as goal

pub returns : goal.returns
returns c = λ ranges are.
    runs-more ranges (subid_shown c.args.range.now) c.end_of.result c.args.self.now.items
    c.push.new.self.items are c.requires.some c.end_of.ensures c.in_ok-push.ensures.items
