use Rattle.acct_lines.specs.Shown.{subid_shown}
use Rattle.subid_ranges.proofs.TellLemmas.{taken-more}
use Rattle.subid_ranges.proofs.taken.TakenGathered.note.Goals as goal

pub returns : goal.returns
returns c = λ ranges takes.
    taken-more ranges (subid_shown c.args.range.now) c.end_of.result c.args.self.now
    c.settle.new.self c.put.new.self takes c.end_of.ensures c.in_ok-settle.ensures.same
    c.put.ensures
