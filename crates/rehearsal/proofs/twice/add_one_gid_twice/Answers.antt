use Rattle.rehearsal.proofs.TwiceLemmas.{second-refused}
use Rattle.rehearsal.proofs.twice.add_one_gid_twice.Goals as goal

pub returns : goal.returns
returns c = second-refused _ _ _ c.in_ok-folder.ensures c.in_ok-first.first c.in_ok-second.second
    c.in_ok-first.ensures.step c.in_ok-second.ensures.step
