use Rattle.std.proofs.Common.{refl}
use Rattle.subid_ranges.proofs.TellLemmas.{no-runs, runs-take}
use Rattle.subid_ranges.proofs.taken.Taken.of.Goals as goal

pub gather-requires : goal.gather-requires
gather-requires c = no-runs c.new.result.items c.new.ensures.items

pub of-requires : goal.of-requires
of-requires c = (c.in_ok-ranges.ensures {u = tt}).ordered

pub returns : goal.returns
returns c = runs-take _ _ _ (c.in_ok-ranges.ensures {u = tt}) (c.in_ok-of.ensures {u = tt}) refl
