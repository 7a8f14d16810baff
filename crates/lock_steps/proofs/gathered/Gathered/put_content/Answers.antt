use Rattle.lock_steps.proofs.GatheredLemmas.{small-with}
use Rattle.lock_steps.proofs.gathered.Gathered.put_content.Goals as goal

pub invariant_of-self : goal.invariant_of-self
invariant_of-self c = rw c.put.ensures
    (small-with c.in-Table.table c.args.content c.self.inside.files c.self.inside.defs
    c.self.invariant
    c.requires)
