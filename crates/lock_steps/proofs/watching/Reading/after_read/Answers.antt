use Rattle.std.proofs.Common.{sym, ap, length}
use Rattle.acct_outside.specs.Contract.{found_of}
use Rattle.lock_steps.specs.Gathered.{Gathered}
use Rattle.lock_steps.specs.Watching.{Gatherer}
use Rattle.lock_steps.proofs.GatheredLemmas.{first-read}
use Rattle.lock_steps.proofs.watching.Reading.after_read.Goals as goal

pub invariant_of-result : goal.invariant_of-result
invariant_of-result c =
    let left = c.self.inside.left.items in
    let some = rw (sym (ap (λ (reading : Gatherer). length reading.left) c.self.view_is))
    at c.requires.left in
    rw (
      ap (λ (gathered : Gathered). gathered.large) c.in_ok-put.ensures.kept,
      c.pop_front.ensures.rest,
    )
    (first-read c.self.inside.gathered.large left c.index.result.now (found_of c.in_ok-found.found)
    some c.index.ensures c.self.invariant)
