use Rattle.std.proofs.Common.{◌∙◌, ap, arith}
use Rattle.acct_outside.specs.Folder.{greatest}
use Rattle.lock_steps.proofs.NumberLemmas.{greatest-bound}
use Rattle.lock_steps.proofs.judging.Looking.after_listing.Goals as goal

pub invariant_of-result : goal.invariant_of-result
invariant_of-result c =
    let most = greatest-bound c.in_ok-numbers.numbers.items
    (rw c.in_ok-numbers.was at c.requires) in
    let is = c.greatest_of-greatest.ensures ∙ ap greatest c.deref.ensures.value in
    omega (arith, c.if-greatest-eq-GREATEST_LOCK.false)
