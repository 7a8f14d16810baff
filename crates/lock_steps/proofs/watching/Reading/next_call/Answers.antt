use Rattle.std.proofs.Common.{◌∙◌, refl, sym, ap, subst, length}
use Rattle.lock_steps.specs.Gathered.{AreUnread}
use Rattle.lock_steps.specs.Watching.{Gatherer}
use Rattle.lock_steps.proofs.NextLemmas.{some-left}
use Rattle.lock_steps.proofs.WatchingLemmas.{next-confirm, next-gathering}
use Rattle.lock_steps.proofs.watching.Reading.next_call.Goals as goal

pub returns-then-left-eq0 : goal.returns-then-left-eq0
returns-then-left-eq0 c =
    next-confirm c.args.self.now (sym c.left.ensures ∙ c.if-left-eq0.true)

pub returns-else-left-eq0 : goal.returns-else-left-eq0
returns-else-left-eq0 c =
    let left = ap (λ (reading : Gatherer). reading.left) c.self.view_is in
    let unread = subst (λ (reading : Gatherer). AreUnread reading.gathered.large reading.left)
    c.self.view_is c.self.invariant in
    next-gathering c.args.self.now c.args.self.now.left refl unread
    (some-left c.left.result (length c.args.self.now.left) c.left.ensures c.if-left-eq0.false)
    c.index.result.now (rw left at c.index.ensures)
