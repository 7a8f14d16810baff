use Rattle.acct_outside.specs.Calls.{lists}
use Rattle.acct_outside.specs.Contract.{ListsLocks, locks_result}
use Rattle.side_by_side.proofs.StagedCalls.{breaks-off, calls-next, calls-part, in-memory, lists-told, want-listed}
use Rattle.side_by_side.proofs.staged_calls.StagedFolderFolder.locks.Goals as goal

pub returns-in_err-play_next-clause-call : goal.returns-in_err-play_next-clause-call
returns-in_err-play_next-clause-call g c = want-listed c.self.view_is (c.play_next.ensures.played _)
    c.note.new.self.entries c.args.by.now c.note.ensures c.from_residual.result
    c.from_residual.ensures

pub invariant_of-self-2 : goal.invariant_of-self-2
invariant_of-self-2 g c = calls-part c.self.view_is
    (c.play_next.ensures.played _) c.locks-answer.new.self
    c.args.by.now lists (locks_result c.locks-answer.result) c.locks-answer.ensures.told c.requires

pub returns-clause-call : goal.returns-clause-call
returns-clause-call g c = lists-told c.self.view_is (c.play_next.ensures.played _)
    c.locks-answer.new.self
    c.settle_listing.new.journal.entries c.args.by.now c.locks-answer.result
    c.locks-answer.ensures.told
    c.locks-answer.ensures.faults (c.settle_listing.ensures _ c.note.ensures)

pub returns-in_err-play_next-clause-next : goal.returns-in_err-play_next-clause-next
returns-in_err-play_next-clause-next g c = breaks-off c.self.view_is (c.play_next.ensures.played _)
    c.note.new.self.entries
    (λ before now. ListsLocks before now c.args.by.now c.from_residual.result)
    c.from_residual.result c.from_residual.ensures

pub returns-clause-next : goal.returns-clause-next
returns-clause-next g c = calls-next c.self.view_is (c.play_next.ensures.played _)
    c.locks-answer.new.self
    c.settle_listing.new.journal.entries
    c.in_ok-play_next.ensures.whole
    (λ before now. ListsLocks before now c.args.by.now c.locks-answer.result) c.locks-answer.result
    (in-memory c.play_next.new.folder c.locks-answer.new.self _ c.locks-answer.ensures.told
    c.locks-answer.result
    c.locks-answer.ensures.faults _ c.locks-answer.ensures.noted)
