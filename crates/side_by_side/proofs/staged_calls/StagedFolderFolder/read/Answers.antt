use Rattle.acct_outside.specs.Contract.{ReadsFolder}
use Rattle.side_by_side.proofs.StagedCalls.{breaks-off, calls-next, in-memory, reads-part, reads-told, want-read}
use Rattle.side_by_side.proofs.staged_calls.StagedFolderFolder.read.Goals as goal

pub returns-in_err-play_next-clause-call : goal.returns-in_err-play_next-clause-call
returns-in_err-play_next-clause-call g c = want-read c.self.view_is (c.play_next.ensures.played _)
    c.note.new.self.entries c.args.by.now c.args.name c.args.limit c.note.ensures
    c.from_residual.result c.from_residual.ensures

pub invariant_of-self-2 : goal.invariant_of-self-2
invariant_of-self-2 g c = reads-part c.self.view_is
    (c.play_next.ensures.played _) c.read-answer.new.self
    c.args.by.now c.args.name c.args.limit c.read-answer.result c.read-answer.ensures.told
    c.requires.acts

pub returns-clause-call : goal.returns-clause-call
returns-clause-call g c = reads-told c.self.view_is (c.play_next.ensures.played _)
    c.read-answer.new.self
    c.settle.new.journal.entries c.args.by.now c.args.name c.args.limit c.read-answer.result
    c.read-answer.ensures.told c.read-answer.ensures.faults (c.settle.ensures _ _ c.note.ensures)

pub returns-in_err-play_next-clause-next : goal.returns-in_err-play_next-clause-next
returns-in_err-play_next-clause-next g c = breaks-off c.self.view_is (c.play_next.ensures.played _)
    c.note.new.self.entries
    (λ before now. ReadsFolder before now c.args.by.now
    c.args.name c.args.limit c.from_residual.result)
    c.from_residual.result c.from_residual.ensures

pub returns-clause-next : goal.returns-clause-next
returns-clause-next g c = calls-next c.self.view_is (c.play_next.ensures.played _)
    c.read-answer.new.self
    c.settle.new.journal.entries
    c.in_ok-play_next.ensures.whole
    (λ before now. ReadsFolder before now c.args.by.now
    c.args.name c.args.limit c.read-answer.result) c.read-answer.result
    (in-memory c.play_next.new.folder c.read-answer.new.self _ c.read-answer.ensures.told
    c.read-answer.result
    c.read-answer.ensures.faults _ c.read-answer.ensures.noted)
