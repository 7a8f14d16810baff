use Rattle.acct_outside.specs.Calls.{renames}
use Rattle.side_by_side.proofs.StagedCalls.{call-made, call-wanted, calls-part}
use Rattle.side_by_side.proofs.staged_calls.StagedFolderFolder.rename.Goals as goal

pub returns-in_err-play_next : goal.returns-in_err-play_next
returns-in_err-play_next g c = call-wanted c.self.view_is (c.play_next.ensures.played _) _ _
    (renames c.args.from c.args.to) c.note.ensures _ c.from_residual.ensures

pub invariant_of-self-2 : goal.invariant_of-self-2
invariant_of-self-2 g c = calls-part c.self.view_is (c.play_next.ensures.played _)
    c.rename-answer.new.self _ (renames c.args.from c.args.to) _
    c.rename-answer.ensures.told c.requires.acts

pub returns : goal.returns
returns g c = call-made c.self.view_is (c.play_next.ensures.played _) _ _
    c.in_ok-play_next.ensures.whole _ (renames c.args.from c.args.to) _
    c.rename-answer.ensures.told c.rename-answer.ensures.faults
    (c.settle.ensures _ _ c.note.ensures) c.rename-answer.ensures.noted
