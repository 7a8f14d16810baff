use Rattle.acct_outside.specs.Calls.{creates}
use Rattle.side_by_side.proofs.StagedCalls.{call-made, call-wanted, calls-part}
use Rattle.side_by_side.proofs.staged_calls.StagedFolderFolder.create.Goals as goal

pub returns-in_err-play_next : goal.returns-in_err-play_next
returns-in_err-play_next g c = call-wanted c.self.view_is (c.play_next.ensures.played _) _ _
    (creates c.args.number) c.note.ensures _ c.from_residual.ensures

pub invariant_of-self-2 : goal.invariant_of-self-2
invariant_of-self-2 g c = calls-part c.self.view_is (c.play_next.ensures.played _)
    c.create-answer.new.self _ (creates c.args.number) _
    c.create-answer.ensures.told c.requires.acts

pub returns : goal.returns
returns g c = call-made c.self.view_is (c.play_next.ensures.played _) _ _
    c.in_ok-play_next.ensures.whole _ (creates c.args.number) _
    c.create-answer.ensures.told c.create-answer.ensures.faults
    (c.settle.ensures _ _ c.note.ensures) c.create-answer.ensures.noted
