use Rattle.acct_outside.specs.Calls.{asks}
use Rattle.side_by_side.proofs.StagedCalls.{call-made, call-wanted, calls-part}
use Rattle.side_by_side.proofs.staged_calls.StagedFolderFolder.verdict.Goals as goal

pub returns-in_err-play_next : goal.returns-in_err-play_next
returns-in_err-play_next g c = call-wanted c.self.view_is (c.play_next.ensures.played _) _ _
    (asks c.args.token.now) c.note.ensures _ c.from_residual.ensures

pub invariant_of-self-2 : goal.invariant_of-self-2
invariant_of-self-2 g c = calls-part c.self.view_is (c.play_next.ensures.played _)
    c.verdict-answer.new.self _ (asks c.args.token.now) _
    c.verdict-answer.ensures.told c.requires

pub returns : goal.returns
returns g c = call-made c.self.view_is (c.play_next.ensures.played _) _ _
    c.in_ok-play_next.ensures.whole _ (asks c.args.token.now) _
    c.verdict-answer.ensures.told c.verdict-answer.ensures.faults
    (c.settle.ensures _ _ c.note.ensures) c.verdict-answer.ensures.noted
