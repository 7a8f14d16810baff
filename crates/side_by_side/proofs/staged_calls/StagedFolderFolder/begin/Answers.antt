use Rattle.std.proofs.Common.{[]}
use Rattle.acct_outside.specs.Calls.{Command}
use Rattle.acct_outside.specs.Contract.{BeginsSession}
use Rattle.side_by_side.proofs.StagedCalls.{begin-own, begin-part, begins-told, breaks-off, calls-next, in-memory, want-begun}
use Rattle.side_by_side.proofs.staged_calls.StagedFolderFolder.begin.Goals as goal

pub returns-in_err-play_next-clause-call : goal.returns-in_err-play_next-clause-call
returns-in_err-play_next-clause-call g c = want-begun c.self.view_is (c.play_next.ensures.played _)
    c.note.new.self.entries _ c.note.ensures c.from_residual.result c.from_residual.ensures

pub invariant_of-self-2 : goal.invariant_of-self-2
invariant_of-self-2 g c =
    let command : Command = record {
      words = c.args.words.now;
      input = c.args.input.now;
      day = c.args.day;
    } in
    begin-part (c.play_next.ensures.played c.note.new.self.entries) c.begin-answer.new.self []
    command
    c.begin-answer.result
    c.begin-answer.ensures.told

pub returns-clause-call : goal.returns-clause-call
returns-clause-call g c = begins-told c.self.view_is (c.play_next.ensures.played _)
    c.begin-answer.new.self
    c.settle.new.journal.entries _ c.begin-answer.result c.begin-answer.ensures.told
    c.begin-answer.ensures.faults
    (c.settle.ensures _ _ c.note.ensures)

pub returns-clause-own : goal.returns-clause-own
returns-clause-own g c = begin-own (c.play_next.ensures.played c.note.new.self.entries)
    c.begin-answer.new.self _
    c.begin-answer.result c.begin-answer.ensures.told

pub returns-in_err-play_next-clause-next : goal.returns-in_err-play_next-clause-next
returns-in_err-play_next-clause-next g c =
    let command : Command = record {
      words = c.args.words.now;
      input = c.args.input.now;
      day = c.args.day;
    } in
    breaks-off c.self.view_is (c.play_next.ensures.played _)
    c.note.new.self.entries
    (λ before now. BeginsSession before now command c.from_residual.result)
    c.from_residual.result c.from_residual.ensures

pub returns-clause-next : goal.returns-clause-next
returns-clause-next g c =
    let command : Command = record {
      words = c.args.words.now;
      input = c.args.input.now;
      day = c.args.day;
    } in
    calls-next c.self.view_is (c.play_next.ensures.played _) c.begin-answer.new.self
    c.settle.new.journal.entries
    c.in_ok-play_next.ensures.whole
    (λ before now. BeginsSession before now command c.begin-answer.result) c.begin-answer.result
    (in-memory c.play_next.new.folder c.begin-answer.new.self _ c.begin-answer.ensures.told
    c.begin-answer.result
    c.begin-answer.ensures.faults _ c.begin-answer.ensures.noted)
