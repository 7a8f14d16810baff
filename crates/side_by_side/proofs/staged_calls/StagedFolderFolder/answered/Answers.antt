use Rattle.std.proofs.Common.{[], ap, ◌∙◌}
use Rattle.acct_outside.specs.Journal.{replied, was_done}
use Rattle.side_by_side.proofs.StagedCalls.{answered-at-once, answered-part, answered-told}
use Rattle.side_by_side.proofs.staged_calls.StagedFolderFolder.answered.Goals as goal

pub invariant_of-self : goal.invariant_of-self
invariant_of-self g c = answered-part _ _
    c.answered.new.self [] c.self.view_is c.args.by.now c.args.status c.answered.ensures.told
    c.requires c.self.invariant

pub returns-clause-call : goal.returns-clause-call
returns-clause-call g c = answered-told _ _
    c.answered.new.self c.done.new.self.entries c.self.view_is c.args.by.now c.args.status
    c.answered.ensures.told
    c.answered.ensures.faults (c.done.ensures ∙ ap (replied was_done) c.note.ensures)

pub returns-clause-at_once : goal.returns-clause-at_once
returns-clause-at_once g c = answered-at-once _ _
    c.answered.new.self c.done.new.self.entries c.self.view_is c.args.by.now c.args.status
    c.answered.ensures.told
    c.answered.ensures.faults c.answered.ensures.noted
