use Rattle.std.proofs.Common.{◌∙◌, sym}
use Rattle.memory_folder.specs.Stored.{folder_in}
use Rattle.memory_folder.proofs.ResultLemmas.{on_ok}
use Rattle.memory_folder.proofs.EventLemmas.{after-exists, after-done}
use Rattle.memory_folder.proofs.store.Store.apply.Goals as goal

pub returns-in-Done-clause-ok : goal.returns-in-Done-clause-ok
returns-in-Done-clause-ok c =
    sym (after-exists c.args.by.now c.args.call.now c.args.outcome.now c.in-Done.answer
    (folder_in c.args.self.now) c.in-Done.is
    (sym c.answers_exists.ensures ∙ c.if-answers_exists.true))

pub returns-in-Done-2-clause-ok : goal.returns-in-Done-2-clause-ok
returns-in-Done-2-clause-ok c =
    on_ok c.complete.result
    (λ completed. completed ∙ sym (after-done c.args.by.now c.args.call.now c.args.outcome.now
    c.in-Done.answer (folder_in c.args.self.now) c.in-Done.is
    (sym c.answers_exists.ensures ∙ c.if-answers_exists.false)))
    c.complete.ensures.ok
