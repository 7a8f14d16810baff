use Rattle.std.proofs.lemmas.Result.{on_ok_weaker}
use Rattle.id_choice.proofs.RemovedRuns.{one-lost}
use Rattle.id_choice.proofs.runs.Runs.remove.Goals as goal

pub returns-clause-removed : goal.returns-clause-removed
returns-clause-removed c =
    on_ok_weaker c.remove_all.result
    (one-lost c.args.self.now c.remove_all.new.self c.args.number)
    c.remove_all.ensures.removed
