use Rattle.std.proofs.Common.{ℕ, List, subst}
use Rattle.id_choice.specs.RunMaps.{numbers_of}
use Rattle.id_choice.specs.Runs.{AddsAll}
use Rattle.id_choice.proofs.AddedRuns.{all-added}
use Rattle.id_choice.proofs.runs.Runs.add.Goals as goal

pub returns-clause-added : goal.returns-clause-added
returns-clause-added c =
    let new = c.remove_behind.new.runs
    in subst
    (λ (old : List ℕ). AddsAll old c.args.first c.args.last (numbers_of new.entries))
    c.self.view_is
    (all-added c.self.inside.runs c.insert.new.self new c.args.first c.args.last
    c.begin_of-begin.result c.end_of-end.result c.self.invariant c.begin_of-begin.ensures
    c.end_of-end.ensures c.in_ok-insert.ensures.updates c.remove_behind.ensures
    c.requires)
