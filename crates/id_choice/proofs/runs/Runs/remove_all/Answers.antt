use Rattle.std.proofs.Common.{ℕ, List, subst}
use Rattle.id_choice.specs.RunMaps.{numbers_of}
use Rattle.id_choice.specs.Runs.{LosesAll}
use Rattle.id_choice.proofs.RemovedRuns.{all-lost, cut-apart, kept-apart}
use Rattle.id_choice.proofs.runs.Runs.remove_all.Goals as goal

pub end_before-requires : goal.end_before-requires
end_before-requires c =
    kept-apart c.self.inside.runs c.keep_behind.new.runs c.args.first c.args.last c.requires
    c.self.invariant c.in_ok-keep_behind.ensures.kept

pub invariant_of-self-2 : goal.invariant_of-self-2
invariant_of-self-2 c =
    cut-apart c.self.inside.runs c.keep_behind.new.runs c.end_before.new.runs
    c.remove_behind.new.runs c.args.first c.args.last c.requires c.self.invariant
    c.in_ok-keep_behind.ensures.kept c.end_before.ensures c.remove_behind.ensures

pub returns-clause-removed : goal.returns-clause-removed
returns-clause-removed c =
    let new = c.remove_behind.new.runs in
    subst
    (λ (old : List ℕ). LosesAll old c.args.first c.args.last (numbers_of new.entries))
    c.self.view_is
    (all-lost c.self.inside.runs c.keep_behind.new.runs c.end_before.new.runs new c.args.first
    c.args.last c.requires c.self.invariant c.in_ok-keep_behind.ensures.kept c.end_before.ensures
    c.remove_behind.ensures)
