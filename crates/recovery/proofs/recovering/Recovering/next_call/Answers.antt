use Rattle.std.proofs.Common.{refl, sym, ◌∙◌}
use Rattle.recovery.proofs.NextLemmas.{removes-next, stages-next}
use Rattle.recovery.proofs.recovering.Recovering.next_call.Goals as goal

pub returns-then-left-eq0 : goal.returns-then-left-eq0
returns-then-left-eq0 c =
    removes-next c.args.self.now _ (sym c.left.ensures ∙ c.if-left-eq0.true) refl tt

pub returns : goal.returns
returns c = stages-next c.args.self.now c.next.result.now c.next.ensures c.stage_call.result
    c.stage_call.ensures.names c.stage_call.ensures.later
