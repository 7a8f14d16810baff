use Rattle.std.proofs.Common.{◌∙◌, List, subst, sym}
use Rattle.account_model.specs.Options.{Word}
use Rattle.account_model.specs.Words.{Asks}
use Rattle.rehearsal.proofs.twice.add_group.Goals as goal

-- the step that was supplied is a step with some input, on some day
pub returns-clause-step : goal.returns-clause-step
returns-clause-step c = λ request asks decided.
    let same = c.as_slice.ensures.value ∙ c.in_ok-words.ensures in
    let step = c.run_alone.ensures.step request
    (subst (λ (words : List Word). Asks words request) (sym same) asks) decided in
    (step.0, step.1, step.3)
