use Rattle.std.proofs.Common.{◌∙◌, refl, ap}
use Rattle.acct_outside.specs.Calls.{asks}
use Rattle.suite_rules.specs.Rules.{free_verdict}
use Rattle.suite_rules.specs.Steps.{own_command}
use Rattle.lock_steps.specs.declared.judging.Asking.TheInside.{Inside}
use Rattle.lock_steps.specs.States.{Asker}
use Rattle.lock_steps.specs.Stands.{HasJudged, HasReadHeld}
use Rattle.lock_steps.specs.Outcomes.{AsksAlive, folder_failed}
use Rattle.lock_steps.proofs.OutcomesLemmas.{ask-leads, takes-call}
use Rattle.lock_steps.proofs.judging.Asking.ask.Goals as goal

pub returns : goal.returns
returns g c =
    let asking = c.args.self in
    let passes = rw (
      ap (λ (inside : Inside). inside.seen.token) c.self-inside.view_is
          ∙ ap (λ (asker : Asker). asker.token) c.self.view_is,
      ap (λ (inside : Inside). inside.asked) c.self-inside.view_is
          ∙ ap (λ (asker : Asker). asker.asked) c.self.view_is,
    )
    at c.verdict-verdict.ensures in
    takes-call asking.token (asks asking.asked) tt tt (HasReadHeld asking)
    (λ deeds stood held. free_verdict asking.asked) own_command (λ result stood held. refl)
    (AsksAlive asking) HasJudged folder_failed c.verdict-verdict.result _ _ c.requires passes
    c.after_verdict.ensures.shown
    (λ before now narrows. ask-leads before now narrows asking.token asking _ _)
    c.after_verdict.ensures.failed
