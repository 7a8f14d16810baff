use Rattle.std.proofs.Common.{refl, ap, Err}
use Rattle.acct_outside.specs.declared.Name.TheVariants.{Lock}
use Rattle.acct_outside.specs.Calls.{removes}
use Rattle.suite_rules.specs.Steps.{own_command}
use Rattle.lock_steps.specs.States.{Overtaken}
use Rattle.lock_steps.specs.Stands.{HoldsNever, WasOvertaken}
use Rattle.lock_steps.specs.Outcomes.{Withdraws, folder_failed}
use Rattle.lock_steps.proofs.OutcomesLemmas.{takes-call}
use Rattle.lock_steps.proofs.PermitsLemmas.{may-withdraw}
use Rattle.lock_steps.proofs.claiming.Loser.withdraw.Goals as goal

pub returns : goal.returns
returns g c =
    let loser = c.args.self in
    let number_is = ap (λ (one : Overtaken). one.number) c.self.view_is in
    let passes = rw (ap (λ (one : Overtaken). one.token) c.self.view_is, number_is)
    at c.remove-removed.ensures in
    let above = rw (number_is, ap (λ (one : Overtaken). one.greatest) c.self.view_is)
    at c.self.invariant.1 in
    takes-call loser.token (removes (Lock loser.number)) tt tt (WasOvertaken loser)
    (λ deeds stood held. may-withdraw deeds stood loser above held) own_command
    (λ result stood held. refl) (λ answer _. Withdraws loser answer c.after_removal.result)
    HoldsNever folder_failed c.remove-removed.result _ (Err c.after_removal.result) c.requires
    passes c.after_removal.ensures.shown (λ _ _ _ _ _ _. tt)
    (λ is. c.after_removal.ensures.failed (cc is))
