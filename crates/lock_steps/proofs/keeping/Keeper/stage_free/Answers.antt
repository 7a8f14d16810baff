use Rattle.std.proofs.Common.{ap, ◌∙◌}
use Rattle.acct_outside.specs.declared.Name.TheVariants.{FreeStage}
use Rattle.acct_outside.specs.declared.FolderFault.TheVariants.{Failed}
use Rattle.acct_outside.specs.Tokens.{free_text}
use Rattle.acct_outside.specs.Calls.{writes}
use Rattle.suite_rules.specs.Outcomes.{LeadsTo}
use Rattle.suite_rules.specs.Steps.{work}
use Rattle.lock_steps.specs.States.{Kept}
use Rattle.lock_steps.specs.Stands.{HasStagedFree, Keeps}
use Rattle.lock_steps.proofs.StandsLemmas.{write-leaves}
use Rattle.lock_steps.specs.Outcomes.{as_it_came, freeing_of}
use Rattle.lock_steps.proofs.OutcomesLemmas.{stage-leads, takes-call}
use Rattle.lock_steps.proofs.PermitsLemmas.{may-stage-free}
use Rattle.lock_steps.proofs.keeping.Keeper.stage_free.Goals as goal

pub returns : goal.returns
returns g c =
    let keeper = c.args.self in
    let knows = g.K.Knowing.knows in
    let passes = rw (
      ap (λ (one : Kept). one.token) c.self.view_is,
      c.as_slice-free.ensures ∙ c.self.inside.holder.is_free,
    )
    at c.write-written.ensures in
    takes-call keeper.token (writes FreeStage free_text) tt tt (Keeps keeper knows)
    (λ deeds stood held. may-stage-free deeds stood keeper knows held) work
    (λ result stood held. write-leaves keeper knows stood held result)
    (LeadsTo (freeing_of keeper) as_it_came) HasStagedFree Failed c.write-written.result _ _
    c.requires.stands passes c.after_write.ensures.shown
    (λ before now narrows.
    stage-leads before now narrows keeper.token keeper knows _ _ c.requires.none_left)
    c.after_write.ensures.failed
