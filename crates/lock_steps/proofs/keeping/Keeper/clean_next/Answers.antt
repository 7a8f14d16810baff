use Rattle.std.proofs.Common.{refl, ap, subst, ◌<◌, length, get_or}
use Rattle.acct_outside.specs.declared.Name.TheVariants.{Lock}
use Rattle.acct_outside.specs.declared.FolderFault.TheVariants.{Failed}
use Rattle.acct_outside.specs.Calls.{removes}
use Rattle.suite_rules.specs.Outcomes.{LeadsTo}
use Rattle.suite_rules.specs.Steps.{work}
use Rattle.lock_steps.specs.States.{Kept}
use Rattle.lock_steps.specs.Stands.{Keeps}
use Rattle.lock_steps.proofs.NumberLemmas.{first-of}
use Rattle.lock_steps.proofs.StandsLemmas.{removal-leaves}
use Rattle.lock_steps.specs.Outcomes.{as_it_came, cleaned_once}
use Rattle.lock_steps.proofs.OutcomesLemmas.{clean-leads, takes-call}
use Rattle.lock_steps.proofs.PermitsLemmas.{may-remove}
use Rattle.lock_steps.proofs.keeping.Keeper.clean_next.Goals as goal

pub returns : goal.returns
returns g c =
    let keeper = c.args.self in
    let knows = g.K.Knowing.knows in
    let lowest = get_or keeper.lower 0 0 in
    let lowest_is = first-of keeper.lower _ c.requires.left
    (rw (ap (λ (one : Kept). one.lower) c.self.view_is) at c.index.ensures) in
    let passes = rw (ap (λ (one : Kept). one.token) c.self.view_is, lowest_is)
    at c.remove-removed.ensures in
    let below = subst
    (λ (one : Kept). 0 < length one.lower → get_or one.lower 0 0 < one.number)
    c.self.view_is (λ some. (c.self.invariant.1 0 0 some).1) c.requires.left in
    takes-call keeper.token (removes (Lock lowest)) tt tt (Keeps keeper knows)
    (λ deeds stood held. may-remove deeds stood keeper knows lowest below held) work
    (λ result stood held. removal-leaves keeper knows lowest stood held result)
    (LeadsTo (cleaned_once keeper) as_it_came) (λ next. Keeps next knows) Failed
    c.remove-removed.result _ _ c.requires.stands passes c.after_removal.ensures.shown
    (λ before now narrows.
    clean-leads before now narrows keeper.token keeper knows lowest _ _ c.requires.left refl)
    c.after_removal.ensures.failed
