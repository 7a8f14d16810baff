use Rattle.std.proofs.Common.{refl, ap}
use Rattle.acct_outside.specs.declared.Name.TheVariants.{Lock}
use Rattle.acct_outside.specs.Calls.{reads}
use Rattle.acct_outside.specs.Contract.{found_result}
use Rattle.suite_rules.specs.Rules.{free_read}
use Rattle.suite_rules.specs.Steps.{own_command}
use Rattle.lock_steps.specs.States.{Lister}
use Rattle.lock_steps.specs.Stands.{HasLooked, HoldsTold}
use Rattle.lock_steps.specs.Outcomes.{Reads, folder_failed}
use Rattle.lock_steps.proofs.OutcomesLemmas.{read-leads, read-passes, takes-call}
use Rattle.lock_steps.proofs.judging.Seen.read.Goals as goal

pub returns : goal.returns
returns g c =
    let seen = c.args.self in
    let found = c.read-found.result in
    let passes = read-passes seen.token (Lock seen.greatest) (rw (
      ap (λ (lister : Lister). lister.token) c.self.view_is,
      ap (λ (lister : Lister). lister.greatest) c.self.view_is,
    )
    at c.read-found.ensures.call) in
    takes-call seen.token (reads (Lock seen.greatest)) tt tt (HasLooked seen)
    (λ deeds stood held. free_read (Lock seen.greatest)) own_command (λ result stood held. refl)
    (Reads seen) HoldsTold folder_failed (found_result found) _ _ c.requires.stands passes
    c.after_read.ensures.shown
    (λ before now narrows. read-leads before now narrows seen.token seen _ _)
    c.after_read.ensures.failed
