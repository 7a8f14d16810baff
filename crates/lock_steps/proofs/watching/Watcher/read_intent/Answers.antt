use Rattle.std.proofs.Common.{refl, ap}
use Rattle.acct_outside.specs.declared.FolderFault.TheVariants.{Failed}
use Rattle.acct_outside.specs.declared.Name.TheVariants.{Intent}
use Rattle.acct_outside.specs.Calls.{reads}
use Rattle.acct_outside.specs.Contract.{found_result}
use Rattle.suite_rules.specs.Rules.{free_read}
use Rattle.suite_rules.specs.Steps.{own_command}
use Rattle.lock_steps.specs.States.{Lister}
use Rattle.lock_steps.specs.Stands.{HasJudged}
use Rattle.lock_steps.specs.Watching.{HasGathered, ReadsIntentFirst}
use Rattle.lock_steps.proofs.OutcomesLemmas.{read-passes, takes-call}
use Rattle.lock_steps.proofs.WatchingLemmas.{intent-leads}
use Rattle.lock_steps.proofs.watching.Watcher.read_intent.Goals as goal

pub returns : goal.returns
returns g c =
    let watcher = c.args.self in
    let found = c.read-found.result in
    let passes = read-passes watcher.token Intent
    (rw (ap (λ (lister : Lister). lister.token) c.self.view_is) at c.read-found.ensures.call) in
    takes-call watcher.token (reads Intent) tt tt (HasJudged watcher)
    (λ deeds stood held. free_read Intent) own_command (λ result stood held. refl)
    (ReadsIntentFirst watcher c.args.wanted.now) HasGathered Failed (found_result found) _ _ c.requires passes
    c.after_intent.ensures.shown
    (λ before now narrows. intent-leads before now narrows watcher.token watcher c.args.wanted.now _ _)
    c.after_intent.ensures.failed
