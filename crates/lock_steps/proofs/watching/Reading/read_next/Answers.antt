use Rattle.std.proofs.Common.{refl, ap, subst}
use Rattle.acct_outside.specs.declared.FolderFault.TheVariants.{Failed}
use Rattle.acct_outside.specs.Calls.{reads}
use Rattle.acct_outside.specs.Contract.{found_result}
use Rattle.suite_rules.specs.Rules.{free_read}
use Rattle.suite_rules.specs.Steps.{own_command}
use Rattle.suite_rules.proofs.StepLemmas.{read-notes}
use Rattle.lock_steps.specs.Gathered.{AreUnread}
use Rattle.lock_steps.specs.Watching.{Gatherer, HasGathered, GathersOn, next_left}
use Rattle.lock_steps.proofs.OutcomesLemmas.{takes-call}
use Rattle.lock_steps.proofs.WatchingLemmas.{first-name, next-told, read-leads}
use Rattle.lock_steps.proofs.watching.Reading.read_next.Goals as goal

pub returns : goal.returns
returns g c =
    let before = g.F.Folder.moment c.args.folder.now in
    let now = g.F.Folder.moment c.read-found.new.self in
    let reading = c.args.self in
    let found = c.read-found.result in
    let called = c.read-found.ensures.call in
    let unread = subst (λ (one : Gatherer). AreUnread one.gathered.large one.left) c.self.view_is
    c.self.invariant in
    let first = first-name reading.gathered.large reading.left c.index.result.now c.requires.left
    (rw (ap (λ (one : Gatherer). one.left) c.self.view_is) at c.index.ensures) unread in
    takes-call reading.token (reads (next_left reading)) tt tt (HasGathered reading)
    (λ deeds stood held. free_read (next_left reading)) own_command (λ result stood held. refl)
    (GathersOn reading) HasGathered Failed (found_result found) _ _ c.requires.stands (record {
      told = next-told (next_left reading) c.index.result.now first.0 first.1 before now _
          reading.token (ap (λ (one : Gatherer). one.token) c.self.view_is) found called.told;
      narrows = called.narrows;
      faults = called.faults;
      noted = read-notes before now c.index.result.now (next_left reading) first.0 found
          called.noted;
    })
    c.after_read.ensures.shown
    (λ before now narrows.
    read-leads before now narrows reading.token reading _ _ c.requires.left unread)
    c.after_read.ensures.failed
