use Rattle.std.proofs.Common.{refl}
use Rattle.acct_outside.specs.declared.Name.TheVariants.{Intent}
use Rattle.acct_outside.specs.Calls.{reads}
use Rattle.acct_outside.specs.Contract.{found_result}
use Rattle.suite_rules.specs.Rules.{free_read}
use Rattle.suite_rules.specs.Steps.{own_command}
use Rattle.suite_rules.proofs.StepLemmas.{told-of, read-notes, read-tells, takes-step}
use Rattle.lock_steps.specs.Stands.{Keeps, KnowsAnything}
use Rattle.lock_steps.proofs.OutcomesLemmas.{counts}
use Rattle.recovery.specs.declared.RecoveryEnd.TheVariants.{Fault}
use Rattle.recovery.specs.Stands.{HoldsSeen}
use Rattle.recovery.specs.Outcomes.{FindsIntent, failed_before}
use Rattle.recovery.proofs.OutcomesLemmas.{read-leads, read-refuses, absent-clean}
use Rattle.recovery.proofs.reading.read_intent.Goals as goal

pub after_read-requires : goal.after_read-requires
after_read-requires g c = λ absent.
    let before = g.F.Folder.moment c.args.folder.now in
    let now = g.F.Folder.moment c.read-found.new.self in
    let token = c.args.keeper.token in
    let found = c.read-found.result in
    absent-clean before now c.read-found.ensures.call.narrows token c.args.keeper found absent
    c.requires
    (told-of before now _ token (reads Intent) (found_result found) c.token.ensures
    (read-tells before now _ Intent found c.read-found.ensures.call.told))

pub returns : goal.returns
returns g c =
    let before = g.F.Folder.moment c.args.folder.now in
    let now = g.F.Folder.moment c.read-found.new.self in
    let token = c.args.keeper.token in
    let found = c.read-found.result in
    let answer = found_result found in
    let keeps = Keeps c.args.keeper KnowsAnything in
    let narrows = c.read-found.ensures.call.narrows in
    let shown = c.after_read.ensures.shown in
    let told = told-of before now _ token (reads Intent) answer c.token.ensures
    (read-tells before now _ Intent found c.read-found.ensures.call.told) in
    let noted = read-notes before now Intent Intent refl found c.read-found.ensures.call.noted in
    record {
      step = takes-step before now narrows token (reads Intent) tt tt keeps
          (λ deeds stood kept. free_read Intent) own_command (λ result stood held. refl)
          (λ answer. FindsIntent c.args.keeper answer c.after_read.result) HoldsSeen
          (Fault failed_before) c.after_read.result answer c.requires
          (record { told = told; noted = noted }) shown
          (read-leads before now narrows token c.args.keeper answer c.after_read.result shown
          c.requires told)
          (counts (Fault failed_before) _ _ found c.after_read.result c.after_read.ensures.failed
          c.read-found.ensures.call.faults);
      refused = read-refuses before now narrows token c.args.keeper
          answer c.after_read.result shown c.requires told;
    }
