use Rattle.std.proofs.Common.{refl, ap, subst, ◌∙◌}
use Rattle.acct_outside.specs.Calls.{reads}
use Rattle.acct_outside.specs.Contract.{found_result}
use Rattle.suite_rules.specs.Rules.{free_read}
use Rattle.suite_rules.specs.Steps.{own_command}
use Rattle.suite_rules.proofs.StepLemmas.{makes-call, leaves, read-notes, stays-lawful}
use Rattle.commit_steps.specs.States.{AreSound, Reader, next_name}
use Rattle.commit_steps.specs.Stands.{HasRead}
use Rattle.commit_steps.proofs.ReadsLemmas.{load-leads, load-refuses, next-told}
use Rattle.commit_steps.proofs.reading.Loader.load_next.Goals as goal

pub returns : goal.returns
returns g c =
    let before = g.F.Folder.moment c.args.folder.now in
    let now = g.F.Folder.moment c.read-found.new.self in
    let reader = c.args.self in
    let next = reader.next in
    let token = reader.keeper.token in
    let answer = found_result c.read-found.result in
    let narrows = c.read-found.ensures.call.narrows in
    let counts = c.read-found.ensures.call.faults in
    let shown = c.after_read.ensures.shown in
    let told = next-told next c.next_name-name.result c.next_name-name.ensures before now _ token
    (c.token.ensures ∙ ap (λ (reader : Reader). reader.keeper.token) c.self.view_is)
    c.read-found.result c.read-found.ensures.call.told in
    let noted = read-notes before now c.next_name-name.result (next_name next)
    c.next_name-name.ensures c.read-found.result c.read-found.ensures.call.noted in
    let sound = subst (λ (reader : Reader). AreSound reader.next reader.files) c.self.view_is
    c.self.invariant in
    record {
      step = record {
        call = makes-call before now narrows token (reads (next_name next)) tt (HasRead reader) _
            answer c.requires (record { told = told; noted = noted }) shown;
        next = load-leads reader.keeper reader.files before now narrows token next
            answer c.after_read.result shown c.requires told;
        left = leaves before.admits now.admits narrows token (reads (next_name next)) tt
            (HasRead reader)
            own_command (λ result stood held. refl) answer before.told now.told c.requires told;
        lawful = λ deeds. stays-lawful deeds before.admits token (reads (next_name next)) tt
            (HasRead reader)
            (λ stood held. free_read (next_name next)) answer before.told now.told c.requires told;
        faults = record {
          never_falls = counts.never_falls;
          failed = λ is. counts.failed (c.after_read.ensures.failed is);
        };
      };
      refused = load-refuses reader.keeper reader.files before now narrows token next
          answer c.after_read.result sound shown c.requires told;
    }
