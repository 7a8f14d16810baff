use Rattle.std.proofs.Common.{refl, ap, subst, ◌∙◌, Ok, Err}
use Rattle.acct_outside.specs.Calls.{Command, begins}
use Rattle.acct_outside.specs.Contract.{WhereTold, TellsBegin}
use Rattle.suite_session.proofs.BeginTurns.{asked-command, begin-new, begins-turn, unbegun}
use Rattle.acct_outside.specs.Journal.{makes, was_done, was_refused}
use Rattle.acct_outside.specs.Moment.{Notes}
use Rattle.suite_session.proofs.turning.begin.Goals as goal

pub returns-in-Ok-clause-turns : goal.returns-in-Ok-clause-turns
returns-in-Ok-clause-turns g c =
    let before = g.F.Folder.moment c.args.folder.now in
    let now = g.F.Folder.moment c.begin.new.self in
    let same = asked-command c.asked.inside.input c.asked.inside.day c.args.asked
    c.deref.ensures.value c.asked.view_is in
    let tells = subst (λ (command : Command). WhereTold before.told now.told
    (TellsBegin before.admits command (Ok c.in-Ok.token))) same c.in-Ok.ensures.call.told in (
      refl,
      begins-turn before now (record { token = c.in-Ok.token; asked = c.args.asked }) tells
          c.in-Ok.ensures.own c.begin.ensures.call.narrows
          c.begin.ensures.call.faults.never_falls c.first_state-state.result
          c.first_state-state.ensures
          (subst (λ (command : Command). Notes before now (makes (begins command) was_done)) same
          c.in-Ok.ensures.call.noted),
      begin-new before.admits c.args.asked.command c.in-Ok.token before.told now.told tells,
      c.first_state-state.ensures,
    )

pub returns-in-Err-clause-turns : goal.returns-in-Err-clause-turns
returns-in-Err-clause-turns g c =
    let before = g.F.Folder.moment c.args.folder.now in
    let now = g.F.Folder.moment c.begin.new.self in
    let same = asked-command c.asked.inside.input c.asked.inside.day c.args.asked
    c.deref.ensures.value c.asked.view_is in (
      c.tool.ensures.value,
      unbegun before now c.args.asked c.in-Err.fault
          (subst (λ (command : Command). WhereTold before.told now.told
          (TellsBegin before.admits command (Err c.in-Err.fault))) same c.in-Err.ensures.call.told)
          c.unbegun.result c.unbegun.ensures
          c.begin.ensures.call.narrows c.begin.ensures.call.faults.never_falls
          (λ is. c.begin.ensures.call.faults.failed (c.in-Err.is ∙ ap Err is)),
      record {
        reply = was_refused;
        noted = subst (λ (command : Command). Notes before now (makes (begins command) was_refused))
            same c.in-Err.ensures.call.noted;
        refused = λ is. tt;
      },
    )
