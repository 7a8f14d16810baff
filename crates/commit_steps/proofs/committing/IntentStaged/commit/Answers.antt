use Rattle.std.proofs.Common.{refl, ap, subst, ◌∙◌}
use Rattle.suite_rules.specs.Steps.{asked}
use Rattle.suite_rules.specs.Outcomes.{LeadsTo, at_commit}
use Rattle.suite_rules.proofs.StepLemmas.{called-of, makes-call, leaves, stays-lawful, stands-both}
use Rattle.recovery.proofs.LeadsLemmas.{leads-on}
use Rattle.commit_steps.specs.States.{Stager, Walker, walk_of}
use Rattle.commit_steps.specs.Stands.{HasStagedIntent, Installs, IsDeed}
use Rattle.commit_steps.proofs.CommitLemmas.{commit_call, installs-after-commit, may-commit, commit-unsure}
use Rattle.commit_steps.proofs.committing.IntentStaged.commit.Goals as goal

pub returns : goal.returns
returns g c =
    let before = g.F.Folder.moment c.args.folder.now in
    let now = g.F.Folder.moment c.rename-moved.new.self in
    let stager = c.args.self in
    let change = stager.change in
    let whole = c.requires.whole in
    let token = change.inputs.keeper.token in
    let moved = c.rename-moved.result in
    let narrows = c.rename-moved.ensures.narrows in
    let counts = c.rename-moved.ensures.faults in
    let shown = subst (λ (walker : Walker). LeadsTo walker at_commit moved c.commits.result)
    (c.start.ensures ∙ ap (λ (one : Stager). walk_of one.change) c.self.view_is)
    c.commits.ensures.shown in
    let called = called-of before now _ token commit_call moved
    (c.token-token.ensures
    ∙ ap (λ (one : Stager). one.change.inputs.keeper.token) c.self.view_is)
    (record { told = c.rename-moved.ensures.told; noted = c.rename-moved.ensures.noted }) in
    let told = called.told in
    record {
      call = makes-call before now narrows token commit_call tt (HasStagedIntent stager) _
          moved c.requires.stands called shown;
      next = leads-on commit_call tt (HasStagedIntent stager) Installs (walk_of change)
          (installs-after-commit stager whole) at_commit before now narrows token moved
          c.commits.result shown c.requires.stands told;
      unsure = commit-unsure stager whole before now narrows token moved c.commits.result
          shown c.requires.stands told;
      own = leaves before.admits now.admits narrows token commit_call tt (HasStagedIntent stager)
          asked (λ result stood held. refl) moved before.told now.told c.requires.stands told;
      lawful = λ deeds deed. stays-lawful deeds before.admits token commit_call tt
          (λ stood. HasStagedIntent stager stood × IsDeed deeds change stood)
          (may-commit stager whole deeds) moved before.told now.told
          (stands-both before.admits token (HasStagedIntent stager) (IsDeed deeds change)
          before.told c.requires.stands deed)
          told;
      faults = record {
        never_falls = counts.never_falls;
        failed = λ is. counts.failed (c.commits.ensures.failed is);
      };
    }
