use Rattle.std.proofs.Common.{refl, sym, subst, ◌∙◌}
use Rattle.std.specs.Prelude.{OnOk}
use Rattle.memory_folder.specs.Memory.{moment_of, past_of}
use Rattle.suite_session.specs.declared.session.Phase.{Phase}
use Rattle.suite_session.specs.Dying.{SessionDies}
use Rattle.suite_session.specs.Turning.{KeepsOthers}
use Rattle.suite_session.proofs.DyingLemmas.{on-err}
use Rattle.suite_session.proofs.session.Session.die.Goals as goal

pub returns-in-Begun : goal.returns-in-Begun
returns-in-Begun g c =
    let is = sym c.in-Begun.is ∙ c.self.view_is in
    record {
      dies = subst (λ (one : Phase). OnOk c.die_in.result (SessionDies (past_of c.args.folder.now)
          (past_of c.die_in.new.folder) c.args.effect one one)) is c.die_in.ensures.dies;
      kept = on-err c.die_in.result _ refl;
      told = c.die_in.ensures.told;
      faults = c.die_in.ensures.faults;
      journal = c.die_in.ensures.journal;
      lawful = c.die_in.ensures.lawful;
      others = subst (λ (one : Phase). KeepsOthers (moment_of c.args.folder.now)
          (moment_of c.die_in.new.folder) one one) is c.die_in.ensures.others;
    }
