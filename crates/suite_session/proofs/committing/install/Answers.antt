use Rattle.std.proofs.Common.{sym, subst}
use Rattle.lock_steps.specs.States.{Kept}
use Rattle.commit_steps.specs.declared.walking.Walked.TheVariants.{More, Done}
use Rattle.suite_session.specs.declared.state.State.TheVariants.{Installing, Unlocking}
use Rattle.suite_session.specs.Turning.{TakesTurn}
use Rattle.suite_session.proofs.WalkTurns.{installs-ended, installs-turn}
use Rattle.suite_session.proofs.committing.install.Goals as goal

pub returns-in-Ok-More : goal.returns-in-Ok-More
returns-in-Ok-More g c = rw c.in-Ok-More.field-0-is
    (installs-turn c.args.runner.now c.args.answer c.args.installing
    (g.F.Folder.moment c.args.folder.now) (g.F.Folder.moment c.go_on.new.folder) c.requires
    (More c.in-Ok-More.installing) (rw c.in-Ok-More.field-0-is at c.in-Ok-More.ensures))

pub returns-in-Ok-Done : goal.returns-in-Ok-Done
returns-in-Ok-Done g c =
    let before = g.F.Folder.moment c.args.folder.now in
    let now = g.F.Folder.moment c.go_on.new.folder in
    subst (λ (kept : Kept). TakesTurn before now c.args.runner.now
    (Installing c.args.installing c.args.answer) (Unlocking kept c.args.answer))
    (sym (rw c.in-Ok-Done.field-0-is at c.forget.ensures))
    (installs-turn c.args.runner.now c.args.answer c.args.installing before now c.requires
    (Done c.in-Ok-Done.keeper) (rw c.in-Ok-Done.field-0-is at c.in-Ok-Done.ensures))

pub returns-in-Err : goal.returns-in-Err
returns-in-Err g c =
    installs-ended c.args.runner.now c.args.answer c.args.installing
    (g.F.Folder.moment c.args.folder.now) (g.F.Folder.moment c.go_on.new.folder) c.requires
    c.in-Err.fault c.given_up.result c.in-Err.ensures c.given_up.ensures
