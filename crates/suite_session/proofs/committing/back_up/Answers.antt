use Rattle.commit_steps.specs.declared.walking.Walked.TheVariants.{More, Done}
use Rattle.suite_session.proofs.WalkTurns.{backs-ended, backs-turn}
use Rattle.suite_session.proofs.committing.back_up.Goals as goal

pub returns-in-Ok-More : goal.returns-in-Ok-More
returns-in-Ok-More g c = rw c.in-Ok-More.field-0-is
    (backs-turn c.args.runner.now c.args.answer c.args.backing (g.F.Folder.moment c.args.folder.now)
    (g.F.Folder.moment c.go_on.new.folder) c.requires (More c.in-Ok-More.backing)
    (rw c.in-Ok-More.field-0-is at c.in-Ok-More.ensures))

pub returns-in-Ok-Done : goal.returns-in-Ok-Done
returns-in-Ok-Done g c = rw c.in-Ok-Done.field-0-is
    (backs-turn c.args.runner.now c.args.answer c.args.backing (g.F.Folder.moment c.args.folder.now)
    (g.F.Folder.moment c.go_on.new.folder) c.requires (Done c.in-Ok-Done.staged)
    (rw c.in-Ok-Done.field-0-is at c.in-Ok-Done.ensures))

pub returns-in-Err : goal.returns-in-Err
returns-in-Err g c =
    backs-ended c.args.runner.now c.args.answer c.args.backing (g.F.Folder.moment c.args.folder.now)
    (g.F.Folder.moment c.go_on.new.folder) c.requires c.in-Err.fault c.given_up.result
    c.in-Err.ensures c.given_up.ensures
