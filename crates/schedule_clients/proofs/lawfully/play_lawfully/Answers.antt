use Rattle.side_by_side.specs.Scenes.{scene}
use Rattle.schedule_clients.proofs.DeathLemmas.{dies-promising}
use Rattle.schedule_clients.proofs.LawfulLemmas.{kept-lawfully}
use Rattle.schedule_clients.proofs.lawfully.play_lawfully.Goals as goal

pub returns-clause-lawfully : goal.returns-clause-lawfully
returns-clause-lawfully g c = kept-lawfully (scene c.args.folder.now c.args.sessions.now.items)
    c.play.new.folder c.play.new.sessions.items c.answers_keep_promises.ensures
    c.play.ensures.advances

pub returns-clause-deaths : goal.returns-clause-deaths
returns-clause-deaths g c = dies-promising c.answers_keep_promises.ensures c.args.steps.now
    c.args.folder.now c.args.sessions.now.items
    (scene c.play.new.folder c.play.new.sessions.items) c.requires c.play.ensures.front
