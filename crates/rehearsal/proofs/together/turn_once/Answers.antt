use Rattle.rehearsal.proofs.TogetherLemmas.{stay-together}
use Rattle.rehearsal.proofs.together.turn_once.Goals as goal

pub returns-clause-together : goal.returns-clause-together
returns-clause-together c = stay-together c.args.folder.now c.turn.new.folder c.args.session.now
    c.turn.new.self c.turn.ensures.turns c.turn.ensures.belongs c.turn.ensures.others
