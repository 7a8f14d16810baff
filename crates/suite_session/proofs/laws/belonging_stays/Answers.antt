use Rattle.suite_session.proofs.BelongsLemmas.{belonging-law}
use Rattle.suite_session.proofs.laws.belonging_stays.Goals as goal

pub returns : goal.returns
returns g c = belonging-law g.F.Folder.moment
