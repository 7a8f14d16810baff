use Rattle.suite_course.proofs.TurnedLemmas.{answers-keep-promises}
use Rattle.suite_course.proofs.laws.answers_keep_promises.Goals as goal

pub returns : goal.returns
returns g c = answers-keep-promises g.F.Folder.moment
