use Rattle.suite_course.proofs.DeedLemmas.{tools-have-deeds}
use Rattle.suite_course.proofs.laws.tools_have_deeds.Goals as goal

pub returns : goal.returns
returns c = tools-have-deeds c.deeds_are_changes.ensures
