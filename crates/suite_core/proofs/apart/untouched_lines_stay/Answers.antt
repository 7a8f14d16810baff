use Rattle.suite_core.proofs.UntouchedLemmas.{untouched-lines-stay}
use Rattle.suite_core.proofs.apart.untouched_lines_stay.Goals as goal

pub returns : goal.returns
returns c =
    untouched-lines-stay c.deeds_leave_untouched.ensures.leave c.lawful_settles.ensures
