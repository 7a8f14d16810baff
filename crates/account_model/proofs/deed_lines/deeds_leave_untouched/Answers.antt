use Rattle.account_model.proofs.NamedDeeds.{deeds-keep-order}
use Rattle.account_model.proofs.UntouchedDeeds.{deeds-leave-untouched}
use Rattle.account_model.proofs.deed_lines.deeds_leave_untouched.Goals as goal

pub returns-clause-leave : goal.returns-clause-leave
returns-clause-leave c = deeds-leave-untouched

pub returns-clause-order : goal.returns-clause-order
returns-clause-order c = deeds-keep-order
