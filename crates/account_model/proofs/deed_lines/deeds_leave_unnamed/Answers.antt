use Rattle.account_model.proofs.NamedDeeds.{deeds-touch-named}
use Rattle.account_model.proofs.UnnamedLines.{deeds-leave-unnamed}
use Rattle.account_model.proofs.deed_lines.deeds_leave_unnamed.Goals as goal

pub returns-clause-touch : goal.returns-clause-touch
returns-clause-touch c = deeds-touch-named

pub returns-clause-leave : goal.returns-clause-leave
returns-clause-leave c = deeds-leave-unnamed
