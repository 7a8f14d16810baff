use Rattle.suite_rules.proofs.Reports.{reports-hold}
use Rattle.suite_rules.proofs.reports_hold.Goals as goal

pub returns : goal.returns
returns c = reports-hold
