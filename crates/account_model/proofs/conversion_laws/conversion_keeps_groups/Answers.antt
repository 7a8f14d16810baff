use Rattle.account_model.proofs.ConversionDeeds.{conversion-keeps-groups}
use Rattle.account_model.proofs.conversion_laws.conversion_keeps_groups.Goals as goal

pub returns : goal.returns
returns c = conversion-keeps-groups
