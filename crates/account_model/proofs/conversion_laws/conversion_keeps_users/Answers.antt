use Rattle.account_model.proofs.ConversionDeeds.{conversion-keeps-users}
use Rattle.account_model.proofs.conversion_laws.conversion_keeps_users.Goals as goal

pub returns : goal.returns
returns c = conversion-keeps-users
