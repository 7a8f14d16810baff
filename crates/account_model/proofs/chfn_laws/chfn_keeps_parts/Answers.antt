use Rattle.account_model.proofs.ChfnLaws.{chfn-keeps-parts}
use Rattle.account_model.proofs.chfn_laws.chfn_keeps_parts.Goals as goal

pub returns : goal.returns
returns c = chfn-keeps-parts
