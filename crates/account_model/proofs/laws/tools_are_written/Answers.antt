use Rattle.account_model.proofs.ToolLaws.{tools-written}
use Rattle.account_model.proofs.laws.tools_are_written.Goals as goal

pub returns : goal.returns
returns c = tools-written
