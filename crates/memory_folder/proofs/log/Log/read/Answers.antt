use Rattle.std.proofs.Common.{◌∙◌, ap}
use Rattle.acct_outside.specs.Folder.{Folder}
use Rattle.acct_outside.specs.Calls.{found_within}
use Rattle.memory_folder.proofs.log.Log.read.Goals as goal

pub returns-clause-value : goal.returns-clause-value
returns-clause-value c =
    c.in_ok-found.ensures.value
    ∙ ap (λ (f : Folder). found_within c.args.limit (f.file c.args.name)) c.args.self.now.stands
