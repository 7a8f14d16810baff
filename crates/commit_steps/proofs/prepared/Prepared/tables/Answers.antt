use Rattle.std.proofs.Common.{subst}
use Rattle.acct_text.specs.Contents.{IsChange}
use Rattle.commit_steps.specs.States.{Change, old_files, new_files}
use Rattle.commit_steps.proofs.prepared.Prepared.tables.Goals as goal

pub returns-clause-change : goal.returns-clause-change
returns-clause-change c =
    subst (λ (change : Change). IsChange (old_files change) (new_files change))
    c.self.view_is c.self.invariant.0
