use Rattle.account_model.proofs.PasswdLaws.{lock-then-unlock}
use Rattle.account_model.proofs.passwd_laws.lock_then_unlock.Goals as goal

pub returns : goal.returns
returns c = lock-then-unlock
