use Rattle.std.proofs.Common.{◌∙◌, ap}
use Rattle.std.specs.Prelude.{unwrap_or}
use Rattle.account_model.specs.UsermodHash.{relocked_hash}
use Rattle.user_changes.proofs.hash.hash_change.Goals as goal

pub returns-in-None : goal.returns-in-None
returns-in-None c =
    let asked = c.args.asked.now in
    c.lock_change.ensures
    ∙ ap (λ given. λ hash. unwrap_or given (relocked_hash asked hash)) (c.in-None.ensures {u = tt})
