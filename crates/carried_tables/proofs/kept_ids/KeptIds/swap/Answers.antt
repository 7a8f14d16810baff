use Rattle.std.proofs.Common.{◌∷◌, []}
use Rattle.std.proofs.lemmas.Result.{IfOk-weaker}
use Rattle.carried_tables.specs.KeptIds.{new_ids}
use Rattle.carried_tables.proofs.KeptIdLemmas.{both-follow}
use Rattle.carried_tables.proofs.kept_ids.KeptIds.swap.Goals as goal

-- the one is gained, and then the other is lost
pub returns : goal.returns
returns c =
    IfOk-weaker c.lose.result _ _ (λ is_known loses told.
    both-follow c.args.self.now c.gain.new.self c.lose.new.self (c.args.lost ∷ [])
    (new_ids c.args.gained) c.in_ok-gain.ensures (loses told))
    c.lose.ensures
