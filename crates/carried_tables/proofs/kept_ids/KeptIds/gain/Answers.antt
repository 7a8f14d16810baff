use Rattle.std.proofs.Common.{ℕ, [], sym, subst}
use Rattle.std.specs.Prelude.{Option}
use Rattle.std.proofs.lemmas.Result.{on_ok_weaker}
use Rattle.carried_tables.specs.KeptIds.{FollowSwap, new_ids}
use Rattle.carried_tables.proofs.KeptIdLemmas.{none-gained}
use Rattle.carried_tables.proofs.kept_ids.KeptIds.gain.Goals as goal

-- an ID is gained
pub returns-in-Some : goal.returns-in-Some
returns-in-Some c =
    on_ok_weaker c.add.result (λ follow.
    subst (λ (gained : Option ℕ). FollowSwap c.args.self.now c.add.new.self [] (new_ids gained))
    (sym c.in-Some.is) follow)
    c.add.ensures

-- none is
pub returns-in-None : goal.returns-in-None
returns-in-None c =
    subst (λ (gained : Option ℕ). FollowSwap c.args.self.now c.args.self.now [] (new_ids gained))
    (sym c.in-None.is) (none-gained c.args.self.now)
