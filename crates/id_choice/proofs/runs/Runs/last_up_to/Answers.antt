use Rattle.std.proofs.Common.{ℕ, List, subst}
use Rattle.std.specs.Prelude.{MatchOption}
use Rattle.id_choice.specs.Runs.{HasNothingUpTo, IsLastUpTo}
use Rattle.id_choice.proofs.RunLemmas.{last-up-to-by}
use Rattle.id_choice.proofs.runs.Runs.last_up_to.Goals as goal

pub returns : goal.returns
returns c =
    let number = c.args.number
    in let found = c.run_up_to.result
    in subst
    (λ (numbers : List ℕ).
    MatchOption found (HasNothingUpTo numbers number) (IsLastUpTo numbers number))
    c.self.view_is
    (last-up-to-by c.self.inside.runs c.self.invariant number found
    c.run_up_to.ensures)
