use Rattle.std.proofs.Common.{ℕ, List, subst}
use Rattle.std.specs.Prelude.{MatchOption}
use Rattle.id_choice.specs.Runs.{HasNothingFrom, IsFirstFrom}
use Rattle.id_choice.proofs.RunLemmas.{EndBefore, first-behind-by, first-here, passed-by-last, passed-by-none}
use Rattle.id_choice.proofs.runs.Runs.first_from.Goals.{in_default-via-in-Some+else-number-run, in_default-via-in_default}
use Rattle.id_choice.proofs.runs.Runs.first_from.Goals as goal

pub returns-in-Some : goal.returns-in-Some
returns-in-Some c =
    subst
    (λ (numbers : List ℕ). IsFirstFrom numbers c.args.number c.in-Some.run')
    c.self.view_is
    (first-here c.self.inside.runs c.self.invariant c.args.number
    c.in-Some.run' c.in-Some.ensures c.if-number-run.true)

pub returns-in_default : goal.returns-in_default
returns-in_default c =
    let runs = c.self.inside.runs
    in let number = c.args.number
    in let found = c.run_from.result
    in let passed : EndBefore runs number = elim c.in_default.branch [
      | in_default-via-in-Some+else-number-run w ↦
          passed-by-last runs c.self.invariant number w.in-Some.run' w.in-Some.ensures
          w.if-number-run.false
      | in_default-via-in_default w ↦
          passed-by-none runs c.self.invariant number w.in_default.ensures
    ]
    in subst
    (λ (numbers : List ℕ).
    MatchOption found (HasNothingFrom numbers number) (IsFirstFrom numbers number))
    c.self.view_is
    (first-behind-by runs c.self.invariant number found passed c.run_from.ensures)
