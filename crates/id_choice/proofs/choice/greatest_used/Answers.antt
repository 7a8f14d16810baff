use Rattle.std.proofs.Common.{ℕ, sym, subst}
use Rattle.account_model.specs.Ids.{IsGreatest, UsedIn}
use Rattle.id_choice.proofs.ChoiceLemmas.{greatest-used-is, none-behind, none-up-to}
use Rattle.id_choice.proofs.choice.greatest_used.Goals as goal

pub returns-in-Some : goal.returns-in-Some
returns-in-Some c =
    let low = c.args.low
    in let high = c.args.high
    in let used = c.args.used.now
    in subst (λ (id : ℕ). IsGreatest (UsedIn low high used) id) (sym c.min.ensures)
    (greatest-used-is low high used c.in-Some.run' c.in-Some.ensures c.requires c.if-low-run.true)

pub returns-in_default : goal.returns-in_default
returns-in_default c =
    none-behind c.args.low c.args.high c.args.used.now c.in-Some.run' c.in-Some.ensures
    c.if-low-run.false

pub returns-in_default-2 : goal.returns-in_default-2
returns-in_default-2 c =
    none-up-to c.args.low c.args.high c.args.used.now c.in_default.ensures
