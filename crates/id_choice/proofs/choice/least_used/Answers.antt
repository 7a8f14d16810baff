use Rattle.std.proofs.Common.{ℕ, sym, subst}
use Rattle.account_model.specs.Ids.{IsLeast, UsedIn}
use Rattle.id_choice.proofs.ChoiceLemmas.{least-used-is, none-before, none-from}
use Rattle.id_choice.proofs.choice.least_used.Goals as goal

pub returns-in-Some : goal.returns-in-Some
returns-in-Some c =
    let low = c.args.low
    in let high = c.args.high
    in let used = c.args.used.now
    in subst (λ (id : ℕ). IsLeast (UsedIn low high used) id) (sym c.max.ensures)
    (least-used-is low high used c.in-Some.run' c.in-Some.ensures c.requires c.if-run-high.true)

pub returns-in_default : goal.returns-in_default
returns-in_default c =
    none-before c.args.low c.args.high c.args.used.now c.in-Some.run' c.in-Some.ensures
    c.if-run-high.false

pub returns-in_default-2 : goal.returns-in_default-2
returns-in_default-2 c =
    none-from c.args.low c.args.high c.args.used.now c.in_default.ensures
