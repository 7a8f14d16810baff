use Rattle.std.proofs.Common.{◌≡◌, true, sym, ap, ◌∙◌, rules, if◌then◌else◌}
use Rattle.std.specs.Prelude.{Bool, None}
use Rattle.std.proofs.lemmas.Result.{IfOk-weaker}
use Rattle.account_model.specs.Request.{operand}
use Rattle.account_model.specs.Users.{group_named}
use Rattle.user_removal.proofs.own_group.own_group.Goals as goal

pub returns : goal.returns
returns c =
    let files = c.args.tables.now in
    let group = group_named (operand c.args.asked.now) files in
    let flag : c.flag.result ≡ true = search rules in
    IfOk-weaker c.group_named.result _ _ (λ found is settings has. is
    ∙ ap (λ name. group_named name files) c.operand.ensures
    ∙ ap (λ (own : Bool). if own then group else None) (sym flag ∙ c.flag.ensures settings has))
    c.group_named.ensures
