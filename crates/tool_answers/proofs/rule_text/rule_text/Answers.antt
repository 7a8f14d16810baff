use Rattle.std.proofs.Common.{◌≡◌, ◌∙◌, ap, suc, arith}
use Rattle.account_model.specs.Rows.{ToolRow}
use Rattle.account_model.specs.WordMessages.{text_at}
use Rattle.tool_answers.proofs.rule_text.rule_text.Goals as goal

pub returns : goal.returns
returns c =
    let place = c.in-Some-Some.place in
    let before = c.in-Some-Some.ensures {u = tt} in
    let number : c.args.number ≡ suc place = omega (arith, before.0, before.1) in
    rw (c.in-Some-Some.is-0, number)
    (c.text_at.ensures ∙ ap (λ (row : ToolRow). text_at row.rules place) c.row.ensures)
