use Rattle.std.proofs.Common.{sym, ◌∙◌, ap}
use Rattle.std.proofs.lemmas.Bool.{eq-eqb, ne_eqb}
use Rattle.acct_text.specs.Bytes.{newline}
use Rattle.account_model.specs.Text.{without_last}
use Rattle.account_model.proofs.TextLaws.{without_last-same, without_last-other}
use Rattle.plan_tool.proofs.json.without_newline.Goals as goal

pub returns-then-last-eq10 : goal.returns-then-last-eq10
returns-then-last-eq10 c =
    let ends = c.in-Some.ensures.cases.0 in
    sym (ap (without_last newline) ends
    ∙ without_last-same newline _ c.in-Some.line.now (eq-eqb _ _ c.if-last-eq10.true))

pub returns-else-last-eq10 : goal.returns-else-last-eq10
returns-else-last-eq10 c =
    let ends = c.in-Some.ensures.cases.0 in
    ends ∙ sym (ap (without_last newline) ends
    ∙ without_last-other newline _ c.in-Some.line.now (ne_eqb _ _ c.if-last-eq10.false))
