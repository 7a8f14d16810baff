use Rattle.std.proofs.Common.{sym, ◌∙◌, ap}
use Rattle.std.proofs.lemmas.Bool.{eq-eqb, ne_eqb}
use Rattle.account_model.specs.Text.{quote, without_last}
use Rattle.account_model.proofs.TextLaws.{without_last-same, without_last-other}
use Rattle.login_defs.proofs.lines.without_last_quote.Goals as goal

pub returns-then-last-eq34 : goal.returns-then-last-eq34
returns-then-last-eq34 c =
    let ends = c.in-Some.ensures.cases.0 in
    sym (ap (without_last quote) ends
    ∙ without_last-same quote _ c.in-Some.rest.now (eq-eqb _ _ c.if-last-eq34.true))

pub returns-else-last-eq34 : goal.returns-else-last-eq34
returns-else-last-eq34 c =
    let ends = c.in-Some.ensures.cases.0 in
    ends ∙ sym (ap (without_last quote) ends
    ∙ without_last-other quote _ c.in-Some.rest.now (ne_eqb _ _ c.if-last-eq34.false))
