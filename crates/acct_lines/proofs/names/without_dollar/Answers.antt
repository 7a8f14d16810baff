use Rattle.std.proofs.Common.{sym, ◌∙◌, ap}
use Rattle.std.proofs.lemmas.Bool.{eq-eqb, ne_eqb}
use Rattle.account_model.specs.Text.{dollar, without_last}
use Rattle.account_model.proofs.TextLaws.{without_last-same, without_last-other}
use Rattle.acct_lines.proofs.names.without_dollar.Goals as goal

pub returns-then-last-eq36 : goal.returns-then-last-eq36
returns-then-last-eq36 c =
    let ends = c.in-Some.ensures.cases.0 in
    sym (ap (without_last dollar) ends
    ∙ without_last-same dollar _ c.in-Some.stem.now (eq-eqb _ _ c.if-last-eq36.true))

pub returns-else-last-eq36 : goal.returns-else-last-eq36
returns-else-last-eq36 c =
    let ends = c.in-Some.ensures.cases.0 in
    ends ∙ sym (ap (without_last dollar) ends
    ∙ without_last-other dollar _ c.in-Some.stem.now (ne_eqb _ _ c.if-last-eq36.false))
