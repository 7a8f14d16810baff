use Rattle.std.proofs.Common.{sym, ap, ◌∙◌, refl}
use Rattle.account_model.specs.Rows.{ToolRow}
use Rattle.account_model.specs.SeenRows.{reporting_of}
use Rattle.option_words.proofs.parsed.Parsed.read_tables.Goals as goal

pub returns-then-has-2 : goal.returns-then-has-2
returns-then-has-2 c =
    let reporting =
    sym (ap (λ (row : ToolRow). row.reporting) c.row.ensures) ∙ ap reporting_of c.in-Always.is in
    let given = sym c.if-has-2.ensures in rw (reporting, given) refl

pub returns-else-has-2 : goal.returns-else-has-2
returns-else-has-2 c =
    let reporting =
    sym (ap (λ (row : ToolRow). row.reporting) c.row.ensures) ∙ ap reporting_of c.in-Always.is in
    let given = sym c.if-has-2.ensures in rw (reporting, given) refl
