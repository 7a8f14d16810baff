use Rattle.std.proofs.Common.{sym, ap, ◌∙◌}
use Rattle.account_model.specs.Rows.{ToolRow}
use Rattle.account_model.specs.SeenRows.{reporting_of}
use Rattle.option_words.proofs.parsed.Parsed.reports.Goals as goal

pub returns-in-WhereGiven : goal.returns-in-WhereGiven
returns-in-WhereGiven c =
    let reporting =
    sym (ap (λ (row : ToolRow). row.reporting) c.row.ensures) ∙ ap reporting_of c.in-WhereGiven.is in
    rw reporting c.has.ensures
