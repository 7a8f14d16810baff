use Rattle.std.proofs.Common.{◌∙◌, sym, ap, List, ℕ, Bor}
use Rattle.std.specs.Prelude.{bytes_eq}
use Rattle.account_model.specs.Rows.{ToolRow}
use Rattle.account_model.specs.Text.{is_listed}
use Rattle.tool_answers.proofs.RowLemmas.{any-map}
use Rattle.tool_answers.proofs.wrapper_hint.is_wrapper_name.Goals as goal

pub returns : goal.returns
returns c =
    let now : Bor (List ℕ) → List ℕ = λ text. text.now in
    c.is_one_of.ensures
    ∙ sym (any-map now (bytes_eq c.args.name.now) c.row.result.now.wrapper_names.now)
    ∙ ap (λ (row : ToolRow). is_listed c.args.name.now row.wrapper_names) c.row.ensures
