use Rattle.std.proofs.Common.{◌==◌, ◌∙◌, sym, ap, Bool}
use Rattle.std.specs.Prelude.{◌&&◌, not}
use Rattle.std.specs.List.{list_any}
use Rattle.account_model.specs.Options.{OptionForm}
use Rattle.account_model.specs.Rows.{ToolRow}
use Rattle.account_model.specs.SeenRows.{form_of}
use Rattle.tool_answers.proofs.RowLemmas.{any-map}
use Rattle.tool_answers.proofs.wrapper_hint.is_flag.Goals as goal

pub returns : goal.returns
returns c =
    let is_so : OptionForm → Bool = λ form. not form.takes_value && form.letter == c.args.letter in
    c.has_flag.ensures ∙ sym (any-map form_of is_so c.row.result.now.options.now)
    ∙ ap (λ (row : ToolRow). list_any is_so row.options) c.row.ensures
