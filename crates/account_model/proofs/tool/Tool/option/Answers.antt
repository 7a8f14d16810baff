use Rattle.std.proofs.Common.{◌==◌, ◌∙◌, sym, ap, find, option_map, Bool}
use Rattle.account_model.specs.Options.{OptionForm}
use Rattle.account_model.specs.Rows.{ToolRow}
use Rattle.account_model.specs.SeenRows.{form_of}
use Rattle.account_model.proofs.TableLemmas.{find-map}
use Rattle.account_model.proofs.tool.Tool.option.Goals as goal

pub returns : goal.returns
returns c =
    let has_letter : OptionForm → Bool = λ form. form.letter == c.args.letter in
    ap (option_map form_of) c.find_letter.ensures
    ∙ sym (find-map form_of has_letter c.row.result.now.options.now)
    ∙ ap (λ (row : ToolRow). find has_letter row.options) c.row.ensures
