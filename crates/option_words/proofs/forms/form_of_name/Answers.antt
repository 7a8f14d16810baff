use Rattle.std.proofs.Common.{◌∙◌, sym, ap, find, option_map, Bool}
use Rattle.account_model.specs.Options.{OptionForm}
use Rattle.account_model.specs.Rows.{ToolRow}
use Rattle.account_model.specs.SeenRows.{form_of}
use Rattle.account_model.specs.Spelling.{has_long_name}
use Rattle.account_model.proofs.TableLemmas.{find-map}
use Rattle.option_words.proofs.forms.form_of_name.Goals.{in_default-via-in-Command-2+else-has_long_name-2, in_default-via-in_default}
use Rattle.option_words.proofs.forms.form_of_name.Goals as goal

pub returns-in_default : goal.returns-in_default
returns-in_default c =
    let is_named : OptionForm → Bool = has_long_name c.args.name.now in
    let own =
    ap (option_map form_of) c.find_long_name.ensures
    ∙ sym (find-map form_of is_named c.row-row.result.now.options.now)
    ∙ ap (λ (row : ToolRow). find is_named row.options) c.row-row.ensures in
    elim c.in_default.branch [
      | in_default-via-in-Command-2+else-has_long_name-2 w ↦
          let no_prefix = sym (w.if-has_long_name.ensures {u = tt}) in
          let no_root = sym (w.if-has_long_name-2.ensures {u = tt}) in
          rw (w.in-Command.is, no_prefix, no_root) own
      | in_default-via-in_default w ↦ rw w.in_default.is own
    ]
