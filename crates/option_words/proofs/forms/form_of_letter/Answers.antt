use Rattle.std.proofs.Common.{◌∙◌, sym, ap}
use Rattle.std.proofs.lemmas.Bool.{ne_eqb}
use Rattle.account_model.specs.Rows.{ToolRow}
use Rattle.account_model.specs.ToolOptions.{root_letter}
use Rattle.option_words.proofs.forms.form_of_letter.Goals.{in_default-via-in-Command-2+else-letter-row, in_default-via-in_default}
use Rattle.option_words.proofs.forms.form_of_letter.Goals as goal

pub returns-in_default : goal.returns-in_default
returns-in_default c =
    let own = c.option.ensures in
    let root = ap (λ (row : ToolRow). row.root) c.row-row.ensures in
    elim c.in_default.branch [
      | in_default-via-in-Command-2+else-letter-row w ↦
          let no_prefix = ne_eqb 80 c.args.letter (λ is. w.if-letter-eq-PREFIX_LETTER.false (sym is)) in
          let no_root =
          ne_eqb (root_letter c.args.tool) c.args.letter
          (λ is. w.if-letter-row.false (sym (root ∙ is))) in
          rw (w.in-Command.is, no_prefix, no_root) own
      | in_default-via-in_default w ↦ rw w.in_default.is own
    ]
