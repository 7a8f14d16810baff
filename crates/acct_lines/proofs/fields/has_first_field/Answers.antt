use Rattle.std.proofs.Common.{◌∙◌, sym}
use Rattle.acct_lines.proofs.FirstField.{other-first}
use Rattle.acct_lines.proofs.fields.has_first_field.Goals as goal

pub returns-then-not-starts_with : goal.returns-then-not-starts_with
returns-then-not-starts_with c =
    other-first c.args.line.now c.args.text.now
    (sym c.starts_with.ensures.value ∙ c.if-not-starts_with.true)
