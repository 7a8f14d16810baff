use Rattle.std.proofs.Common.{◌∙◌, sym, ap}
use Rattle.account_model.specs.Text.{comma, has_byte}
use Rattle.user_changes.proofs.RefusalLemmas.{listed}
use Rattle.user_changes.proofs.conflicts.check_listed.Goals as goal

pub returns-then-not-has_byte : goal.returns-then-not-has_byte
returns-then-not-has_byte c =
    listed c.args.asked.now c.args.tables.now
    (ap (has_byte comma) (sym c.operand-user.ensures) ∙ sym c.has_byte.ensures
    ∙ c.if-not-has_byte.true)
