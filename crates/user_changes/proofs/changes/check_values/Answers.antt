use Rattle.tool_answers.proofs.FirstRefusal.{handed-on, refuses-first}
use Rattle.user_changes.proofs.changes.check_values.Goals as goal

pub returns-in_err-check_value-7 : goal.returns-in_err-check_value-7
returns-in_err-check_value-7 c =
    let fault = c.in_err-check_value-7.field-0.0 in
    let comment = c.in_ok-check_value.ensures in
    let home = c.in_ok-check_value-2.ensures in
    let expiration = c.in_ok-check_value-3.ensures in
    let inactive = c.in_ok-check_value-4.ensures in
    let shell = c.in_ok-check_value-5.ensures in
    let hash = c.in_ok-check_value-6.ensures in
    handed-on _ c.from_residual-in_err-check_value-7.result fault
    c.from_residual-in_err-check_value-7.ensures.1
    (rw (comment, home, expiration, inactive, shell, hash)
    (refuses-first _ _ fault c.in_err-check_value-7.ensures))
