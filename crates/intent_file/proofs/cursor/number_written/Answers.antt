use Rattle.std.proofs.Common.{◌∙◌, refl, sym, ap, subst, arith, true≢false}
use Rattle.std.specs.Result.{result_ok}
use Rattle.intent_file.specs.Cursor.{HasLeadingZero}
use Rattle.intent_file.proofs.CursorLemmas.{digits-decimal, read-decimal, other-decimal, no_leading_zero}
use Rattle.intent_file.proofs.cursor.number_written.Goals as goal

pub returns-then-has_leading_zero : goal.returns-then-has_leading_zero
returns-then-has_leading_zero c = λ number between written.
    let most = between.1 in
    no_leading_zero number (omega arith)
    (subst HasLeadingZero written (c.if-has_leading_zero.ensures.0 refl))

pub returns-in_err-number : goal.returns-in_err-number
returns-in_err-number c =
    let none = c.in_err-number.ensures.value ∙ ap result_ok c.read_decimal.ensures in
    rw c.from_residual.ensures
    (λ number between. other-decimal c.args.greatest number c.args.digits.now
    (omega arith) between.1 (sym none))

pub returns-then-number-least : goal.returns-then-number-least
returns-then-number-least c = λ number between written.
    let some = c.in_ok-number.ensures.value ∙ ap result_ok c.read_decimal.ensures in
    let none =
    λ (leads : HasLeadingZero c.args.digits.now). true≢false
    (sym (c.if-has_leading_zero.ensures.1 leads)) in
    let same =
    read-decimal c.args.greatest c.in_ok-number.number number c.args.digits.now (omega arith)
    none (sym some) between.1 written in
    let least = between.0 in
    omega arith

pub returns-else-number-least : goal.returns-else-number-least
returns-else-number-least c =
    let some = c.in_ok-number.ensures.value ∙ ap result_ok c.read_decimal.ensures in
    let none =
    λ (leads : HasLeadingZero c.args.digits.now). true≢false
    (sym (c.if-has_leading_zero.ensures.1 leads)) in
    let read = digits-decimal c.args.greatest c.in_ok-number.number c.args.digits.now (omega arith)
    none (sym some) in
    ((omega arith, read.0), read.1)
