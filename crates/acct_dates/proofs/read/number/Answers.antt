use Rattle.std.proofs.Common.{◌≡◌, ◌<◌, ◌^◌, length, subst, arith, refl}
use Rattle.acct_text.proofs.NumberLaws.{is_digits-true}
use Rattle.acct_dates.proofs.WrittenDays.{read-number, digits-below, unread-digits}
use Rattle.acct_dates.proofs.read.number.Goals as goal

pub returns-in-Ok-clause-within : goal.returns-in-Ok-clause-within
returns-in-Ok-clause-within c =
    let text = c.args.text.now
    in let count = c.args.count
    in let long : length text ≡ count = omega arith
    in let is = read-number 9999 text c.in-Ok.number c.in-Ok.ensures
    in let below = digits-below text count (is_digits-true text is.digits) long
    in subst (λ number. number < 10 ^ count) is.value below

pub returns-in-Err-clause-value : goal.returns-in-Err-clause-value
returns-in-Err-clause-value c =
    let text = c.args.text.now
    in let count = c.args.count
    in let long : length text ≡ count = omega arith
    in rw (unread-digits text count c.in-Err.field-0 long c.requires c.in-Err.ensures) refl
