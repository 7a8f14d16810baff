use Rattle.std.proofs.Common.{sym, ◌∙◌, ap}
use Rattle.std.specs.Prelude.{bytes_eq}
use Rattle.acct_dates.specs.Days.{answered}
use Rattle.acct_dates.proofs.WrittenDays.{other-text, empty-text, too-large}
use Rattle.acct_dates.proofs.read.read_day.Goals as goal

pub returns-in-Err-TooLarge : goal.returns-in-Err-TooLarge
returns-in-Err-TooLarge c =
    let text = c.args.text.now
    in let minus = sym (c.if-eq.ensures ∙ ap (bytes_eq text) c.as_slice.ensures)
    in too-large text minus (rw c.in-Err-TooLarge.field-0-is at c.in-Err-TooLarge.ensures)

pub returns-in-Err-Empty : goal.returns-in-Err-Empty
returns-in-Err-Empty c =
    empty-text c.args.text.now (rw c.in-Err-Empty.field-0-is at c.in-Err-Empty.ensures)

pub returns-in-Err-NotDigit : goal.returns-in-Err-NotDigit
returns-in-Err-NotDigit c =
    let text = c.args.text.now
    in let minus = sym (c.if-eq.ensures ∙ ap (bytes_eq text) c.as_slice.ensures)
    in let fault = rw c.in-Err-NotDigit.field-0-is at c.in-Err-NotDigit.ensures
    in c.read_date.ensures
    ∙ ap answered (sym (other-text text c.in-Err-NotDigit.field-0-0 minus fault))
