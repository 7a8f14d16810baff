use Rattle.std.proofs.Common.{◌∷◌, ◌∙◌, ap}
use Rattle.acct_dates.proofs.DatePieces.{month-missing, day-missing, date-read}
use Rattle.acct_dates.proofs.WrittenDays.{passed-on}
use Rattle.acct_dates.proofs.read.read_date.Goals as goal

pub returns-in_err-month : goal.returns-in_err-month
returns-in_err-month c =
    let text = c.args.text.now
    in let year = c.in-Some.first.before.now
    in let month = c.in-Some-cut_once.second.before.now
    in let day = c.in-Some-cut_once.second.behind.now
    in let pieces =
    c.in-Some.ensures.cut ∙ ap (λ rest. year ∷ rest) c.in-Some-cut_once.ensures.cut
    in let fault = c.in_err-month.field-0.0
    in let missing = month-missing text year month day pieces fault c.in_err-month.ensures.value
    in passed-on _ fault _ c.from_residual-in_err-month.ensures.1 missing

pub returns-in_err-day : goal.returns-in_err-day
returns-in_err-day c =
    let text = c.args.text.now
    in let year = c.in-Some.first.before.now
    in let month = c.in-Some-cut_once.second.before.now
    in let day = c.in-Some-cut_once.second.behind.now
    in let pieces =
    c.in-Some.ensures.cut ∙ ap (λ rest. year ∷ rest) c.in-Some-cut_once.ensures.cut
    in let fault = c.in_err-day.field-0.0
    in let missing = day-missing text year month day pieces fault c.in_err-day.ensures.value
    in passed-on _ fault _ c.from_residual-in_err-day.ensures.1 missing

pub returns : goal.returns
returns c =
    let year = c.in-Some.first.before.now
    in let pieces =
    c.in-Some.ensures.cut ∙ ap (λ rest. year ∷ rest) c.in-Some-cut_once.ensures.cut
    in let read = date-read
    c.args.text.now
    year
    c.in-Some-cut_once.second.before.now
    c.in-Some-cut_once.second.behind.now
    pieces
    c.in_ok-year.year
    c.in_ok-month.month
    c.in_ok-day.day
    c.in_ok-year.ensures.value
    c.in_ok-month.ensures.value
    c.in_ok-day.ensures.value
    in c.day_of.ensures ∙ read
