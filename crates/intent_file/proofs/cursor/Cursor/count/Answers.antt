use Rattle.intent_file.proofs.TakesLemmas.{count-no_number, count-no_total, count-stands}
use Rattle.intent_file.proofs.cursor.Cursor.count.Goals as goal

pub returns-in_err-count-in-Two : goal.returns-in_err-count-in-Two
returns-in_err-count-in-Two c =
    rw (c.in-Two.is, c.from_residual.ensures)
    (count-no_number c.args.self.now c.in_err-count-in-Two.ensures)

pub returns-in_err-total-in-Two : goal.returns-in_err-total-in-Two
returns-in_err-total-in-Two c =
    rw (c.in-Two.is, c.from_residual-in_err-total-in-Two.ensures)
    (count-no_total c.args.self.now c.number-in-Two.new.self c.in_ok-count-in-Two.count
    c.in_ok-count-in-Two.ensures
    (λ rest is. c.in_err-total-in-Two.ensures tt rest (record { stands = tt; whole = is })))

pub returns-in_ok-total-in-Two : goal.returns-in_ok-total-in-Two
returns-in_ok-total-in-Two c =
    rw c.in-Two.is
    (count-stands c.args.self.now c.number-in-Two.new.self c.in_ok-count-in-Two.count
    c.in_ok-count-in-Two.ensures c.total.new.self c.in_ok-total-in-Two.ensures.whole)
