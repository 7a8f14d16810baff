use Rattle.intent_file.proofs.TakesLemmas.{total-no_word, total-other, total-stands}
use Rattle.intent_file.proofs.cursor.Cursor.total.Goals as goal

pub returns-in_err-digits : goal.returns-in_err-digits
returns-in_err-digits c =
    rw c.from_residual.ensures
    (λ _ rest begins. total-no_word c.args.self.now c.in_err-digits.ensures rest begins.whole)

pub returns-in_err-number_written : goal.returns-in_err-number_written
returns-in_err-number_written c =
    rw c.from_residual-in_err-number_written.ensures
    (λ _ rest begins. total-other c.args.self.now c.in_ok-digits.digits.now c.word.new.self
    c.in_ok-digits.ensures (rw (← c.self.view_is) c.in_err-number_written.ensures) rest
    begins.whole)

pub returns : goal.returns
returns c = record {
  stands = tt;
  whole = total-stands c.args.self.now c.in_ok-digits.digits.now c.word.new.self
      c.in_ok-digits.ensures c.in_ok-number_written.field-0
      (rw (← c.self.view_is) c.in_ok-number_written.ensures.0) c.in_ok-number_written.ensures.1;
}
