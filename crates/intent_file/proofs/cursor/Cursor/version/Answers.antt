use Rattle.intent_file.proofs.TakesLemmas.{version-no_word, version-no_number, version-stands}
use Rattle.intent_file.proofs.cursor.Cursor.version.Goals as goal

pub returns-in_err-literal : goal.returns-in_err-literal
returns-in_err-literal c =
    rw c.from_residual.ensures (version-no_word c.args.self.now c.in_err-literal.ensures)

pub returns-in_err-number : goal.returns-in_err-number
returns-in_err-number c =
    rw c.from_residual-in_err-number.ensures
    (version-no_number c.args.self.now c.literal.new.self c.in_ok-literal.ensures.whole
    c.in_err-number.ensures)

pub returns : goal.returns
returns c =
    rw c.version_of.ensures
    (version-stands c.args.self.now c.literal.new.self c.in_ok-literal.ensures.whole
    c.in_ok-number.number c.number.new.self c.in_ok-number.ensures)
