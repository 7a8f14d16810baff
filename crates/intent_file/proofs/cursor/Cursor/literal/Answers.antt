use Rattle.intent_file.proofs.CursorLemmas.{literal-taken, literal-missed}
use Rattle.intent_file.proofs.cursor.Cursor.literal.Goals as goal

pub returns-in_err-self-inside : goal.returns-in_err-self-inside
returns-in_err-self-inside c =
    rw c.from_residual.ensures
    (literal-missed c.args.text.now c.args.self.now
    (rw (← c.self.view_is) c.in_err-self-inside.ensures.cases))

pub returns : goal.returns
returns c =
    let cases = c.in_ok-self-inside.ensures.cases in record {
      stands = tt;
      whole = literal-taken c.args.text.now c.args.self.now _ (rw (← c.self.view_is) cases.0)
          (rw (← c.self.view_is) cases.1);
    }
