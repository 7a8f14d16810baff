use Rattle.std.proofs.Common.{◌∙◌, sym}
use Rattle.intent_file.proofs.CursorLemmas.{comes_behind-last, lt-place}
use Rattle.intent_file.proofs.cursor.comes_behind.Goals as goal

pub returns-in-Some : goal.returns-in-Some
returns-in-Some c =
    c.lt.ensures ∙ (lt-place c.in-Some.last.now.table c.args.table
    ∙ sym (comes_behind-last c.args.table c.args.before.now c.in-Some.last.now
    (sym c.in-Some.ensures.value)))
