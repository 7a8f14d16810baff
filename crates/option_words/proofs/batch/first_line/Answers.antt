use Rattle.option_words.proofs.BatchLemmas.{lines-cut}
use Rattle.option_words.proofs.batch.first_line.Goals as goal

pub returns-in-Some-clause-line : goal.returns-in-Some-clause-line
returns-in-Some-clause-line c = λ number.
    lines-cut number c.args.text.now c.in-Some.cut.before.now c.in-Some.cut.behind.now
    c.in-Some.ensures.cut
